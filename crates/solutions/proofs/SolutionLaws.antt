-- What other crates use of Exhibit B-3 instead of its text: the line that is read is the lowest not below, and what holds of each
-- line holds of it.
-- Assumes nothing.
use Rattle.std.specs.Prelude.{ℕ, max, ◌≤◌, ◌<◌, ◌≡◌, refl, Bool, true, false, List, [], ◌∷◌, map, leb, ltb, eqb}
use Rattle.std.proofs.Common.{arith, sym, leb-true, leb-false, ltb-true, ltb-false, eqb-true, eq-eqb}
use Rattle.std.proofs.lemmas.Bool.{eqb-false}
use Rattle.search.specs.Laws.{both_true}
use Rattle.search.specs.Places.{among, every}
use Rattle.search.specs.PlaceLaws.{neither, among_each}
use Rattle.exhibits.specs.declared.Toxic.{Toxic}
use Rattle.exhibits.specs.declared.Toxic.TheVariants.{OutOfRange, NotListed}
use Rattle.exhibits.specs.Printed.{SolutionLine}
use Rattle.exhibits.specs.Laws.{Within}
use Rattle.exhibits.proofs.Laws.{fits, fits_within, Positive, has_endpoint, above_zero}
use Rattle.solutions.specs.PrintedB3.{b3}
use Rattle.solutions.specs.Solutions.{solution_cas, percent_of, solution_in, lines_of, Found, none, found, lower, lowest, highest, bad_percent, line_read, unless_out, solution_of}

-- a line stands in a list
pub data In (line : SolutionLine) : List SolutionLine → Type 0 where
  first : (rest : List SolutionLine) → In line (line ∷ rest)
  later : (other : SolutionLine) (rest : List SolutionLine) → In line rest → In line (other ∷ rest)

-- "the lowest printed one not below it", of a substance and its concentration
pub record Lowest (cas tenths : ℕ) (line : SolutionLine) : Type 0 where
  pub printed : In line b3
  pub substance : solution_cas line ≡ cas
  pub not_below : tenths ≤ percent_of line
  pub lowest : (other : SolutionLine) → In other b3 → solution_cas other ≡ cas → tenths ≤ percent_of other
      → percent_of line ≤ percent_of other

-- what Exhibit B-3 says of a CAS number and a concentration, and where it is read
pub data Says (cas tenths : ℕ) : Toxic → Type 0 where
  a_line : (line : SolutionLine) → among cas (map solution_cas b3) ≡ true → bad_percent cas tenths ≡ false
      → Lowest cas tenths line → Says cas tenths (solution_in line)
  out_of_range : among cas (map solution_cas b3) ≡ true → bad_percent cas tenths ≡ true → Says cas tenths OutOfRange
  not_listed : among cas (map solution_cas b3) ≡ false → Says cas tenths NotListed

-- ---- the lines of a substance

-- they are its own
own_lines : (cas : ℕ) (lines : List SolutionLine) (m : SolutionLine) → In m (lines_of cas lines) → In m lines × (solution_cas m ≡ cas)
unfolding lines_of
own_lines cas [] = λ m. elim [ ]
own_lines cas (line ∷ rest) = go (eqb cas (solution_cas line)) refl (own_lines cas rest)
  where
    go : (t : Bool) → eqb cas (solution_cas line) ≡ t → ((m : SolutionLine) → In m (lines_of cas rest) → In m rest × (solution_cas m ≡ cas))
        → (m : SolutionLine) → In m (elim t as (λ _. List SolutionLine) [ true ↦ line ∷ lines_of cas rest | false ↦ lines_of cas rest ]) → In m (line ∷ rest) × (solution_cas m ≡ cas)
    go true p ih _ (first _) = (first rest, sym (eqb-true cas (solution_cas line) p))
    go true p ih m (later _ _ j) = (later line rest (ih m j).0, (ih m j).1)
    go false p ih m j = (later line rest (ih m j).0, (ih m j).1)

-- and all of them
all_lines : (cas : ℕ) (lines : List SolutionLine) {m : SolutionLine} → In m lines → solution_cas m ≡ cas → In m (lines_of cas lines)
unfolding lines_of
all_lines cas [] {m = m} j e = elim j [ ]
all_lines cas (line ∷ rest) (first _) e = rw (eq-eqb cas (solution_cas line) (sym e), lines_of) (first (lines_of cas rest))
all_lines cas (line ∷ rest) {m} (later _ _ j) e = go (eqb cas (solution_cas line)) (all_lines cas rest j e)
  where
    go : (t : Bool) → In m (lines_of cas rest) → In m (elim t as (λ _. List SolutionLine) [ true ↦ line ∷ lines_of cas rest | false ↦ lines_of cas rest ])
    go true ih = later line (lines_of cas rest) ih
    go false ih = ih

-- ---- the lowest not below

-- a line of a list that is not below, and no other of the list that is not below is lower
pub record LowestOf (tenths : ℕ) (lines : List SolutionLine) (line : SolutionLine) : Type 0 where
  pub stands : In line lines
  pub not_below : tenths ≤ percent_of line
  pub least : (m : SolutionLine) → In m lines → tenths ≤ percent_of m → percent_of line ≤ percent_of m

-- what is found is that line; where nothing is found, every line is below
abbrev pub Rightly : ℕ → List SolutionLine → Found → Type 0
Rightly tenths lines none = (m : SolutionLine) → In m lines → percent_of m < tenths
Rightly tenths lines (found line) = LowestOf tenths lines line

module _ (tenths : ℕ) (line : SolutionLine) (rest : List SolutionLine) where
  -- a line in front that is below
  below : percent_of line < tenths → (x : Found) → Rightly tenths rest x → Rightly tenths (line ∷ rest) x
  below h none r = front
    where
      front : (m : SolutionLine) → In m (line ∷ rest) → percent_of m < tenths
      front _ (first _) = h
      front m (later _ _ j) = r m j
  below h (found l) r = record { stands = later line rest r.stands; not_below = r.not_below; least = front }
    where
      front : (m : SolutionLine) → In m (line ∷ rest) → tenths ≤ percent_of m → percent_of l ≤ percent_of m
      front _ (first _) k = absurd (omega arith)
      front m (later _ _ j) k = r.least m j k

  -- one that is not below
  reached : tenths ≤ percent_of line → (x : Found) → Rightly tenths rest x → Rightly tenths (line ∷ rest) (lower line x)
  reached h none r = record { stands = first rest; not_below = h; least = front }
    where
      front : (m : SolutionLine) → In m (line ∷ rest) → tenths ≤ percent_of m → percent_of line ≤ percent_of m
      front _ (first _) k = omega arith
      front m (later _ _ j) k = absurd (omega (arith, r m j))
  reached h (found l) r = go (leb (percent_of line) (percent_of l)) refl
    where
      front : (n : ℕ) → n ≤ percent_of line → n ≤ percent_of l → (m : SolutionLine) → In m (line ∷ rest) → tenths ≤ percent_of m → n ≤ percent_of m
      front n a b _ (first _) k = a
      front n a b m (later _ _ j) k = omega (arith, r.least m j k)

      go : (t : Bool) → leb (percent_of line) (percent_of l) ≡ t → Rightly tenths (line ∷ rest) (elim t as (λ _. Found) [ true ↦ found line | false ↦ found l ])
      go true p =
          record { stands = first rest; not_below = h; least = front (percent_of line) (omega arith) (leb-true (percent_of line) (percent_of l) p) }
      go false p =
          let k : percent_of l < percent_of line = leb-false (percent_of line) (percent_of l) p in
          record { stands = later line rest r.stands; not_below = r.not_below; least = front (percent_of l) (omega arith) (omega arith) }

pub lowest_right : (tenths : ℕ) (lines : List SolutionLine) → Rightly tenths lines (lowest tenths lines)
unfolding lowest
lowest_right tenths [] = λ m. elim [ ]
lowest_right tenths (line ∷ rest) = go (leb tenths (percent_of line)) refl (lowest_right tenths rest)
  where
    go : (t : Bool) → leb tenths (percent_of line) ≡ t → Rightly tenths rest (lowest tenths rest)
        → Rightly tenths (line ∷ rest) (elim t as (λ _. Found) [ true ↦ lower line (lowest tenths rest) | false ↦ lowest tenths rest ])
    go true p ih = reached tenths line rest (leb-true tenths (percent_of line) p) (lowest tenths rest) ih
    go false p ih = below tenths line rest (leb-false tenths (percent_of line) p) (lowest tenths rest) ih

-- ---- up to the highest there is one

-- the highest is reached, where there is a line at all
abbrev Stands : List SolutionLine → ℕ → Type 0
Stands lines n = (m : SolutionLine) × In m lines × (percent_of m ≡ n)

highest_stands : (lines : List SolutionLine) → 0 < highest lines → Stands lines (highest lines)
unfolding highest
highest_stands [] h = absurd (omega arith)
highest_stands (line ∷ rest) h = go (leb (highest rest) (percent_of line)) refl (highest_stands rest)
  where
    go : (t : Bool) → leb (highest rest) (percent_of line) ≡ t → (0 < highest rest → Stands rest (highest rest)) → Stands (line ∷ rest) (max (percent_of line) (highest rest))
    go true p ih = (line, first rest, omega (arith, leb-true (highest rest) (percent_of line) p))
    go false p ih =
        let k : percent_of line < highest rest = leb-false (highest rest) (percent_of line) p in
        let m = ih (omega arith) in
        (m.0, later line rest m.1, omega (arith, m.2))

-- and no line is above it
pub under_highest : (lines : List SolutionLine) {m : SolutionLine} → In m lines → percent_of m ≤ highest lines
unfolding highest
under_highest [] {m = m} j = elim j [ ]
under_highest (line ∷ rest) (first _) = omega arith
under_highest (line ∷ rest) (later _ _ j) = omega (arith, under_highest rest j)

-- ---- what is read

pub says : (cas tenths : ℕ) → Says cas tenths (solution_of cas tenths)
unfolding solution_of bad_percent
says cas tenths = go (among cas (map solution_cas b3)) (bad_percent cas tenths) refl refl
  where
    line_read_lem : (x : Found) → among cas (map solution_cas b3) ≡ true → bad_percent cas tenths ≡ false → Rightly tenths (lines_of cas b3) x → Says cas tenths (line_read x)
    line_read_lem none p q r =
        let in_range = neither (eqb tenths 0) (ltb (highest (lines_of cas b3)) tenths) q in
        let some : tenths ≡ 0 → ⊥ = eqb-false tenths 0 in_range.0 in
        let top : tenths ≤ highest (lines_of cas b3) = ltb-false (highest (lines_of cas b3)) tenths in_range.1 in
        let m = highest_stands (lines_of cas b3) (omega arith) in
        absurd (omega (arith, r m.0 m.1, m.2))
    line_read_lem (found line) p q r =
        let own = own_lines cas b3 line r.stands in
        a_line line p q
        (record {
          printed = own.0;
          substance = own.1;
          not_below = r.not_below;
          lowest = λ other i e h. r.least other (all_lines cas b3 i e) h;
        })

    go : (l b : Bool) → among cas (map solution_cas b3) ≡ l → bad_percent cas tenths ≡ b
        → Says cas tenths (elim l as (λ _. Toxic) [ true ↦ unless_out b (line_read (lowest tenths (lines_of cas b3))) | false ↦ NotListed ])
    go true true p q = out_of_range p q
    go true false p q = line_read_lem (lowest tenths (lines_of cas b3)) p q (lowest_right tenths (lines_of cas b3))
    go false b p q = not_listed p

-- ---- what holds of each line

in_each : (ok : SolutionLine → Bool) (lines : List SolutionLine) (m : SolutionLine) → In m lines → every ok lines ≡ true → ok m ≡ true
in_each ok [] m j e = elim j [ ]
in_each ok (line ∷ rest) _ (first _) e = (both_true (ok line) (every ok rest) e).0
in_each ok (line ∷ rest) m (later _ _ j) e = in_each ok rest m j (both_true (ok line) (every ok rest) e).1

-- a test that passes at each line, and where none is read, passes at any CAS number and concentration
pub dissolved : (ok : Toxic → Bool) → ok NotListed ≡ true → ok OutOfRange ≡ true → every (λ l. ok (solution_in l)) b3 ≡ true → (cas tenths : ℕ) → ok (solution_of cas tenths) ≡ true
dissolved ok absent out all cas tenths = go (solution_of cas tenths) (says cas tenths)
  where
    go : (t : Toxic) → Says cas tenths t → ok t ≡ true
    go _ (a_line line p q l) = in_each (λ m. ok (solution_in m)) b3 line l.printed all
    go _ (out_of_range p q) = out
    go _ (not_listed p) = absent

-- a CAS number that is in Exhibit B-3 has at most eight digits
pub solution_below : (cas tenths : ℕ) → (solution_of cas tenths ≡ NotListed → ⊥) → cas < 100_000_000
unfolding b3
solution_below cas tenths n = go (solution_of cas tenths) (says cas tenths) n
  where
    below_limit : among cas (map solution_cas b3) ≡ true → cas < 100_000_000
    below_limit e = ltb-true cas 100_000_000 (among_each (λ c. ltb c 100_000_000) cas (map solution_cas b3) refl e)

    go : (t : Toxic) → Says cas tenths t → (t ≡ NotListed → ⊥) → cas < 100_000_000
    go _ (a_line line p q l) n = below_limit p
    go _ (out_of_range p q) n = below_limit p
    go _ (not_listed p) n = absurd (n refl)

-- a concentration in range is at most 100 percent
pub solution_percent : (cas tenths : ℕ) → (solution_of cas tenths ≡ NotListed → ⊥) → (solution_of cas tenths ≡ OutOfRange → ⊥) → tenths ≤ 1_000
unfolding b3
solution_percent cas tenths n m = go (solution_of cas tenths) (says cas tenths) n m
  where
    go : (t : Toxic) → Says cas tenths t → (t ≡ NotListed → ⊥) → (t ≡ OutOfRange → ⊥) → tenths ≤ 1_000
    go _ (a_line line p q l) n m =
        omega (arith, l.not_below, leb-true (percent_of line) 1_000 (in_each (λ x. leb (percent_of x) 1_000) b3 line l.printed refl))
    go _ (out_of_range p q) n m = absurd (m refl)
    go _ (not_listed p) n m = absurd (n refl)

-- each factor is within its limit
pub solution_within : (cas tenths : ℕ) → Within (solution_of cas tenths)
unfolding fits b3
solution_within cas tenths = fits_within (solution_of cas tenths) (dissolved fits refl refl refl cas tenths)

-- no endpoint is zero
pub solution_positive : (cas tenths : ℕ) → Positive (solution_of cas tenths)
unfolding b3
solution_positive cas tenths = above_zero (solution_of cas tenths) (dissolved has_endpoint refl refl refl cas tenths)
