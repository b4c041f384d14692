-- Exhibit B-3 as the code goes through it: between two printed concentrations of a substance the upper one is read.
-- Assumes nothing.
use Prim.Native.Nat.{ℕ, suc, ◌≤◌, ◌<◌}
use native.Mathlib.Omega.{arith}
use mathlib.Core.Path.{◌≡◌, ◌∙◌, refl, sym, ap, ap₂}
use mathlib.Core.Bool.{Bool, true, false}
use mathlib.Core.List.{List, [], ◌∷◌, map}
use lib.Dec.{leb, ltb, eqb}
use borrow.Author.Tests.{leb-true, le-leb, lt-leb, le-ltb, ne_eqb}
use Rattle.search.specs.Laws.{clash, both_true}
use Rattle.search.specs.Places.{either, among, every}
use Rattle.search.specs.PlaceLaws.{among_each}
use Rattle.search.specs.Arms.{Missed, missed}
use Rattle.exhibits.specs.declared.Toxic.{Toxic}
use Rattle.exhibits.specs.declared.Toxic.TheVariants.{OutOfRange, NotListed}
use Rattle.exhibits.specs.Printed.{SolutionLine}
use Rattle.solutions.specs.PrintedB3.{b3}
use Rattle.solutions.specs.Solutions.{solution_cas, percent_of, lines_of, Found, none, found, lower, lowest, highest, bad_percent, line_read, unless_out, solution_of}
use Rattle.solutions.proofs.SolutionLaws.{Rightly, lowest_right, under_highest}

-- what is read of Exhibit B-3 where the concentration is not zero
unfoldable pub read_at : ℕ → ℕ → Toxic
read_at cas tenths =
    elim (among cas (map solution_cas b3)) [ true ↦ line_read (lowest tenths (lines_of cas b3)) | false ↦ NotListed ]

nonzero : (cas tenths : ℕ) → (tenths ≡ 0 → ⊥) → read_at cas tenths ≡ solution_of cas tenths
unfolding solution_of read_at bad_percent
nonzero cas tenths n =
    go (among cas (map solution_cas b3)) (eqb tenths 0) (ne_eqb tenths 0 n) (lowest tenths (lines_of cas b3)) (lowest_right tenths (lines_of cas b3))
  where
    out : (b : Bool) → OutOfRange ≡ unless_out b OutOfRange
    out true = refl
    out false = refl

    go : (l zero : Bool) → zero ≡ false → (x : Found) → Rightly tenths (lines_of cas b3) x
        → (elim l as (λ _. Toxic) [ true ↦ line_read x | false ↦ NotListed ])
        ≡ (elim l as (λ _. Toxic) [ true ↦ unless_out (either zero (ltb (highest (lines_of cas b3)) tenths)) (line_read x) | false ↦ NotListed ])
    go false zero e x r = refl
    go true true e x r = clash (cc)
    go true false e none r = out (ltb (highest (lines_of cas b3)) tenths)
    go true false e (found line) r =
        rw (le-ltb (highest (lines_of cas b3)) tenths (omega (arith, r.not_below, under_highest (lines_of cas b3) r.stands)), unless_out)

-- a concentration of zero, at a substance's own number
pub at_zero : (key : ℕ) {r : Toxic} (cas tenths : ℕ) → cas ≡ key → tenths ≡ 0 → r ≡ solution_of key 0 → r ≡ solution_of cas tenths
at_zero key cas tenths e z q = q ∙ sym (ap₂ solution_of e z)

-- two concentrations that every line of a list tells alike read the same
alike : (a b : ℕ) (test : ℕ → Bool) → ((p : ℕ) → test p ≡ true → leb a p ≡ leb b p) → (lines : List SolutionLine) → every (λ l. test (percent_of l)) lines ≡ true → lowest a lines ≡ lowest b lines
unfolding lowest
alike a b test pass [] e = refl
alike a b test pass (line ∷ rest) e =
    let halves = both_true (test (percent_of line)) (every (λ l. test (percent_of l)) rest) e in
    ap₂ (λ (t : Bool) (x : Found). elim t as (λ _. Found) [ true ↦ lower line x | false ↦ x ]) (pass (percent_of line) halves.0) (alike a b test pass rest halves.1)

-- what a substance's arm reads at another concentration of the same step
step : (key a b : ℕ) → lowest a (lines_of key b3) ≡ lowest b (lines_of key b3) → {r : Toxic} (cas : ℕ) → cas ≡ key → (a ≡ 0 → ⊥) → r ≡ read_at key b → r ≡ solution_of cas a
unfolding read_at
step key a b same cas e n q =
    q
    ∙ (ap (λ x. elim (among key (map solution_cas b3)) as (λ _. Toxic) [ true ↦ line_read x | false ↦ NotListed ]) (sym same)
    ∙ (ap (λ k. read_at k a) (sym e) ∙ nonzero cas a n))

-- the first step: up to the lowest printed concentration
pub up_to : (key high : ℕ) → every (λ l. leb high (percent_of l)) (lines_of key b3) ≡ true → {r : Toxic} (cas tenths : ℕ) → cas ≡ key → (tenths ≡ 0 → ⊥) → tenths < suc high → r ≡ read_at key high → r ≡ solution_of cas tenths
up_to key high all cas tenths e n h q =
    step key tenths high (alike tenths high (λ p. leb high p) pass (lines_of key b3) all) cas e n q
  where
    pass : (p : ℕ) → leb high p ≡ true → leb tenths p ≡ leb high p
    pass p k = le-leb tenths p (omega (arith, leb-true high p k)) ∙ sym k

-- the steps behind it: above one printed concentration and up to the next
pub between : (key low high : ℕ) → every (λ l. either (leb (percent_of l) low) (leb high (percent_of l))) (lines_of key b3) ≡ true → {r : Toxic} (cas tenths : ℕ) → cas ≡ key → (tenths ≡ 0 → ⊥) → suc low ≤ tenths → tenths < suc high → r ≡ read_at key high → r ≡ solution_of cas tenths
between key low high all cas tenths e n k h q =
    step key tenths high (alike tenths high (λ p. either (leb p low) (leb high p)) pass (lines_of key b3) all) cas e n q
  where
    pass : (p : ℕ) → either (leb p low) (leb high p) ≡ true → leb tenths p ≡ leb high p
    pass p t = go (leb p low) refl t
      where
        go : (b : Bool) → leb p low ≡ b → either b (leb high p) ≡ true → leb tenths p ≡ leb high p
        go true u v =
            let w : p ≤ low = leb-true p low u in lt-leb tenths p (omega arith) ∙ sym (lt-leb high p (omega arith))
        go false u v = le-leb tenths p (omega (arith, leb-true high p v)) ∙ sym v

-- the last: above the highest
pub above : (key low : ℕ) → every (λ l. leb (percent_of l) low) (lines_of key b3) ≡ true → {r : Toxic} (cas tenths : ℕ) → cas ≡ key → (tenths ≡ 0 → ⊥) → suc low ≤ tenths → r ≡ read_at key (suc low) → r ≡ solution_of cas tenths
above key low all cas tenths e n k q =
    step key tenths (suc low) (alike tenths (suc low) (λ p. leb p low) pass (lines_of key b3) all) cas e n q
  where
    pass : (p : ℕ) → leb p low ≡ true → leb tenths p ≡ leb (suc low) p
    pass p t =
        let w : p ≤ low = leb-true p low t in lt-leb tenths p (omega arith) ∙ sym (lt-leb (suc low) p (omega arith))

-- a CAS number that no arm has
pub no_line : (cas tenths : ℕ) (keys : List ℕ) → every (λ c. among c keys) (map solution_cas b3) ≡ true → Missed cas keys → NotListed ≡ solution_of cas tenths
unfolding solution_of
no_line cas tenths keys all m = go (among cas (map solution_cas b3)) refl
  where
    go : (t : Bool) → among cas (map solution_cas b3) ≡ t
        → NotListed ≡ (elim t as (λ _. Toxic) [ true ↦ unless_out (bad_percent cas tenths) (line_read (lowest tenths (lines_of cas b3))) | false ↦ NotListed ])
    go true p =
        let found : among cas keys ≡ true = among_each (λ c. among c keys) cas (map solution_cas b3) all p in
        let lost : among cas keys ≡ false = missed cas keys m in
        clash (cc)
    go false p = refl
