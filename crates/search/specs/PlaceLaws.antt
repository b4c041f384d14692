-- What callers use of looking a number up instead of its text. Each holds of any list.
-- Assumes nothing.
use Rattle.std.specs.Prelude.{ℕ, zero, suc, Bool, not, get_or}
use Rattle.std.proofs.Common.{arith, ap, ◌∙◌, eqb-true}
use Rattle.std.proofs.Math.Path.{◌≡◌, refl, sym}
use mathlib.Core.List.{List, [], ◌∷◌, ◌++◌, map}
use Rattle.std.proofs.Math.Bool.{true, false}
use Rattle.std.proofs.Math.Dec.{eqb}
use Rattle.std.proofs.lemmas.Bool.{not-true}
use Rattle.search.specs.Laws.{clash, both_true}
use Rattle.search.specs.Places.{either, among, every, look_up}

-- where none of two tests passes, each fails
pub neither : (s t : Bool) → either s t ≡ false → (s ≡ false) × (t ≡ false)
neither true t e = clash (cc)
neither false t e = (refl, e)

-- x is in neither of two lists that together do not have it
pub among_apart : (x : ℕ) (xs ys : List ℕ) → among x (xs ++ ys) ≡ false → (among x xs ≡ false) × (among x ys ≡ false)
unfolding among
among_apart x [] ys e = (refl, e)
among_apart x (a ∷ rest) ys e = go (eqb x a) (among_apart x rest ys) e
  where
    go : (t : Bool) → (among x (rest ++ ys) ≡ false → (among x rest ≡ false) × (among x ys ≡ false)) → either t (among x (rest ++ ys)) ≡ false → (either t (among x rest) ≡ false) × (among x ys ≡ false)
    go true ih e = let z : ◌≡◌ {A = ℕ} 0 1 = cc in absurd (omega arith)
    go false ih e = ih e

-- x is in the first of two lists and therefore not in the second, where no entry of the first is one of the second
pub among_one : (x : ℕ) (xs ys : List ℕ) → every (λ a. not (among a ys)) xs ≡ true → among x xs ≡ true → among x ys ≡ false
unfolding among
among_one x [] ys all e = let z : ◌≡◌ {A = ℕ} 0 1 = cc in absurd (omega arith)
among_one x (a ∷ rest) ys all e = go (eqb x a) refl (among_one x rest ys halves.1) e
  where
    halves : (not (among a ys) ≡ true) × (every (λ b. not (among b ys)) rest ≡ true)
    halves = both_true (not (among a ys)) (every (λ b. not (among b ys)) rest) all

    go : (t : Bool) → eqb x a ≡ t → (among x rest ≡ true → among x ys ≡ false) → either t (among x rest) ≡ true → among x ys ≡ false
    go true p ih q = ap (λ (n : ℕ). among n ys) (eqb-true x a p) ∙ not-true (among a ys) halves.0
    go false p ih q = ih q

-- a test that passes at every entry of a list passes at each number that is one of them
pub among_each : (ok : ℕ → Bool) (x : ℕ) (xs : List ℕ) → every ok xs ≡ true → among x xs ≡ true → ok x ≡ true
unfolding among
among_each ok x [] all e = clash (cc)
among_each ok x (a ∷ rest) all e = go (eqb x a) refl (among_each ok x rest halves.1) e
  where
    halves : (ok a ≡ true) × (every ok rest ≡ true)
    halves = both_true (ok a) (every ok rest) all

    go : (t : Bool) → eqb x a ≡ t → (among x rest ≡ true → ok x ≡ true) → either t (among x rest) ≡ true → ok x ≡ true
    go true p ih q = ap ok (eqb-true x a p) ∙ halves.0
    go false p ih q = ih q

module _ {A B : Type 0} (key : A → ℕ) (value : A → B) (x : ℕ) where
  -- no line has the key
  pub look_none : (lines : List A) (other : B) → among x (map key lines) ≡ false → look_up key value x lines other ≡ other
  unfolding among look_up
  look_none [] other e = refl
  look_none (a ∷ rest) other e = go (eqb x (key a)) (look_none rest other) e
    where
      go : (t : Bool) → (among x (map key rest) ≡ false → look_up key value x rest other ≡ other) → either t (among x (map key rest)) ≡ false → ◌≡◌ {A = B} (elim t as (λ _. B) [ true ↦ value a | false ↦ look_up key value x rest other ]) other
      go true ih e = let z : ◌≡◌ {A = ℕ} 0 1 = cc in absurd (omega arith)
      go false ih e = ih e

  -- a test that passes at every line's value, and at the other one, passes at what is found
  pub look_each : (ok : B → Bool) (lines : List A) (other : B) → ok other ≡ true → every (λ a. ok (value a)) lines ≡ true → ok (look_up key value x lines other) ≡ true
  unfolding look_up
  look_each ok [] other none all = none
  look_each ok (a ∷ rest) other none all = go (eqb x (key a)) (look_each ok rest other none halves.1)
    where
      halves : (ok (value a) ≡ true) × (every (λ l. ok (value l)) rest ≡ true)
      halves = both_true (ok (value a)) (every (λ l. ok (value l)) rest) all

      go : (t : Bool) → ok (look_up key value x rest other) ≡ true → ok (elim t as (λ _. B) [ true ↦ value a | false ↦ look_up key value x rest other ]) ≡ true
      go true ih = halves.0
      go false ih = ih

  -- a line has the key, and the value found is its own
  pub look_found : (lines : List A) (other : B) → among x (map key lines) ≡ true → (a : A) × (key a ≡ x) × (look_up key value x lines other ≡ value a)
  unfolding among look_up
  look_found [] other e = let z : ◌≡◌ {A = ℕ} 0 1 = cc in absurd (omega arith)
  look_found (a ∷ rest) other e = go (eqb x (key a)) refl (look_found rest other) e
    where
      go : (t : Bool) → eqb x (key a) ≡ t → (among x (map key rest) ≡ true → (b : A) × (key b ≡ x) × (look_up key value x rest other ≡ value b)) → either t (among x (map key rest)) ≡ true → (b : A) × (key b ≡ x) × (◌≡◌ {A = B} (elim t as (λ _. B) [ true ↦ value a | false ↦ look_up key value x rest other ]) (value b))
      go true p ih q = (a, sym (eqb-true x (key a) p), refl)
      go false p ih q = ih q

  -- where a line has the key, a test that passes at every line's value passes at what is found
  pub look_listed : (ok : B → Bool) (lines : List A) (other : B) → among x (map key lines) ≡ true → every (λ a. ok (value a)) lines ≡ true → ok (look_up key value x lines other) ≡ true
  unfolding among look_up
  look_listed ok [] other e all = let z : ◌≡◌ {A = ℕ} 0 1 = cc in absurd (omega arith)
  look_listed ok (a ∷ rest) other e all = go (eqb x (key a)) (λ p. look_listed ok rest other p halves.1) e
    where
      halves : (ok (value a) ≡ true) × (every (λ l. ok (value l)) rest ≡ true)
      halves = both_true (ok (value a)) (every (λ l. ok (value l)) rest) all

      go : (t : Bool) → (among x (map key rest) ≡ true → ok (look_up key value x rest other) ≡ true) → either t (among x (map key rest)) ≡ true → ok (elim t as (λ _. B) [ true ↦ value a | false ↦ look_up key value x rest other ]) ≡ true
      go true ih q = halves.0
      go false ih q = ih q

-- a test that passes at every entry of a list, and at the other one, passes at every place
pub every_at : {A : Type 0} (ok : A → Bool) (xs : List A) (other : A) → every ok xs ≡ true → ok other ≡ true → (i : ℕ) → ok (get_or xs i other) ≡ true
every_at ok [] other all none i = none
every_at ok (a ∷ rest) other all none zero = (both_true (ok a) (every ok rest) all).0
every_at ok (a ∷ rest) other all none (suc i) = every_at ok rest other (both_true (ok a) (every ok rest) all).1 none i
