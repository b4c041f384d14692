-- A table that the code keeps as the arms of a `match`: what each arm says of its own number holds of the number that was
-- matched, and a number that no arm has is none of the keys.
-- Assumes nothing.
use Rattle.std.specs.Prelude.{ℕ, zero, suc, ◌+◌, ◌≤◌, ◌≡◌, refl, List, [], ◌∷◌, Bool, true, false, eqb}
use Rattle.std.proofs.Common.{zero-le, arith, ap, sym, ◌∙◌, ne_eqb}
use Rattle.std.proofs.lemmas.Bool.{eqb-false}
use Rattle.search.specs.Places.{either, among}

-- the arm of a key
pub arm : {A : Type 0} (f : ℕ → A) {r : A} (n k : ℕ) → n ≡ k → r ≡ f k → r ≡ f n
arm f n k e q = q ∙ ap f (sym e)

-- what is known where no arm was taken: the number is none of the keys, in the order of the arms
abbrev pub MissedAfter : Type 0 → ℕ → List ℕ → Type 0
MissedAfter A n [] = A
MissedAfter A n (k ∷ keys) = MissedAfter (A × (n ≡ k → ⊥)) n keys

abbrev pub Missed : ℕ → List ℕ → Type 0
Missed n keys = MissedAfter (Unit {0}) n keys

earlier : (A : Type 0) (n : ℕ) (keys : List ℕ) → MissedAfter A n keys → A
earlier A n [] m = m
earlier A n (k ∷ keys) m = (earlier (A × (n ≡ k → ⊥)) n keys m).0

missed_after : (A : Type 0) (n : ℕ) (keys : List ℕ) → MissedAfter A n keys → among n keys ≡ false
unfolding among
missed_after A n [] m = refl
missed_after A n (k ∷ keys) m =
    rw (ne_eqb n k (earlier (A × (n ≡ k → ⊥)) n keys m).1, either) (missed_after (A × (n ≡ k → ⊥)) n keys m)

-- the last arm
pub missed : (n : ℕ) (keys : List ℕ) → Missed n keys → among n keys ≡ false
missed n keys m = missed_after (Unit {0}) n keys m

-- so many numbers from one on: the keys of a table whose rows are numbered
abbrev pub numbers : ℕ → ℕ → List ℕ
numbers from zero = []
numbers from (suc count) = from ∷ numbers (suc from) count

beyond_from : (n from count : ℕ) → among n (numbers from count) ≡ false → from ≤ n → from + count ≤ n
unfolding among
beyond_from n from zero e h = omega arith
beyond_from n from (suc count) e h = go (eqb n from) refl (beyond_from n (suc from) count) e
  where
    go : (t : Bool) → eqb n from ≡ t → (among n (numbers (suc from) count) ≡ false → suc from ≤ n → suc from + count ≤ n) → either t (among n (numbers (suc from) count)) ≡ false → from + suc count ≤ n
    go true p ih q = let z : ◌≡◌ {A = ℕ} 0 1 = cc in absurd (omega arith)
    go false p ih q = let apart : n ≡ from → ⊥ = eqb-false n from p in omega (arith, ih q (omega arith))

-- the last arm of such a table
pub beyond : (n count : ℕ) → Missed n (numbers 0 count) → count ≤ n
beyond n count m = omega (arith, beyond_from n 0 count (missed n (numbers 0 count) m) zero-le)
