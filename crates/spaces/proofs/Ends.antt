-- What is left of a field, by its bytes: all before the start are spaces and the one there is none; all from the end on are spaces
-- and the one before it is none.
-- Assumes nothing.
use Rattle.std.specs.Prelude.{ℕ, zero, suc, ◌-◌, ◌≤◌, ◌<◌, ◌≡◌, refl, List, [], ◌∷◌, length, take, drop}
use Rattle.std.proofs.Common.{get_or, arith, ap, ◌∙◌, eq-eqb, ne_eqb, suc-le-suc, le_of_suc-le-suc, zero-le, not-suc-le-zero, length-drop}
use Rattle.std.proofs.Math.ListN.{drop_of_length-le}
use Rattle.std.proofs.Math.Seq.{take_all}
use Rattle.spaces.specs.Spaces.{skip, keep, chop}

skip_to : (s : List ℕ) (n : ℕ) → ((k : ℕ) → k < n → get_or s k 0 ≡ 32) → (n < length s → get_or s n 0 ≡ 32 → ⊥) → drop n s ≡ skip s
unfolding skip
skip_to [] n spaces stop = drop_of_length-le [] {i = n} zero-le
skip_to (b ∷ s) zero spaces stop = rw (ne_eqb b 32 (stop (suc-le-suc zero-le)), skip)
skip_to (b ∷ s) (suc n) spaces stop =
    rw (eq-eqb b 32 (spaces 0 (suc-le-suc zero-le)), skip) (skip_to s n (λ k q. spaces (suc k) (suc-le-suc q)) (λ q. stop (suc-le-suc q)))

pub skip_from : (s : List ℕ) (n : ℕ) → ((k : ℕ) → k < n → get_or s k 0 ≡ 32) → (n < length s → get_or s n 0 ≡ 32 → ⊥) → take (length s - n) (drop n s) ≡ skip s
skip_from s n spaces stop = take_all (length s - n) (drop n s) (omega (arith, length-drop n s)) ∙ skip_to s n spaces stop

pub chop_to : (s : List ℕ) (n : ℕ) → ((k : ℕ) → n ≤ k → k < length s → get_or s k 0 ≡ 32) → ((k : ℕ) → suc k ≡ n → get_or s k 0 ≡ 32 → ⊥) → n ≤ length s → take n s ≡ chop s
unfolding chop
chop_to [] n spaces stop h = grind arith
chop_to (b ∷ s) zero spaces stop h =
    let none : [] ≡ chop s = chop_to s 0 (λ k p q. spaces (suc k) zero-le (suc-le-suc q)) (λ k e. absurd (omega arith)) zero-le in
    rw (← none) (rw (eq-eqb b 32 (spaces 0 zero-le (suc-le-suc zero-le)), keep))
chop_to (b ∷ s) (suc zero) spaces stop h =
    let none : [] ≡ chop s = chop_to s 0 (λ k p q. spaces (suc k) (suc-le-suc zero-le) (suc-le-suc q)) (λ k e. absurd (omega arith)) zero-le in
    rw (← none) (rw (ne_eqb b 32 (stop 0 refl), keep))
chop_to (b ∷ []) (suc (suc n)) spaces stop h = absurd (not-suc-le-zero (le_of_suc-le-suc h))
chop_to (b ∷ (c ∷ s)) (suc (suc n)) spaces stop h =
    ap (keep b) (chop_to (c ∷ s) (suc n) (λ k p q. spaces (suc k) (suc-le-suc p) (suc-le-suc q)) (λ k e. stop (suc k) (ap suc e)) (le_of_suc-le-suc h))
