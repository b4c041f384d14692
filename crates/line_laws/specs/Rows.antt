-- Where a rate stands among rows whose rates climb: the search finds a printed rate at its own row, a rate between two rows at the
-- upper one, a rate above the last past the end.
-- Assumes nothing.
use Rattle.std.specs.Prelude.{ℕ, zero, suc, ◌-◌, ◌^◌, ◌≤◌, ◌<◌, ◌≡◌, refl, List, [], ◌∷◌, true, leb, ltb, length, get_or}
use Rattle.std.proofs.Common.{le_refl, le_of_suc-le-suc, not-suc-le-zero, arith, ⊎_elim, ltb-true, leb-true}
use Rattle.search.specs.Rising.{first_at_least}
use Rattle.search.specs.Laws.{lt_or_ge, first_unique, first_within, first_mono, both_true}
use Rattle.search.specs.Places.{every}
use Rattle.search.specs.PlaceLaws.{every_at}
use Rattle.rules.specs.Cuts.{climbs, climbs_from}

-- a test that every rate is a whole number up to 2 ^ 53, which a float holds, says it of each
pub held : (xs : List ℕ) → every (λ x. leb x (2 ^ 53)) xs ≡ true → (k : ℕ) → get_or xs k 0 ≤ 2 ^ 53
held xs e k = leb-true (get_or xs k 0) (2 ^ 53) (every_at (λ x. leb x (2 ^ 53)) xs 0 e refl k)

step_from : (a : ℕ) (rest : List ℕ) → climbs_from a rest ≡ true → (k : ℕ) → k < length rest → get_or (a ∷ rest) k 0 < get_or rest k 0
unfolding climbs_from
step_from a [] e k h = absurd (not-suc-le-zero h)
step_from a (b ∷ rest) e zero h = ltb-true a b (both_true (ltb a b) (climbs_from b rest) e).0
step_from a (b ∷ rest) e (suc k) h = step_from b rest (both_true (ltb a b) (climbs_from b rest) e).1 k (le_of_suc-le-suc h)

-- each rate is below the next
pub step : (xs : List ℕ) → climbs xs ≡ true → (k : ℕ) → suc k < length xs → get_or xs k 0 < get_or xs (suc k) 0
unfolding climbs
step [] e k h = absurd (not-suc-le-zero h)
step (a ∷ rest) e k h = step_from a rest e k (le_of_suc-le-suc h)

module _ (xs : List ℕ) (climb : climbs xs ≡ true) where
  -- and not above any later one
  no_later : (i k : ℕ) → i ≤ k → k < length xs → get_or xs i 0 ≤ get_or xs k 0
  no_later i zero l h = let z : i ≡ 0 = omega arith in rw z (le_refl (get_or xs 0 0))
  no_later i (suc k) l h =
      let ih : i ≤ k → get_or xs i 0 ≤ get_or xs k 0 = λ m. no_later i k m (omega arith) in
      ⊎_elim
      (λ (m : k < i). let z : i ≡ suc k = omega arith in rw z (le_refl (get_or xs (suc k) 0)))
      (λ (m : i ≤ k). omega (arith, ih m, step xs climb k h))
      (lt_or_ge k i)

  pub place_between : (x k : ℕ) → suc k < length xs → get_or xs k 0 < x → x ≤ get_or xs (suc k) 0 → first_at_least x xs ≡ suc k
  place_between x k h l u =
      first_unique xs x (suc k) (omega arith) (λ i m. omega (arith, no_later i k (le_of_suc-le-suc m) (omega arith))) (λ m. u)

  pub place_printed : (k : ℕ) → k < length xs → first_at_least (get_or xs k 0) xs ≡ k
  place_printed zero h = first_unique xs (get_or xs 0 0) 0 (omega arith) (λ i m. absurd (not-suc-le-zero m)) (λ m. le_refl (get_or xs 0 0))
  place_printed (suc k) h = place_between (get_or xs (suc k) 0) k h (step xs climb k h) (le_refl (get_or xs (suc k) 0))

  pub place_past : (x : ℕ) → 0 < length xs → get_or xs (length xs - 1) 0 < x → first_at_least x xs ≡ length xs
  place_past x h l =
      first_unique xs x (length xs) (le_refl (length xs))
      (λ i m. omega (arith, no_later i (length xs - 1) (omega arith) (omega arith)))
      (λ m. absurd (omega arith))

  -- what stands before the place that is found is below the rate
  pub below_place : (x k : ℕ) → k < first_at_least x xs → get_or xs k 0 < x
  below_place x k h =
      let n : k < length xs = omega (arith, first_within x xs) in
      ⊎_elim
      (λ (l : get_or xs k 0 < x). l)
      (λ (l : x ≤ get_or xs k 0). absurd (omega (arith, first_mono x (get_or xs k 0) xs l, place_printed k n)))
      (lt_or_ge (get_or xs k 0) x)
