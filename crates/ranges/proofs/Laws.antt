-- What the tests of 8, 9, 14 and 15 say of a number that they let pass.
-- Assumes nothing.
use Rattle.std.specs.Prelude.{ℕ, ◌-◌, ◌≤◌, ◌≡◌, Bool, true, false, ◌⊎◌, ltb, eqb, ℤ, pos, negsuc}
use Rattle.std.proofs.Common.{arith, inl, inr, ltb-false}
use Rattle.search.specs.Places.{either}
use Rattle.search.specs.PlaceLaws.{neither}
use Rattle.ranges.specs.Ranges.{bad_pounds, bad_wall, bad_heat, signed}

pub pounds_within : (n : ℕ) → bad_pounds n ≡ false → n ≤ 10_000_000
unfolding bad_pounds
pounds_within n e = ltb-false 10_000_000 n (neither (eqb n 0) (ltb 10_000_000 n) e).1

pub wall_within : (n : ℕ) → bad_wall n ≡ false → n ≤ 10_000
unfolding bad_wall
wall_within n e = ltb-false 10_000 n e

-- "-500 to 3,000"
pub heat_within : (n : ℕ) → bad_heat (signed n) ≡ false → (n ≤ 3_000) ⊎ (65_036 ≤ n)
unfolding bad_heat signed
heat_within n e = go (ltb n 32_768) e
  where
    go : (t : Bool) → bad_heat (elim t as (λ _. ℤ) [ true ↦ pos n | false ↦ negsuc (65_535 - n) ]) ≡ false → (n ≤ 3_000) ⊎ (65_036 ≤ n)
    go true q = inl (ltb-false 3_000 n q)
    go false q = inr (omega (arith, ltb-false 499 (65_535 - n) (neither (ltb 499 (65_535 - n)) false q).0))

pub area_within : (n : ℕ) → either (eqb n 0) (ltb 1_000_000 n) ≡ false → n ≤ 1_000_000
area_within n e = ltb-false 1_000_000 n (neither (eqb n 0) (ltb 1_000_000 n) e).1
