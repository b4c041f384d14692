-- What callers use of a season instead of its tests: the first day of the year on which it is in force is a day of the year, it is in
-- force on that day, and on no day before it.
-- Assumes nothing.
use Rattle.std.specs.Prelude.{ℕ, ◌≤◌, ◌≡◌, true, false}
use Rattle.std.proofs.Common.{arith}
use Rattle.std.proofs.lemmas.Bool.Decides.{nat_tests}
use Rattle.seasons.specs.declared.Season.{Season}
use Rattle.seasons.specs.Seasons.{bad_day, bad_season, in_force, first_day}

-- a day that is not refused is one of 1 to 366
pub day_within : (day : ℕ) → bad_day day ≡ false → (1 ≤ day) × (day ≤ 366)
unfolding bad_day
day_within day e = (grind (arith, nat_tests, e), grind (arith, nat_tests, e))

-- and the other way round
pub good_day : (day : ℕ) → 1 ≤ day → day ≤ 366 → bad_day day ≡ false
unfolding bad_day
good_day day l h = grind (arith, nat_tests, l, h)

module _ (s : Season) where
  -- of a card that is not refused
  module _ (e : bad_season s ≡ false) where
    pub first_day_within : (1 ≤ first_day s) × (first_day s ≤ 366)
    unfolding bad_season bad_day first_day
    first_day_within = (grind (arith, nat_tests, e), grind (arith, nat_tests, e))

    pub in_force_first : in_force s (first_day s) ≡ true
    unfolding bad_season bad_day first_day in_force
    in_force_first = grind (arith, nat_tests, e)

  pub first_day_least : (day : ℕ) → 1 ≤ day → in_force s day ≡ true → first_day s ≤ day
  unfolding first_day in_force
  first_day_least day l e = grind (arith, nat_tests, l, e)
