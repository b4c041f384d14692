-- An area that is rounded up, and a rate that is rounded up from it, by cross-multiplication: what the theorem rests on.
-- Assumes nothing.
use Rattle.std.specs.Prelude.{ℕ, ◌+◌, ◌*◌, ◌≤◌, ◌<◌, min, ◌≡◌, refl, Bool, leb}
use Rattle.std.proofs.Common.{arith, le_of_lt, mul-le-mul_left, mul-le-mul_right}
use Rattle.std.proofs.Math.Bool.{true, false}
use Rattle.release.specs.declared.Containment.{Containment}
use Rattle.release.specs.declared.Containment.TheVariants.{Open, Dike, Building, ShedWithDoors}
use Rattle.release.specs.Rates.{gas_rate, pool_rate}
use Rattle.pool_area.specs.Pool.{full_area, held, spilt, diked_area, pool_area}
use Rattle.rate_gap.specs.Fractions.{Fraction, ◌over◌, ◌plus◌, Defined, ◌at_most◌, ◌below◌, ◌equals◌}
use Rattle.rate_gap.specs.Exact.{exact_diked, exact_area, exact_gas, exact_pool}
use Rattle.rate_gap.specs.Claim.{slack}

-- "rounded up to a hundredth of a square foot": an exact area, and its hundredths
pub record Rounded (exact : Fraction) (hundredths : ℕ) : Type 0 where
  pub defined : Defined exact
  pub up : exact at_most hundredths over 100
  pub close : hundredths over 100 below exact plus 1 over 100

-- an area in whole hundredths is not off
as_held : (n : ℕ) → Rounded (n over 100) n
as_held n = record { defined = omega arith; up = omega arith; close = omega arith }

diked_rounded : (full area wall : ℕ) → Rounded (exact_diked full area wall) (diked_area full area wall)
unfolding exact_diked diked_area
diked_rounded full area wall = go (leb full area) (leb (spilt full) (held area wall)) refl refl
  where
    go : (s t : Bool) → leb full area ≡ s → leb (spilt full) (held area wall) ≡ t → Rounded (exact_diked full area wall) (diked_area full area wall)
    go true t p q = simp (p, exact_diked, diked_area) (as_held full)
    go false true p q = simp (p, q, exact_diked, diked_area) (as_held area)
    go false false p q =
        simp (p, q, exact_diked, diked_area)
        (record { defined = omega arith; up = omega arith; close = omega arith })

pub area_rounded : (pounds df : ℕ) (c : Containment) → Rounded (exact_area pounds df c) (pool_area pounds df c)
area_rounded pounds df Open = as_held (full_area pounds df)
area_rounded pounds df (Dike d) = diked_rounded (full_area pounds df) d.area.0 d.wall
area_rounded pounds df (Building b) = as_held (min b.floor.0 (full_area pounds df))
area_rounded pounds df (ShedWithDoors s) = as_held (min s.floor.0 (full_area pounds df))

-- a gas's rate is not off
pub gas_equals : (pounds : ℕ) (inside : Bool) → gas_rate pounds inside over 1_000 equals exact_gas pounds inside
gas_equals pounds inside = grind arith

pub gas_defined : (pounds : ℕ) (inside : Bool) → Defined (exact_gas pounds inside)
gas_defined pounds inside = grind arith

pub slack_defined : (lf tcf : ℕ) (shed : Bool) → Defined (slack lf tcf shed)
slack_defined lf tcf shed = grind arith

-- a pool's rate, from an area that was rounded up
module _ (lf tcf : ℕ) (area : Fraction) (hundredths : ℕ) (r : Rounded area hundredths) where
  pub pool_defined : (shed : Bool) → Defined (exact_pool lf tcf area shed)
  pool_defined shed = let d = r.defined in grind arith

  -- a rate that is rounded up in any unit, from the rounded area: it covers what the exact area gives,
  covers : (rate unit : ℕ) → 14 * (lf * tcf * hundredths) ≤ rate * unit → 14 * (lf * tcf * (area.numerator * 100)) ≤ rate * unit * area.denominator
  covers rate unit k = omega (arith, mul-le-mul_left (lf * tcf) r.up, mul-le-mul_right area.denominator k)

  -- and stays below that with a hundredth of a square foot and one unit more
  close : (rate unit : ℕ) → rate * unit < 14 * (lf * tcf * hundredths) + unit
      → rate * unit * area.denominator < 14 * (lf * tcf * (area.numerator * 100 + area.denominator)) + unit * area.denominator
  close rate unit k =
      let d = r.defined in
      omega (arith, mul-le-mul_left (lf * tcf) (le_of_lt r.close), mul-le-mul_right area.denominator k)

  pub pool_at_least : (shed : Bool) → exact_pool lf tcf area shed at_most pool_rate lf tcf hundredths shed over 1_000
  unfolding pool_rate
  pool_at_least false = omega (arith, covers (pool_rate lf tcf hundredths false) 100_000_000 (omega arith))
  pool_at_least true = omega (arith, covers (pool_rate lf tcf hundredths true) 1_000_000_000 (omega arith))

  pub pool_below : (shed : Bool) → pool_rate lf tcf hundredths shed over 1_000 below exact_pool lf tcf area shed plus slack lf tcf shed
  unfolding pool_rate
  pool_below false = omega (arith, close (pool_rate lf tcf hundredths false) 100_000_000 (omega arith))
  pool_below true = omega (arith, close (pool_rate lf tcf hundredths true) 1_000_000_000 (omega arith))
