-- The ranges of a card's numbers, in the order of their checks: 8, 9, 14, 15 and 16.
-- Assumes nothing.
use Rattle.std.specs.Prelude.{ℕ, ◌-◌, ◌≤◌, Bool, true, false, ltb, eqb, ℤ, pos, negsuc, Result, Ok, Err}
use Rattle.std.specs.Int.Signed.{lt_z}
use Rattle.search.specs.Places.{either}
use Rattle.exhibits.specs.declared.Toxic.{Toxic}
use Rattle.exhibits.specs.declared.Toxic.TheVariants.{OfGas, OfLiquid, OfSolution, OutOfRange, NotListed}
use Rattle.scenario.specs.declared.Tenths.{Tenths}
use Rattle.scenario.specs.declared.Tenths.TheVariants.{Temperature, Concentration}
use Rattle.fields.specs.declared.Fields.{Fields}
use Rattle.refusals.specs.declared.Refusal.{Refusal}
use Rattle.refusals.specs.declared.Refusal.TheVariants as refusal

-- 8: "pounds out of range": "8 to 11: pounds, 1 to 10,000,000."
unfoldable pub bad_pounds : ℕ → Bool
bad_pounds pounds = either (eqb pounds 0) (ltb 10_000_000 pounds)

-- 9, by document 02, A2, "becomes area only": "dike or floor area in square feet, 1 to 1,000,000; zero if open"
unfoldable pub bad_area : ℕ → ℕ → Bool
bad_area containment area = elim (eqb containment 0) [ true ↦ false | false ↦ either (eqb area 0) (ltb 1_000_000 area) ]

-- 14: "wall out of range": "wall in hundredths of a foot, 0 to 10,000"
unfoldable pub bad_wall : ℕ → Bool
bad_wall wall = ltb 10_000 wall

-- "signed (two's complement) tenths of a degree Celsius"
unfoldable pub signed : ℕ → ℤ
signed heat = elim (ltb heat 32_768) [ true ↦ pos heat | false ↦ negsuc (65_535 - heat) ]

-- 15: "temperature out of range": "-500 to 3,000"
unfoldable pub bad_heat : ℤ → Bool
bad_heat t = either (lt_z t (negsuc 499)) (lt_z (pos 3_000) t)

-- "State 5 is a solution of a B-3 substance. Its concentration, unsigned tenths of a percent by weight, takes the temperature's
-- place": what bytes 18 and 19 are, and which of the two
unfoldable pub tenths_of : Fields → Tenths
tenths_of f = elim (eqb f.state 5) [ true ↦ Concentration f.heat | false ↦ Temperature (signed f.heat) ]

-- no concentration is a temperature out of range
abbrev pub bad_tenths : Tenths → Bool
bad_tenths (Temperature t) = bad_heat t
bad_tenths (Concentration c) = false

-- 16: "concentration zero or above the highest printed", as Exhibit B-3 says of it
abbrev pub is_out_of_range : Toxic → Bool
is_out_of_range (OfGas g) = false
is_out_of_range (OfLiquid l) = false
is_out_of_range (OfSolution s) = false
is_out_of_range OutOfRange = true
is_out_of_range NotListed = false

-- a check that refuses where its condition holds
abbrev pub bounds_if : Bool → Refusal → Result Tenths Refusal → Result Tenths Refusal
bounds_if true r further = Err r
bounds_if false r further = further

-- 8, then "area, wall and temperature are checked in that order", 16 "at temperature's place in the order", and what bytes 18 and
-- 19 are
unfoldable pub bounds_of : Toxic → Fields → Result Tenths Refusal
bounds_of entry f =
    bounds_if (bad_pounds f.pounds) refusal.Quantity
    (bounds_if (bad_area f.containment f.area) refusal.Area
    (bounds_if (bad_wall f.wall) refusal.Wall
    (bounds_if (bad_tenths (tenths_of f)) refusal.Temperature
    (bounds_if (is_out_of_range entry) refusal.Concentration (Ok (tenths_of f))))))

-- what numbers in range keep of document 01's limits
abbrev pub BoundsLimits : Fields → Result Tenths Refusal → Type 0
BoundsLimits f (Ok t) = f.pounds ≤ 10_000_000
BoundsLimits f (Err r) = Unit {0}
