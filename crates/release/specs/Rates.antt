-- Rates and duration, as document 01 gives them. Pounds are whole, areas are hundredths of a square foot, rates thousandths of a
-- pound per minute; TCF is in hundredths, LF in millionths.
-- Assumes nothing.
use Rattle.std.specs.Prelude.{ℕ, ◌+◌, ◌-◌, ◌*◌, ◌/◌, Bool, true, false, leb}
use Rattle.release.specs.declared.Containment.{Containment}
use Rattle.release.specs.declared.Containment.TheVariants.{Open, Dike, Building, ShedWithDoors}

-- a / b rounded up, for b above 0
abbrev pub ceil_div : ℕ → ℕ → ℕ
ceil_div a b = (a + (b - 1)) / b

-- "Route 1, gas over ten minutes: pounds / 10; in a building × 0.55 as well."
abbrev pub gas_rate : ℕ → Bool → ℕ
gas_rate pounds false = 100 * pounds
gas_rate pounds true = 55 * pounds

-- "Route 2, pool: 1.4 × LF × area × TCF; for state 4 in a building × 0.1 as well." Rounded up once.
unfoldable pub pool_rate : ℕ → ℕ → ℕ → Bool → ℕ
pool_rate lf tcf area false = ceil_div (14 * (lf * tcf * area)) 100_000_000
pool_rate lf tcf area true = ceil_div (14 * (lf * tcf * area)) 1_000_000_000

-- "Duration of route 2 is pounds / rate as reported. At most 10 minutes selects the 10-minute table"
unfoldable pub at_most_ten_minutes : ℕ → ℕ → Bool
at_most_ten_minutes pounds rate = leb (1000 * pounds) (10 * rate)

-- "in a building", where both factors hold. Document 02, A5: "Containment 3 is a building without the factor: a gas leaves at pounds / 10,
-- a pool has .. no 0.1."
abbrev pub is_building : Containment → Bool
is_building Open = false
is_building (Dike d) = false
is_building (Building b) = true
is_building (ShedWithDoors s) = false
