-- The exact rate of a card, by document 02's A8: "Exact means the same chain unrounded, as a fraction of two whole numbers." Chain, a word
-- of that paper, is what document 01 does under 'Pool area' and 'Route and rate', from a card's numbers to its rate. Areas are in square
-- feet and rates in pounds per minute here, as the paper has them; DF and TCF come in hundredths, LF in millionths, a wall in hundredths
-- of a foot, the area of a dike or a floor in hundredths of a square foot.
-- Assumes nothing.
use Rattle.std.specs.Prelude.{ℕ, ◌+◌, ◌-◌, ◌*◌, min, Bool, true, false, List, leb, Option, Some, None, Result, Ok, Err}
use Rattle.refusals.specs.declared.Refusal.{Refusal}
use Rattle.exhibits.specs.declared.Toxic.{Toxic}
use Rattle.exhibits.specs.declared.Toxic.TheVariants as variants
use Rattle.exhibits.specs.declared.Gas as gases
use Rattle.exhibits.specs.declared.Liquid as liquids
use Rattle.release.specs.declared.Containment.{Containment}
use Rattle.release.specs.declared.Containment.TheVariants.{Open, Dike, Building, ShedWithDoors}
use Rattle.release.specs.Rates.{is_building}
use Rattle.pool_area.specs.Pool.{full_area, held, spilt, beyond_dike}
use Rattle.which_table.specs.declared.State.{State}
use Rattle.which_table.specs.declared.State.TheVariants.{Gas, Pressurized, Refrigerated, Liquid, Solution}
use Rattle.factors.specs.Factors.{factors_of}
use Rattle.scenario.specs.declared.ToxicCard.{ToxicCard}
use Rattle.scenario.specs.Plan.{column_in}
use Rattle.fields.specs.Layout.{fields_of}
use Rattle.meaning.specs.declared.Meaning.{Meaning}
use Rattle.meaning.specs.declared.Meaning.TheVariants as meaning
use Rattle.meaning.specs.Reading.{meaning_of}
use Rattle.rate_gap.specs.Fractions.{Fraction, ◌over◌, ◌times◌}

-- ---- the area of a pool

-- "Dike: if the full area is at most the diked area, the full area. Otherwise, if full area × 0.033 is at most diked area × wall, the diked
-- area. Otherwise diked area plus overflow, but never above the full area; overflow is (full area × 0.033 - diked area × wall) / 0.033."
unfoldable pub exact_diked : ℕ → ℕ → ℕ → Fraction
exact_diked full area wall =
    elim (leb full area) [
      | true ↦ full over 100
      | false ↦
          elim (leb (spilt full) (held area wall)) [
            | true ↦ area over 100
            | false ↦ min (33 * full) (33 * area + (spilt full - held area wall)) over 3_300
          ]
    ]

-- "Open: the full area. Building: the smaller of floor and full area.", and so in a shed with doors
abbrev pub exact_area : ℕ → ℕ → Containment → Fraction
exact_area pounds df Open = full_area pounds df over 100
exact_area pounds df (Dike d) = exact_diked (full_area pounds df) d.area.0 d.wall
exact_area pounds df (Building b) = min b.floor.0 (full_area pounds df) over 100
exact_area pounds df (ShedWithDoors s) = min s.floor.0 (full_area pounds df) over 100

-- ---- the rate

-- "Route 1, gas over ten minutes: pounds / 10; in a building × 0.55 as well."
abbrev pub exact_gas : ℕ → Bool → Fraction
exact_gas pounds false = pounds over 10
exact_gas pounds true = pounds over 10 times 55 over 100

-- "Route 2, pool: 1.4 × LF × area × TCF; for state 4 in a building × 0.1 as well", as for state 5
abbrev pub exact_pool : ℕ → ℕ → Fraction → Bool → Fraction
exact_pool lf tcf area false = 14 over 10 times lf over 1_000_000 times area times tcf over 100
exact_pool lf tcf area true = 14 over 10 times lf over 1_000_000 times area times tcf over 100 times 1 over 10

-- ---- the chain of a card

-- by its route, what the rate comes from
pub data Chain : Type 0 where
  -- route 1: pounds, and whether in a building
  gas : ℕ → Bool → Chain
  -- route 2: LF, TCF, the exact area, and whether with the factor 0.1 of a building, which document 02 calls the shed factor
  pool : ℕ → ℕ → Fraction → Bool → Chain
  -- route 3
  blast : Chain
  -- a card that is sent back may have none
  none : Chain

abbrev pub gas_over : ToxicCard → Chain
gas_over card = gas card.quantity.0 (is_building card.containment)

-- by DF, LF, TCF, and whether with the shed factor
abbrev pub pool_over : ToxicCard → ℕ → ℕ → ℕ → Bool → Chain
pool_over card df lf tcf shed = pool lf tcf (exact_area card.quantity.0 df card.containment) shed

-- the first if the test holds, else the second
abbrev pub pick : Bool → Chain → Chain → Chain
pick true c d = c
pick false c d = d

-- "Route 1 .. States 1 and 2 always; state 3 unless diked with a full area above the diked area."; "State 3: LFB, TCF 1."
abbrev pub gas_chain : State → ToxicCard → gases.Gas → Chain
gas_chain Gas card g = gas_over card
gas_chain Pressurized card g = gas_over card
gas_chain Refrigerated card g =
    pick
    (beyond_dike card.quantity.0 g.df card.containment)
    (pool_over card g.df g.lfb 100 false)
    (gas_over card)
gas_chain Liquid card g = none
gas_chain Solution card g = none

-- "State 4 above 50.0 °C: LFB, TCF 1. State 4 otherwise: LFA and the TCF of the closest column of B-4"
abbrev pub liquid_chain : Option (ℕ × ℕ) → ToxicCard → liquids.Liquid → Chain
liquid_chain (Some (lf, tcf)) card l = pool_over card l.df lf tcf (is_building card.containment)
liquid_chain None card l = none

-- by what the exhibits say. A solution "runs route 2 with that LFA (at 1.5 m/s) and DF, TCF 1 and the shed factor of state 4".
abbrev pub toxic_chain : Toxic → ToxicCard → Chain
toxic_chain (variants.OfGas g) card = gas_chain card.state card g
toxic_chain (variants.OfLiquid l) card = liquid_chain (factors_of l (column_in card.tenths)) card l
toxic_chain (variants.OfSolution s) card = pool_over card s.df s.lfa 100 (is_building card.containment)
toxic_chain variants.OutOfRange card = none
toxic_chain variants.NotListed card = none

abbrev pub chain_in : Result Meaning Refusal → Chain
chain_in (Ok (meaning.Toxic card)) = toxic_chain card.entry card
chain_in (Ok (meaning.Flammable card)) = blast
chain_in (Err r) = none

-- the chain of a card's bytes, as those of a first card
unfoldable pub chain_of : List ℕ → Chain
chain_of card = chain_in (meaning_of (fields_of card) 0)

-- its route
abbrev pub route_in : Chain → ℕ
route_in (gas pounds inside) = 1
route_in (pool lf tcf area shed) = 2
route_in blast = 3
route_in none = 0

-- and the exact rate that it comes to. "Route 3, blast: rate 0."
abbrev pub exact_in : Chain → Fraction
exact_in (gas pounds inside) = exact_gas pounds inside
exact_in (pool lf tcf area shed) = exact_pool lf tcf area shed
exact_in blast = 0 over 1
exact_in none = 0 over 1
