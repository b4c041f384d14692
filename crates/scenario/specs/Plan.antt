-- Route and rate of a toxic card, as document 01 gives them under 'Route and rate', and document 02 in A3 for state 5 and in A5 for
-- containment 3.
-- Assumes nothing.
use Rattle.std.specs.Prelude.{ℕ, ◌≤◌, Bool, true, false, Option, Some, None}
use Rattle.exhibits.specs.declared.Plume.{Plume}
use Rattle.exhibits.specs.declared.Toxic.{Toxic}
use Rattle.exhibits.specs.declared.Toxic.TheVariants as variants
use Rattle.exhibits.specs.Laws.{Within}
use Rattle.exhibits.specs.declared.Gas as gases
use Rattle.exhibits.specs.declared.Liquid as liquids
use Rattle.exhibits.specs.declared.Solution as solutions
use Rattle.release.specs.declared.Containment.{Containment}
use Rattle.release.specs.declared.Containment.TheVariants.{Open, Dike, Building, ShedWithDoors}
use Rattle.release.specs.Rates.{gas_rate, pool_rate, at_most_ten_minutes, is_building}
use Rattle.pool_area.specs.Pool.{pool_area, beyond_dike}
use Rattle.which_table.specs.declared.State.{State}
use Rattle.which_table.specs.declared.State.TheVariants.{Gas, Pressurized, Refrigerated, Liquid, Solution}
use Rattle.which_table.specs.WhichTable.{table_of}
use Rattle.scenario.specs.declared.Tenths.{Tenths}
use Rattle.scenario.specs.declared.Tenths.TheVariants.{Temperature, Concentration}
use Rattle.scenario.specs.declared.ToxicCard.{ToxicCard}
use Rattle.scenario.specs.declared.Scenario.{Scenario}
use Rattle.factors.specs.declared.Column.{Column}
use Rattle.factors.specs.declared.Column.TheVariants.{At25}
use Rattle.factors.specs.Factors.{column_of, factors_of}

-- "Route 1, gas over ten minutes"; "Route 1 selects the 10-minute one."
unfoldable pub vapor_of : ToxicCard → ℕ → Plume → Scenario
vapor_of card endpoint plume =
    record {
      route = 1;
      table = table_of card.cas card.state plume card.topography true;
      rate = record { 0 = gas_rate card.quantity.0 (is_building card.containment) };
      endpoint = endpoint;
    }

-- "Route 2, pool: 1.4 × LF × area × TCF; for state 4 in a building × 0.1 as well", as for state 5; its duration selects the table
-- where the state asks for it
unfoldable pub pool_of : ToxicCard → ℕ → ℕ → ℕ → Bool → ℕ → Plume → Scenario
pool_of card df lf tcf shed endpoint plume =
    let rate : ℕ = pool_rate lf tcf (pool_area card.quantity.0 df card.containment) shed in
    record {
      route = 2;
      table =
          table_of card.cas card.state plume card.topography (at_most_ten_minutes card.quantity.0 rate);
      rate = record { 0 = rate };
      endpoint = endpoint;
    }

-- "dike in 1 or 2" is refused: a gas that leaves by itself meets no dike
abbrev pub undiked : Containment → Scenario → Option Scenario
undiked Open s = Some s
undiked (Dike d) s = None
undiked (Building b) s = Some s
undiked (ShedWithDoors d) s = Some s

-- "state 3 unless diked with a full area above the diked area": the pool that stays in or runs over the dike, or the vapor
abbrev pub pooled : Bool → Scenario → Scenario → Option Scenario
pooled true pool vapor = Some pool
pooled false pool vapor = Some vapor

-- "Route 1 .. States 1 and 2 always; state 3 unless diked with a full area above the diked area"; "State 3: LFB, TCF 1";
-- "gas in state 4" is refused
abbrev pub gas_plan : State → ToxicCard → gases.Gas → Option Scenario
gas_plan Gas card g = undiked card.containment (vapor_of card g.endpoint g.plume)
gas_plan Pressurized card g = undiked card.containment (vapor_of card g.endpoint g.plume)
gas_plan Refrigerated card g =
    pooled
    (beyond_dike card.quantity.0 g.df card.containment)
    (pool_of card g.df g.lfb 100 false g.endpoint g.plume)
    (vapor_of card g.endpoint g.plume)
gas_plan Liquid card g = None
gas_plan Solution card g = None

-- the column of Exhibit B-4 that a temperature reads; of a solution "the spill is at 25 °C"
abbrev pub column_in : Tenths → Column
column_in (Temperature t) = column_of t
column_in (Concentration c) = At25

-- a pool with the factors read, or "an exhibit field .. marked as without data"
abbrev pub factored : Option (ℕ × ℕ) → ToxicCard → liquids.Liquid → Option Scenario
factored (Some (lf, tcf)) card l =
    Some (pool_of card l.df lf tcf (is_building card.containment) l.endpoint l.plume)
factored None card l = None

-- "liquid in 1 to 3" is refused
abbrev pub liquid_plan : State → ToxicCard → liquids.Liquid → Option Scenario
liquid_plan Gas card l = None
liquid_plan Pressurized card l = None
liquid_plan Refrigerated card l = None
liquid_plan Liquid card l = factored (factors_of l (column_in card.tenths)) card l
liquid_plan Solution card l = None

-- "It runs route 2 with that LFA (at 1.5 m/s) and DF, TCF 1 and the shed factor of state 4": the line of B-3 that is read. "Pounds
-- mean the whole solution", so the pool is that of the card's quantity, as ever.
abbrev pub solution_plan : ToxicCard → solutions.Solution → Option Scenario
solution_plan card s =
    Some (pool_of card s.df s.lfa 100 (is_building card.containment) s.endpoint s.plume)

-- the scenario of a toxic card, or refusal 10. What the exhibits say goes by the state: a line of B-3 is a card's in state 5 alone.
abbrev pub plan_for : Toxic → ToxicCard → Option Scenario
plan_for (variants.OfGas g) card = gas_plan card.state card g
plan_for (variants.OfLiquid l) card = liquid_plan card.state card l
plan_for (variants.OfSolution s) card = solution_plan card s
plan_for variants.OutOfRange card = None
plan_for variants.NotListed card = None

unfoldable pub plan_of : ToxicCard → Option Scenario
plan_of card = plan_for card.entry card

-- document 01's limits on a card that has been read
pub record Limits (card : ToxicCard) : Type 0 where
  pub quantity : card.quantity.0 ≤ 10_000_000
  pub entry : Within card.entry
