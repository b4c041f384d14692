-- Exhibits 4 and 5 of the guidance's Chapter 8 as printed, and that the definition's choice of a table is theirs: over a table of cases, and
-- of every card at every duration.
-- Assumes nothing.
use Rattle.std.specs.Prelude.{ℕ, ◌+◌, ◌≡◌, Bool, leb}
use Rattle.std.proofs.Common.{arith}
use Rattle.search.specs.Places.{either, among}
use Rattle.exhibits.specs.declared.Plume.{Plume}
use Rattle.exhibits.specs.Exhibits.{alternative_plume}
use Rattle.dispersion.specs.declared.Ground.{Ground}
use Rattle.which_table.specs.declared.State.{State}
use Rattle.which_table.specs.WhichTable.{plume_in, generic_table, ten_minutes_in, ammonia_table, table_of}
use Rattle.scenario.specs.declared.ToxicCard.{ToxicCard}
use Rattle.likely_scenario.specs.LikelyScenario.{likely_table}
use Rattle.likely_laws.specs.Exhibits.{chlorine, sulfur_dioxide, exhibit4, generic_in, exhibit5, specific_in, ammonia_in, is_solution, printed_minutes, exhibits_table}

-- ---- every card

generic_printed : (p : Plume) (g : Ground) (ten : Bool) → 13 + generic_table p g ten ≡ generic_in exhibit4 p g (printed_minutes ten)
unfolding generic_in exhibit4
generic_printed p g ten = grind arith

ammonia_printed : (s : State) (g : Ground) → 13 + ammonia_table s ≡ specific_in exhibit5 (ammonia_in s) g
unfolding specific_in exhibit5 among
ammonia_printed s g = grind arith

chlorine_printed : (g : Ground) → 24 ≡ specific_in exhibit5 chlorine g
unfolding specific_in exhibit5 among
chlorine_printed g = grind arith

sulfur_printed : (g : Ground) → 25 ≡ specific_in exhibit5 sulfur_dioxide g
unfolding specific_in exhibit5 among
sulfur_printed g = grind arith

ten_printed : (s : State) (t : Bool) → ten_minutes_in s t ≡ either (is_solution s) t
ten_printed s t = grind arith

-- "Exhibits 4 and 5 choose among Tables 14 to 25": the definition's table is theirs, for every card and every duration
pub by_exhibits : (card : ToxicCard) (minutes : ℕ)
    → likely_table card minutes ≡ exhibits_table card.cas card.state (alternative_plume card.entry) card.topography minutes
unfolding likely_table table_of exhibits_table
by_exhibits card minutes =
    let s : State = card.state in
    let g : Ground = card.topography in
    let ten : Bool = leb minutes 10 in
    grind (
      arith,
      ammonia_printed s g,
      chlorine_printed g,
      sulfur_printed g,
      generic_printed (plume_in s (alternative_plume card.entry)) g (ten_minutes_in s ten),
      ten_printed s ten,
    )
