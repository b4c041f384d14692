-- A likely scenario beside the worst: the alternative distance of a toxic card, at a rate and a duration that the reader supplies, as
-- document 02 gives it in A6. "These answers stand outside the ring ordering."
-- Assumes nothing.
use Rattle.std.specs.Prelude.{ℕ, ◌+◌, Bool, true, false, List, leb, ltb, eqb, Option, Some, None, Result, Ok, Err}
use Rattle.interpolation.specs.declared.Likely.{Likely}
use Rattle.likely_scenario.specs.declared.LikelyScenario.{LikelyScenario}
use Rattle.scenario.specs.declared.Scenario.{Scenario}
use Rattle.search.specs.Places.{either}
use Rattle.refusals.specs.declared.Refusal.{Refusal}
use Rattle.refusals.specs.declared.Refusal.TheVariants as refusal
use Rattle.exhibits.specs.Exhibits.{alternative_plume}
use Rattle.which_table.specs.WhichTable.{table_of}
use Rattle.scenario.specs.declared.ToxicCard.{ToxicCard}
use Rattle.scenario.specs.Plan.{plan_of}
use Rattle.fields.specs.declared.Fields.{Fields}
use Rattle.fields.specs.Layout.{fields_of}
use Rattle.form.specs.declared.Shape.{Shape}
use Rattle.form.specs.declared.Shape.TheVariants as shape
use Rattle.form.specs.Form.{shape_of}
use Rattle.meaning.specs.declared.Meaning.{Meaning}
use Rattle.meaning.specs.declared.Meaning.TheVariants as meaning
use Rattle.meaning.specs.Reading.{substance_of, toxic_meaning}
use Rattle.likely_tables.specs.LikelyTables.{likely_reading}

-- 17: "supplied rate zero or above 1,000,000,000 thousandths"
unfoldable pub bad_rate : ℕ → Bool
bad_rate rate = either (eqb rate 0) (ltb 1_000_000_000 rate)

-- "Exhibits 4 and 5 choose among Tables 14 to 25: 10 minutes or less, or state 5, the 10-minute ones; states 2 and 3 dense, gases by
-- B-1, the rest by the alternative-case column." The table stands thirteen above the one that the same substance, state, plume,
-- ground and duration have for a worst case.
unfoldable pub likely_table : ToxicCard → ℕ → ℕ
likely_table card minutes =
    13 + table_of card.cas card.state (alternative_plume card.entry) card.topography (leb minutes 10)

-- "above the last, the rule of 11". The answer has the number of its table beside the distance.
abbrev pub told : Option Likely → ℕ → Result LikelyScenario Refusal
told (Some distance) table = Ok (record { table = table; distance = distance })
told None table = Err refusal.Beyond

-- 10, "checked as ever", which is as for the card's worst case: where that has a scenario, the endpoint is its own. Its rate counts for
-- nothing, and the supplied one is taken as it is.
abbrev pub planned_likely : Option Scenario → ToxicCard → ℕ → ℕ → Result LikelyScenario Refusal
planned_likely (Some s) card rate minutes =
    told (likely_reading (likely_table card minutes) card.topography rate s.endpoint) (likely_table card minutes)
planned_likely None card rate minutes = Err refusal.Mismatch

-- 7, 8, 9, 14, 15 or 16, "checked as ever"
abbrev pub meant_likely : Result Meaning Refusal → ℕ → ℕ → Result LikelyScenario Refusal
meant_likely (Ok (meaning.Toxic card)) rate minutes = planned_likely (plan_of card) card rate minutes
meant_likely (Ok (meaning.Flammable card)) rate minutes = Err refusal.Form
meant_likely (Err r) rate minutes = Err r

-- 6: "a flammable one is 6", whatever else is wrong with it
abbrev pub shaped_likely : Result Shape Refusal → Fields → ℕ → ℕ → Result LikelyScenario Refusal
shaped_likely (Ok (shape.Toxic standing)) f rate minutes = meant_likely (toxic_meaning (substance_of f) f standing) rate minutes
shaped_likely (Ok shape.Flammable) f rate minutes = Err refusal.Form
shaped_likely (Err r) f rate minutes = Err r

-- a card, by its bytes
abbrev pub card_likely : List ℕ → ℕ → ℕ → Result LikelyScenario Refusal
card_likely card rate minutes = shaped_likely (shape_of (fields_of card)) (fields_of card) rate minutes

-- a check that refuses where its condition holds
abbrev pub unless_refused : Bool → Refusal → Result LikelyScenario Refusal → Result LikelyScenario Refusal
unless_refused true r further = Err r
unless_refused false r further = further

-- "for a toxic card of 24 bytes (checked as ever but for 5 and 11 ..), at a rate in thousandths and a duration in whole minutes that the
-- reader supplies"; "17 then 18 come before every other check". The number of the card counts for nothing.
unfoldable pub likely_of : List ℕ → ℕ → ℕ → Result LikelyScenario Refusal
likely_of card rate minutes =
    unless_refused (bad_rate rate) refusal.SuppliedRate
    (unless_refused (eqb minutes 0) refusal.SuppliedDuration
    (card_likely card rate minutes))
