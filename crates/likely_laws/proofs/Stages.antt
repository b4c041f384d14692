-- The stages of an answer, each by itself: where what comes before it is a number, so is what it answers.
-- Assumes nothing.
use Rattle.std.specs.Prelude.{ℕ, Bool, true, false, Option, Some, None, Result, Ok, Err}
use Rattle.interpolation.specs.declared.Likely.{Likely}
use Rattle.scenario.specs.declared.Scenario.{Scenario}
use Rattle.scenario.specs.declared.ToxicCard.{ToxicCard}
use Rattle.scenario.specs.Plan.{plan_of}
use Rattle.refusals.specs.declared.Refusal.{Refusal}
use Rattle.fields.specs.declared.Fields.{Fields}
use Rattle.form.specs.declared.Shape.{Shape}
use Rattle.form.specs.declared.Shape.TheVariants as shape
use Rattle.meaning.specs.declared.Meaning.{Meaning}
use Rattle.meaning.specs.declared.Meaning.TheVariants as meaning
use Rattle.meaning.specs.Reading.{substance_of, toxic_meaning}
use Rattle.likely_tables.specs.LikelyTables.{likely_reading}
use Rattle.likely_scenario.specs.declared.LikelyScenario.{LikelyScenario}
use Rattle.likely_scenario.specs.LikelyScenario.{likely_table, told, planned_likely, meant_likely, shaped_likely, unless_refused}
use Rattle.line_laws.specs.Numbers.{CarriesIn}
use Rattle.likely_laws.specs.Numbers.{AnswerCarries, reading_number}

pub told_number : (found : Option Likely) (table : ℕ) → CarriesIn found → AnswerCarries (told found table)
told_number (Some d) table h = h
told_number None table h = tt

pub planned_number : (p : Option Scenario) (card : ToxicCard) (rate minutes : ℕ) → AnswerCarries (planned_likely p card rate minutes)
planned_number (Some s) card rate minutes =
    told_number (likely_reading (likely_table card minutes) card.topography rate s.endpoint) (likely_table card minutes)
    (reading_number (likely_table card minutes) card.topography rate s.endpoint)
planned_number None card rate minutes = tt

pub meant_number : (m : Result Meaning Refusal) (rate minutes : ℕ) → AnswerCarries (meant_likely m rate minutes)
meant_number (Ok (meaning.Toxic card)) rate minutes = planned_number (plan_of card) card rate minutes
meant_number (Ok (meaning.Flammable card)) rate minutes = tt
meant_number (Err r) rate minutes = tt

pub shaped_number : (s : Result Shape Refusal) (f : Fields) (rate minutes : ℕ) → AnswerCarries (shaped_likely s f rate minutes)
shaped_number (Ok (shape.Toxic standing)) f rate minutes = meant_number (toxic_meaning (substance_of f) f standing) rate minutes
shaped_number (Ok shape.Flammable) f rate minutes = tt
shaped_number (Err r) f rate minutes = tt

pub unless_number : (b : Bool) (r : Refusal) (further : Result LikelyScenario Refusal) → AnswerCarries further → AnswerCarries (unless_refused b r further)
unless_number true r further h = tt
unless_number false r further h = h
