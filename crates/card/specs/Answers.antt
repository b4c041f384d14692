-- The answer of a card: its route, table, rate and distance, or the refusal that sends it back.
-- Assumes nothing.
use Rattle.std.specs.Prelude.{ℕ, List, Option, Some, None, Result, Ok, Err}
use Rattle.refusals.specs.declared.Refusal.{Refusal}
use Rattle.units.specs.declared.Miles.{Miles}
use Rattle.dispersion.specs.Tables.{reading_of}
use Rattle.blast.specs.Blast.{ring_of}
use Rattle.scenario.specs.declared.ToxicCard.{ToxicCard}
use Rattle.scenario.specs.declared.Scenario.{Scenario}
use Rattle.scenario.specs.Plan.{plan_of}
use Rattle.fields.specs.Layout.{fields_of}
use Rattle.seasons.specs.declared.Season.{Season}
use Rattle.meaning.specs.declared.Meaning.{Meaning}
use Rattle.meaning.specs.declared.Meaning.TheVariants as meaning
use Rattle.refusals.specs.declared.Refusal.TheVariants as refusal
use Rattle.card.specs.declared.Class.TheVariants as class
use Rattle.card.specs.declared.Answer.{Answer}
use Rattle.card.specs.declared.Stock.{Stock}
use Rattle.card.specs.Stock.{stock_of}

-- 11: "beyond the table"
abbrev pub read_toxic : Option Miles → ℕ → Season → Scenario → Result Answer Refusal
read_toxic (Some d) number season s =
    Ok
    (record {
      number = number;
      class = class.Toxic;
      route = s.route;
      table = s.table;
      rate = s.rate;
      distance = d;
      season = season;
    })
read_toxic None number season s = Err refusal.Beyond

-- 10: "gas in state 4, liquid in 1 to 3, dike in 1 or 2, or an exhibit field blank or marked as without data that this
-- card's route, rate or table reads", then the table
abbrev pub planned_answer : Option Scenario → ℕ → Season → ToxicCard → Result Answer Refusal
planned_answer (Some s) number season card =
    read_toxic (reading_of s.table card.topography s.rate.0 s.endpoint) number season s
planned_answer None number season card = Err refusal.Mismatch

-- "Route 3, blast: rate 0."; document 02, A7: "new flammable answers carry table number 0"
abbrev pub blast_answer : Miles → ℕ → Season → Answer
blast_answer d number season =
    record { number = number; class = class.Flammable; route = 3; table = 0; rate = record { 0 = 0 }; distance = d; season = season }

-- the answer of a meaning, in force in this season
abbrev pub answer_by : Meaning → Season → ℕ → Result Answer Refusal
answer_by (meaning.Toxic card) season number = planned_answer (plan_of card) number season card
answer_by (meaning.Flammable card) season number = Ok (blast_answer (ring_of card.cas card.quantity.0) number season)

abbrev pub answer_for : Result Stock Refusal → ℕ → Result Answer Refusal
answer_for (Ok stock) number = answer_by stock.meaning stock.season number
answer_for (Err r) number = Err r

-- the answer of a card's bytes after the last card's number
unfoldable pub answer_of : List ℕ → ℕ → Result Answer Refusal
answer_of bytes last = answer_for (stock_of bytes last) (fields_of bytes).number
