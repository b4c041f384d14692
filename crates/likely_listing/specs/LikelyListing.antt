-- What the program for likely scenarios prints, as text: one line.
-- Assumes nothing.
use Rattle.std.specs.Prelude.{ℕ, List, ltb, length, Option, Some, None, Result, Ok, Err}
use Rattle.likely_scenario.specs.declared.LikelyScenario.{LikelyScenario}
use Rattle.refusals.specs.declared.Refusal.{Refusal}
use Rattle.refusals.specs.declared.Refusal.TheVariants as refusal
use Rattle.refusals.specs.Numbers.{number_of}
use Rattle.closing.specs.Closing.{refused_line, unless_long}
use Rattle.comma.specs.Text.{card_bytes}
use Rattle.question.specs.declared.Question.{Question}
use Rattle.question.specs.Question.{question_in}
use Rattle.likely_scenario.specs.LikelyScenario.{likely_of}
use Rattle.likely_line.specs.LikelyLine.{scenario_line}

-- the scenario's line, or `refused N at 0`: no card of a register is meant
abbrev pub answer_line : Result LikelyScenario Refusal → List ℕ
answer_line (Ok scenario) = scenario_line scenario
answer_line (Err r) = refused_line (number_of r) 0

-- a text that is not one well-formed line is 12, whose place counts lines from 1
abbrev pub question_line : Option Question → List ℕ
question_line (Some asked) = answer_line (likely_of (card_bytes asked.card) asked.rate asked.minutes)
question_line None = refused_line (number_of refusal.Line) 1

abbrev pub longest_text : ℕ
longest_text = 1_000

-- a text that is longer is too long to be looked at
unfoldable pub likely_listing : List ℕ → List ℕ
likely_listing text = unless_long (ltb longest_text (length text)) (question_line (question_in text))
