-- A question for a likely scenario (document 02, A6), as one line of text: the rate in thousandths, the minutes, and then a comma line
-- of A1, which keeps its remark last.
-- Assumes nothing.
use Rattle.std.specs.Prelude.{ℕ, List, [], ◌∷◌, Option, Some, None}
use Rattle.fields.specs.declared.Fields.{Fields}
use Rattle.comma.specs.Line.{of_four_bytes, line_of}
use Rattle.comma.specs.Stages.{taken_in}
use Rattle.comma.specs.Text.{lines_of}
use Rattle.question.specs.declared.Question.{Question}

-- what is asked, in the order of its line
abbrev pub question : ℕ → ℕ → Fields → Question
question rate minutes card = record { rate = rate; minutes = minutes; card = card }

-- the card: what stands behind the two numbers is a comma line, of 200 bytes at most
abbrev pub with_card : ℕ → ℕ → Option Fields → Option Question
with_card rate minutes (Some card) = Some (question rate minutes card)
with_card rate minutes None = None

-- the minutes, a field that a comma ends, with spaces around the number or none, as A1 has them
abbrev pub with_minutes : ℕ → Option (ℕ × List ℕ) → Option Question
with_minutes rate (Some (minutes, behind)) = with_card rate minutes (line_of behind)
with_minutes rate None = None

-- the rate, likewise
abbrev pub with_rate : Option (ℕ × List ℕ) → Option Question
with_rate (Some (rate, behind)) = with_minutes rate (taken_in of_four_bytes behind)
with_rate None = None

unfoldable pub asked_in : List ℕ → Option Question
asked_in text = with_rate (taken_in of_four_bytes text)

-- one line and no other
abbrev pub one_line : List (List ℕ) → Option Question
one_line [] = None
one_line (text ∷ []) = asked_in text
one_line (text ∷ other ∷ rest) = None

-- the question of a text; "then a line feed, optional to the reader after the last"
unfoldable pub question_in : List ℕ → Option Question
question_in text = one_line (lines_of text)
