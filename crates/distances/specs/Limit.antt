-- How far the distance of an accepted card may be.
-- Assumes nothing.
use Rattle.std.specs.Prelude.{ℕ, ◌≤◌, Result, Ok, Err}
use Rattle.refusals.specs.declared.Refusal.{Refusal}
use Rattle.rules.specs.Rules.{mile_limit}
use Rattle.card.specs.declared.Answer.{Answer}

-- at most 25 miles, in hundredths; a card that is refused has no distance
abbrev pub Within : Result Answer Refusal → Type 0
Within (Ok a) = a.distance.0 ≤ mile_limit
Within (Err r) = Unit {0}

-- metres that no blast goes beyond, by the most pounds that number 8 lets pass and the most heat that Exhibit C-1 may print
abbrev pub reach : ℕ
reach = 4_152
