-- The words of the C interface for a likely scenario: what the call returns, and what it leaves in the words beside its result.
-- Assumes nothing.
use Rattle.std.specs.Prelude.{ℕ, Float, Result, Ok, Err}
use Rattle.likely_scenario.specs.declared.LikelyScenario.{LikelyScenario}
use Rattle.refusals.specs.declared.Refusal.{Refusal}
use Rattle.interpolation.specs.declared.Likely.{Likely}
use Rattle.interpolation.specs.declared.Likely.TheVariants.{Printed, Interpolated, Limit}
use Rattle.words.specs.Words.{refusal_code}

-- "whether the distance was printed, interpolated or the 25-mile limit", by a number, and the distance
abbrev pub found_of : Likely → ℕ
found_of (Printed x) = 1
found_of (Interpolated x) = 2
found_of (Limit x) = 3

abbrev pub hundredths_of : Likely → Float
hundredths_of (Printed x) = x
hundredths_of (Interpolated x) = x
hundredths_of (Limit x) = x

-- what the call returns; a refusal's place is 0 throughout
unfoldable pub likely_code : Result LikelyScenario Refusal → ℕ
likely_code (Ok s) = 0
likely_code (Err r) = refusal_code r 0

-- what it leaves in each of the three words that held this before; a refusal changes none
unfoldable pub table_after : Result LikelyScenario Refusal → ℕ → ℕ
table_after (Ok s) before = s.table
table_after (Err r) before = before

unfoldable pub found_after : Result LikelyScenario Refusal → ℕ → ℕ
found_after (Ok s) before = found_of s.distance
found_after (Err r) before = before

unfoldable pub hundredths_after : Result LikelyScenario Refusal → Float → Float
hundredths_after (Ok s) before = hundredths_of s.distance
hundredths_after (Err r) before = before
