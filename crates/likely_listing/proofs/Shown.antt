-- What is shown of a likely scenario: for every card, rate and duration that is answered, the hundredths of a mile in its line are at least
-- the distance, and less than a hundredth of a mile above it.
-- Assumes nothing.
use Rattle.std.specs.Prelude.{ℕ, ◌≡◌, List, Ok}
use Rattle.std.proofs.Common.{subst}
use Rattle.interpolation.specs.declared.Likely.{Likely}
use Rattle.interpolation.specs.declared.Likely.TheVariants.{Printed, Interpolated, Limit}
use Rattle.line_laws.specs.Numbers.{Carries}
use Rattle.float_text.proofs.UpLaws.{up_exact}
use Rattle.likely_scenario.specs.declared.LikelyScenario.{LikelyScenario}
use Rattle.likely_scenario.specs.LikelyScenario.{likely_of}
use Rattle.likely_laws.specs.Numbers.{AnswerCarries, answer_number}
use Rattle.likely_listing.specs.Shown.{Shown}

by_case : (l : Likely) → Carries l → Shown l
by_case (Printed x) n = up_exact x n.0 n.1
by_case (Interpolated x) n = up_exact x n.0 n.1
by_case (Limit x) n = up_exact x n.0 n.1

pub shown_right : (card : List ℕ) (rate minutes : ℕ) (s : LikelyScenario) → likely_of card rate minutes ≡ Ok s → Shown s.distance
shown_right card rate minutes s e = by_case s.distance (subst AnswerCarries e (answer_number card rate minutes))
