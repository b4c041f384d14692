-- Document 02, A6: demand 1 of the call for a likely scenario, for any card, any supplied rate and any supplied minutes. The theorem is
-- `likely_exactly` of `Exactly`.
-- Assumes nothing.
use Rattle.std.specs.Prelude.{ℕ, ◌≡◌, refl, List, [], ◌∷◌, map, Ok, Err}
use Rattle.conditions.specs.Conditions.{only}
use Rattle.conditions.specs.Claim.{ExactlyBy, number_in}
use Rattle.likely_scenario.specs.declared.LikelyScenario.{LikelyScenario}
use Rattle.likely_scenario.specs.LikelyScenario.{likely_of}
use Rattle.likely_conditions.specs.Conditions.{of_likely, likely_conditions_at}

-- The call gives a refusal, which stands at place 0, exactly when its condition is the first that holds, and else tells a scenario.
abbrev pub LikelyExactly : Type 0
LikelyExactly =
    (card : List ℕ) (rate minutes : ℕ)
    → ExactlyBy (likely_conditions_at card rate minutes)
    (λ r place. (likely_of card rate minutes ≡ Err r) × (place ≡ 0))
    ((s : LikelyScenario) × (likely_of card rate minutes ≡ Ok s))

-- the lines stand in this order: 17 and 18 first, then a card's without 5
pub likely_numbered : (card : List ℕ) (rate minutes place : ℕ) → map number_in (likely_conditions_at card rate minutes place) ≡ 17 ∷ 18 ∷ 6 ∷ 7 ∷ 8 ∷ 9 ∷ 14 ∷ 15 ∷ 16 ∷ 10 ∷ 11 ∷ []
unfolding likely_conditions_at only of_likely
likely_numbered card rate minutes place = refl
