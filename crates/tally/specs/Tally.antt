-- The walk of the code that keeps a value of its own, as it goes. It serves the proofs.
-- Assumes nothing.
use Rattle.std.specs.Prelude.{ℕ, List, [], ◌∷◌, Result, Ok, Err}
use Rattle.refusals.specs.declared.SentBack.{SentBack}
use Rattle.card.specs.declared.Answer.{Answer}
use Rattle.running.specs.declared.Running.{Running}
use Rattle.running.specs.Running.{step_of}

module _ {K : Type 0} where
  abbrev pub go_on : Result (Running × Answer) (SentBack ℕ) → (Running → Answer → Result (Running × K) (SentBack ℕ)) → Result (Running × K) (SentBack ℕ)
  go_on (Ok (s, a)) further = further s a
  go_on (Err sent) further = Err sent

  -- the cards that are left, from the running values and the value that is kept
  unfoldable pub kept_from : (K → Answer → K) → Running → K → List (List ℕ) → Result (Running × K) (SentBack ℕ)
  kept_from after s k [] = Ok (s, k)
  kept_from after s k (card ∷ rest) = go_on (step_of s card) (λ t a. kept_from after t (after k a) rest)

  -- the value after the cards of a list
  unfoldable pub kept_after : (K → Answer → K) → K → List Answer → K
  kept_after after k [] = k
  kept_after after k (a ∷ rest) = kept_after after (after k a) rest
