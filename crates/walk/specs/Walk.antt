-- The walk of the code over a register's cards, as it goes: a step for each card, with the running values and the bytes that are
-- written on the way. It serves the proofs; what a register is stands in `cards/specs/Register.antt`, and the laws beside it join
-- the two.
-- Assumes nothing.
use Rattle.std.specs.Prelude.{ℕ, ◌+◌, ◌≤◌, List, [], ◌∷◌, ◌++◌, length, Result, Ok, Err}
use Rattle.refusals.specs.declared.SentBack.{SentBack}
use Rattle.card.specs.declared.Answer.{Answer}
use Rattle.running.specs.declared.Running.{Running}
use Rattle.running.specs.Running.{step_of}
use Rattle.tally.specs.Tally.{kept_from}

-- the walk that writes nothing of a card
abbrev pub nothing_of : Answer → List ℕ
nothing_of a = []

-- what is written of several cards, one after the other, where this is written of each
unfoldable pub texts_of : (Answer → List ℕ) → List Answer → List ℕ
texts_of told [] = []
texts_of told (a ∷ rest) = told a ++ texts_of told rest

-- the cards that are left, from the running values and the bytes written so far: how many these are is what the walk keeps
abbrev pub walk_from : (Answer → List ℕ) → Running → ℕ → List (List ℕ) → Result (Running × ℕ) (SentBack ℕ)
walk_from told s at cards = kept_from (λ n a. n + length (told a)) s at cards

abbrev pub write_on : Result (Running × Answer) (SentBack ℕ) → (Running → Answer → List ℕ) → List ℕ
write_on (Ok (s, a)) further = further s a
write_on (Err sent) further = []

-- what is written of the cards that are left, up to the first that is refused
unfoldable pub text_from : (Answer → List ℕ) → Running → List (List ℕ) → List ℕ
text_from told s [] = []
text_from told s (card ∷ rest) = write_on (step_of s card) (λ t a. told a ++ text_from told t rest)

-- what is written has room
abbrev pub Within : ℕ → Result (Running × ℕ) (SentBack ℕ) → Type 0
Within room (Ok (s, at)) = at ≤ room
Within room (Err sent) = Unit {0}
