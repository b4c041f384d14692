-- The running values of a walk over a register's cards, and one step of it.
-- Assumes nothing.
use Rattle.std.specs.Prelude.{ℕ, suc, List, [], ◌∷◌, Result, Ok, Err}
use Rattle.refusals.specs.declared.Refusal.{Refusal}
use Rattle.refusals.specs.declared.SentBack.{SentBack}
use Rattle.refusals.specs.Numbers.{refused_at}
use Rattle.card.specs.declared.Answer.{Answer}
use Rattle.card.specs.Answers.{answer_of}
use Rattle.farthest.specs.Farthest.{no_leaders, leaders_after}
use Rattle.running.specs.declared.Running.{Running}

-- the running values before the first card
abbrev pub before_cards : Running
before_cards = record { leaders = no_leaders; last = 0; place = 0 }

-- and after a card with this answer
abbrev pub after_card : Running → Answer → Running
after_card s a = record { leaders = leaders_after s.leaders a; last = a.number; place = suc s.place }

abbrev pub step_to : Result Answer Refusal → Running → Result (Running × Answer) (SentBack ℕ)
step_to (Ok a) s = Ok (after_card s a, a)
step_to (Err r) s = Err (refused_at r s.place)

-- one step: the card is answered after the last number
unfoldable pub step_of : Running → List ℕ → Result (Running × Answer) (SentBack ℕ)
step_of s card = step_to (answer_of card s.last) s

-- the running values after several cards, one after the other
unfoldable pub running_after : Running → List Answer → Running
running_after s [] = s
running_after s (a ∷ rest) = running_after (after_card s a) rest
