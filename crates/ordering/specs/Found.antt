-- What other crates say by it; the laws are in proofs/Found.antt.
-- Assumes nothing.
use Rattle.std.specs.Prelude.{ℕ, ◌≡◌, false, List}
use Rattle.card.specs.declared.Answer.{Answer}
use Rattle.farthest.specs.declared.Leaders.{Leaders}
use Rattle.farthest.specs.Farthest.{leaders_of}
use Rattle.header.specs.Header.{stored_in, cards_in}
use Rattle.cards.specs.Distances.{wrong_for}
use Rattle.cards.specs.Register.{answers, cards_from}

-- an accepted call: its header is good, its cards are all answered, and no wrong distance is stored
pub record Found (bytes : List ℕ) (leaders : Leaders) : Type 0 where
  pub list : List Answer
  pub cards : cards_from 0 0 (cards_in bytes) ≡ answers list
  pub leads : leaders_of list ≡ leaders
  pub stored : wrong_for (stored_in bytes) leaders ≡ false
