-- What a register is: its cards in turn, what the call answers, and what it leaves in the answer buffer. The contracts of the
-- entry points cite this file; how the code walks over the cards stands in `walk/specs/Walk.antt`.
-- Assumes nothing.
use Rattle.std.specs.Prelude.{ℕ, suc, Bool, true, false, List, [], ◌∷◌, ◌++◌, length, drop, Option, Result, Ok, Err}
use Rattle.farthest.specs.declared.Leaders.{Leaders}
use Rattle.refusals.specs.declared.SentBack.{SentBack}
use Rattle.refusals.specs.Numbers.{refused_at}
use Rattle.refusals.specs.declared.Refusal.{Refusal}
use Rattle.refusals.specs.declared.Refusal.TheVariants as refusal
use Rattle.card.specs.declared.Answer.{Answer}
use Rattle.card.specs.Answers.{answer_of}
use Rattle.farthest.specs.Farthest.{leaders_of}
use Rattle.encode.specs.Bytes.{answer_bytes}
use Rattle.header.specs.declared.Stored.{Stored}
use Rattle.header.specs.Header.{stored_in, cards_in, header_of}
use Rattle.cards.specs.Distances.{wrong_for}

-- what the cards of a register come to: every card's answer, or the first refusal and the place of its card
pub data Cards : Type 0 where
  answers : List Answer → Cards
  sent_back : Refusal → ℕ → Cards

-- one answer more in front
abbrev pub joined : Answer → Cards → Cards
joined a (answers rest) = answers (a ∷ rest)
joined a (sent_back r place) = sent_back r place

-- a card that is answered goes on to the next one, which must have a higher number; one that is not ends it
abbrev pub then : Result Answer Refusal → ℕ → (ℕ → Cards) → Cards
then (Ok a) place further = joined a (further a.number)
then (Err r) place further = sent_back r place

-- "then 5 to 11 on each card in turn": the cards that are left, from the place reached, after the last card's number
unfoldable pub cards_from : ℕ → ℕ → List (List ℕ) → Cards
cards_from place last [] = answers []
cards_from place last (card ∷ rest) = then (answer_of card last) place (λ n. cards_from (suc place) n rest)

-- document 02, A9: "A wrong stored distance is number 3, once every card has passed", at place 0
abbrev pub unless_wrong : Bool → List Answer → Cards
unless_wrong true xs = sent_back refusal.Count 0
unless_wrong false xs = answers xs

abbrev pub settled : Option Stored → Cards → Cards
settled s (answers xs) = unless_wrong (wrong_for s (leaders_of xs)) xs
settled s (sent_back r place) = sent_back r place

-- all cards of a register, and the distances that it stores
unfoldable pub cards_of : List ℕ → Cards
cards_of bytes = settled (stored_in bytes) (cards_from 0 0 (cards_in bytes))

-- "A refusal carries its number and the card's place, counted from 0"; "An accepted call's result gives both classes'
-- farthest"
abbrev pub result_of : Cards → Result Leaders (SentBack ℕ)
result_of (answers xs) = Ok (leaders_of xs)
result_of (sent_back r place) = Err (refused_at r place)

-- "(0 for 1 to 4, and wherever no card is meant)"
abbrev pub after_header : Result ℕ Refusal → List ℕ → Result Leaders (SentBack ℕ)
after_header (Ok count) bytes = result_of (cards_of bytes)
after_header (Err r) bytes = Err (refused_at r 0)

-- what the call answers for these bytes and an answer buffer of this length
unfoldable pub outcome_of : List ℕ → ℕ → Result Leaders (SentBack ℕ)
outcome_of bytes room = after_header (header_of bytes room) bytes

-- "Sixteen bytes a card"
unfoldable pub bytes_of : List Answer → List ℕ
bytes_of [] = []
bytes_of (a ∷ rest) = answer_bytes a ++ bytes_of rest

-- "bytes beyond are untouched"; a refusal "changes no byte of any lent buffer"
abbrev pub filled_with : Cards → List ℕ → List ℕ
filled_with (answers xs) out = bytes_of xs ++ drop (length (bytes_of xs)) out
filled_with (sent_back r place) out = out

abbrev pub filled_after : Result ℕ Refusal → List ℕ → List ℕ → List ℕ
filled_after (Ok count) bytes out = filled_with (cards_of bytes) out
filled_after (Err r) bytes out = out

-- what the call leaves in the answer buffer
unfoldable pub buffer_of : List ℕ → List ℕ → List ℕ
buffer_of bytes out = filled_after (header_of bytes (length out)) bytes out
