-- Document 02, A9: "Cards may be added, replaced or withdrawn by number (a card handed in goes by its own) in a lent buffer that
-- starts with a register". What an edit is, on the list of cards; what the call answers, and what it leaves in the buffer.
-- Assumes nothing.
use Rattle.std.specs.Prelude.{ℕ, ◌-◌, Bool, true, false, not, List, [], ◌∷◌, ◌++◌, map, ltb, eqb, length, take, replicate, Result, Ok, Err}
use Rattle.std.specs.List.{concat}
use Rattle.search.specs.Places.{either}
use Rattle.buffer.specs.Numbers.{four_at, two_bytes, four_bytes}
use Rattle.seasons.specs.Seasons.{grown}
use Rattle.refusals.specs.declared.Refusal.{Refusal}
use Rattle.refusals.specs.declared.Refusal.TheVariants as refusal
use Rattle.refusals.specs.declared.SentBack.{SentBack}
use Rattle.refusals.specs.Numbers.{refused_at}
use Rattle.farthest.specs.declared.Leaders.{Leaders}
use Rattle.farthest.specs.Farthest.{leaders_of}
use Rattle.header.specs.declared.Layout.{Layout}
use Rattle.header.specs.declared.Stored.{Stored}
use Rattle.header.specs.Header.{third_layout, size_of, cards_in, enough}
use Rattle.cards.specs.Distances.{distances_of}
use Rattle.cards.specs.Register.{Cards, answers, sent_back, cards_from, outcome_of}

-- an edit, with the bytes of the card that is handed in (28, as "accepted edits bring") or the number of the one to withdraw
pub data Edit : Type 0 where
  add : List ℕ → Edit
  replace : List ℕ → Edit
  withdraw : ℕ → Edit

-- ---- on the list of cards

-- "20 to 23: card number"
abbrev pub card_number : List ℕ → ℕ
card_number card = four_at card 20

-- the number that an edit names: "a card handed in goes by its own"
abbrev pub named : Edit → ℕ
named (add card) = card_number card
named (replace card) = card_number card
named (withdraw n) = n

-- whether a card of that number has to be there; to add one, none may be
abbrev pub takes : Edit → Bool
takes (add card) = false
takes (replace card) = true
takes (withdraw n) = true

-- the cards that it brings
abbrev pub brings : Edit → List (List ℕ)
brings (add card) = card ∷ []
brings (replace card) = card ∷ []
brings (withdraw n) = []

abbrev pub keep_if : Bool → List ℕ → List (List ℕ) → List (List ℕ)
keep_if true card rest = card ∷ rest
keep_if false card rest = rest

-- the cards with a lower number, and those with a higher one, each as it stands
unfoldable pub below : ℕ → List (List ℕ) → List (List ℕ)
below n [] = []
below n (card ∷ rest) = keep_if (ltb (card_number card) n) card (below n rest)

unfoldable pub above : ℕ → List (List ℕ) → List (List ℕ)
above n [] = []
above n (card ∷ rest) = keep_if (ltb n (card_number card)) card (above n rest)

-- the cards as they would then be: what is brought stands at its place by number, in place of a card of that number
abbrev pub with_number : ℕ → List (List ℕ) → List (List ℕ) → List (List ℕ)
with_number n brought cards = below n cards ++ (brought ++ above n cards)

-- A10: "older cards gaining 1 and 366 behind their bytes": each as the version that an edit makes has it
unfoldable pub edited : Edit → List (List ℕ) → List (List ℕ)
edited e cards = map grown (with_number (named e) (brings e) cards)

-- there is a card of that number
unfoldable pub is_there : ℕ → List (List ℕ) → Bool
is_there n [] = false
is_there n (card ∷ rest) = either (eqb (card_number card) n) (is_there n rest)

-- 19: "no card of that number to replace or withdraw, or one there already to add"
abbrev pub bad_presence : Bool → Bool → Bool
bad_presence true there = not there
bad_presence false there = there

-- the version that an accepted edit makes: A10, "accepted edits .. make any register version 3, of 11 + 28 × count bytes"
abbrev pub edit_version : ℕ
edit_version = 3

abbrev pub edit_layout : Layout
edit_layout = third_layout

-- 20: "the buffer can't hold the register as it would then be, or it would pass 2,000 cards"
unfoldable pub bad_capacity : ℕ → ℕ → Bool
bad_capacity room count = either (ltb 2_000 count) (ltb room (size_of edit_layout count))

-- ---- as bytes

-- "Four bytes: length of the whole register. One byte: version .. Two bytes: card count", "two 2-byte distances after the count, toxic
-- then flammable, zero for none"
unfoldable pub header_bytes : ℕ → Stored → List ℕ
header_bytes count d =
    four_bytes (size_of edit_layout count) ++ (edit_version ∷ (two_bytes count ++ (two_bytes d.toxic ++ two_bytes d.flammable)))

-- the register of these cards, with the distances of these leaders; older cards gain the days that they have without them
unfoldable pub register_of : List (List ℕ) → Leaders → List ℕ
register_of cards l = header_bytes (length cards) (distances_of l) ++ concat (map grown cards)

-- the register of cards that are all answered, or the first refusal and its place
abbrev pub laid : List (List ℕ) → Cards → Result (List ℕ) (SentBack ℕ)
laid cards (answers xs) = Ok (register_of cards (leaders_of xs))
laid cards (sent_back r place) = Err (refused_at r place)

unfoldable pub register_with : List (List ℕ) → Result (List ℕ) (SentBack ℕ)
register_with cards = laid cards (cards_from 0 0 cards)

-- ---- in a buffer

-- The register that a buffer starts with: as many bytes as its length field says. Where the field is "under 7 or past the buffer"
-- these are under 7 bytes, or not as many as it says, and so number 1.
unfoldable pub held : List ℕ → List ℕ
held buffer = take (four_at buffer 0) buffer

abbrev pub unless_bad : Bool → Refusal → Result (List ℕ) (SentBack ℕ) → Result (List ℕ) (SentBack ℕ)
unless_bad true r further = Err (refused_at r 0)
unless_bad false r further = further

-- "19 then 20, both at place 0, .. before the new card is checked at its new place": of the cards as they would then be only the one
-- that is brought can be sent back
unfoldable pub changed : ℕ → Bool → List (List ℕ) → List (List ℕ) → ℕ → Result (List ℕ) (SentBack ℕ)
changed n wanted brought cards room =
    unless_bad (bad_presence wanted (is_there n cards)) refusal.Presence
    (unless_bad (bad_capacity room (length (with_number n brought cards))) refusal.Capacity (register_with (with_number n brought cards)))

-- "after the old register is accepted": its own refusals come first
abbrev pub after_old : Result Leaders (SentBack ℕ) → Result (List ℕ) (SentBack ℕ) → Result (List ℕ) (SentBack ℕ)
after_old (Ok l) further = further
after_old (Err sent) further = Err sent

-- what becomes of the register that a buffer starts with: the register as it would then be, or why nothing is done
unfoldable pub register_by : ℕ → Bool → List (List ℕ) → List ℕ → Result (List ℕ) (SentBack ℕ)
register_by n wanted brought buffer =
    after_old (outcome_of (held buffer) enough) (changed n wanted brought (cards_in (held buffer)) (length buffer))

abbrev pub register_after : Edit → List ℕ → Result (List ℕ) (SentBack ℕ)
register_after e buffer = register_by (named e) (takes e) (brings e) buffer

-- what the call answers: how long the register now is, or a refusal with its place
abbrev pub length_of : Result (List ℕ) (SentBack ℕ) → Result ℕ (SentBack ℕ)
length_of (Ok register) = Ok (length register)
length_of (Err sent) = Err sent

abbrev pub edit_of : Edit → List ℕ → Result ℕ (SentBack ℕ)
edit_of e buffer = length_of (register_after e buffer)

-- what it leaves in the buffer: "after an accepted edit holds zeros behind it"; a refused one changes no byte
abbrev pub left_by : Result (List ℕ) (SentBack ℕ) → List ℕ → List ℕ
left_by (Ok register) buffer = register ++ replicate (length buffer - length register) 0
left_by (Err sent) buffer = buffer

abbrev pub buffer_after : Edit → List ℕ → List ℕ
buffer_after e buffer = left_by (register_after e buffer) buffer
