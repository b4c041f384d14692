-- A text of comma lines: its cards, or the first line that is not well formed; what the reader answers, and what it leaves in
-- the lent buffer.
-- Assumes nothing.
use Rattle.std.specs.Prelude.{ℕ, suc, List, [], ◌∷◌, ◌++◌, Bool, true, false, ltb, length, drop, Option, Some, None, Result, Ok, Err}
use Rattle.refusals.specs.declared.SentBack.{SentBack}
use Rattle.refusals.specs.Numbers.{refused_at}
use Rattle.search.specs.Places.{either}
use Rattle.buffer.specs.Numbers.{two_bytes, four_bytes}
use Rattle.pieces.specs.Pieces.{pieces}
use Rattle.fields.specs.declared.Fields.{Fields}
use Rattle.refusals.specs.declared.Refusal.TheVariants as refusal
use Rattle.header.specs.Header.{first_layout, size_of as size_in}
use Rattle.comma.specs.Line.{line_of}

-- "A line is .. then a line feed (10), optional to the reader after the last": an empty text has no lines
unfoldable pub lines_of : List ℕ → List (List ℕ)
lines_of text = pieces 10 [] text

-- what the lines of a text come to: every line's card, or the number of the first line that has none
pub data Cards : Type 0 where
  cards : List Fields → Cards
  bad : ℕ → Cards

-- one card more in front
abbrev pub joined : Fields → Cards → Cards
joined f (cards rest) = cards (f ∷ rest)
joined f (bad k) = bad k

abbrev pub then : Option Fields → ℕ → Cards → Cards
then (Some f) k further = joined f further
then None k further = bad k

-- lines that are left, the first of them with the number k
unfoldable pub cards_from : ℕ → List (List ℕ) → Cards
cards_from k [] = cards []
cards_from k (text ∷ rest) = then (line_of text) k (cards_from (suc k) rest)

-- "with the first such line's number from 1"
unfoldable pub cards_in : List ℕ → Cards
cards_in text = cards_from 1 (lines_of text)

-- ---- "into a lent version 1 register"

-- the 24 bytes of a card
unfoldable pub card_bytes : Fields → List ℕ
card_bytes f =
    f.kind ∷ f.state ∷ f.topography ∷ f.containment
    ∷ (four_bytes f.cas ++ (four_bytes f.pounds ++ (four_bytes f.area
    ++ (two_bytes f.wall ++ (two_bytes f.heat ++ four_bytes f.number)))))

-- cards one after the other
unfoldable pub bytes_of : List Fields → List ℕ
bytes_of [] = []
bytes_of (f ∷ rest) = card_bytes f ++ bytes_of rest

-- how long the version 1 register of so many cards is
abbrev pub size_of : ℕ → ℕ
size_of count = size_in first_layout count

-- "Four bytes: length of the whole register. One byte: version, 1. Two bytes: card count, at most 2,000."
unfoldable pub header_bytes : ℕ → List ℕ
header_bytes count = four_bytes (size_of count) ++ (1 ∷ two_bytes count)

-- the register of some cards
unfoldable pub register_of : List Fields → List ℕ
register_of xs = header_bytes (length xs) ++ bytes_of xs

-- ---- the call

-- 13: "the output buffer is too small or there are over 2,000 lines, found last"
unfoldable pub bad_room : ℕ → ℕ → Bool
bad_room count room = either (ltb 2_000 count) (ltb room (size_of count))

-- 12 with its line's number; 13 with place 0; else how many bytes were written
abbrev pub read_as : Cards → ℕ → Result ℕ (SentBack ℕ)
read_as (cards xs) room = elim (bad_room (length xs) room) [ true ↦ Err (refused_at refusal.Room 0) | false ↦ Ok (size_of (length xs)) ]
read_as (bad k) room = Err (refused_at refusal.Line k)

-- what the reader answers for a text and a lent buffer of this length
unfoldable pub reading_of : List ℕ → ℕ → Result ℕ (SentBack ℕ)
reading_of text room = read_as (cards_in text) room

-- "bytes of a lent buffer behind what is written stay"; a refusal changes none
abbrev pub filled_with : Cards → List ℕ → List ℕ
filled_with (cards xs) out = elim (bad_room (length xs) (length out)) [ true ↦ out | false ↦ register_of xs ++ drop (size_of (length xs)) out ]
filled_with (bad k) out = out

-- what the reader leaves in the lent buffer
unfoldable pub read_into : List ℕ → List ℕ → List ℕ
read_into text out = filled_with (cards_in text) out
