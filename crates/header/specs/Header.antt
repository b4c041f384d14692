-- The header of a register: what its version means, the cards behind it, and the checks 1 to 4.
-- Assumes nothing.
use Rattle.std.specs.Prelude.{ℕ, ◌+◌, ◌*◌, ◌≤◌, ◌≡◌, Bool, true, false, not, List, ltb, eqb, length, drop, Option, Some, None, Result, Ok, Err}
use Rattle.std.specs.Simd.{first_chunks}
use Rattle.search.specs.Places.{either}
use Rattle.buffer.specs.Numbers.{byte_at, two_at, four_at}
use Rattle.refusals.specs.declared.Refusal.{Refusal}
use Rattle.refusals.specs.declared.Refusal.TheVariants as refusal
use Rattle.header.specs.declared.Layout.{Layout}
use Rattle.header.specs.declared.Stored.{Stored}

-- ---- where things stand

-- "Four bytes: length of the whole register. One byte: version .. Two bytes: card count, at most 2,000." In every version.
abbrev pub version_of : List ℕ → ℕ
version_of bytes = byte_at bytes 4

abbrev pub count_of : List ℕ → ℕ
count_of bytes = two_at bytes 5

-- document 02, A9: "two 2-byte distances after the count, toxic then flammable, zero for none"
abbrev pub stored_at : List ℕ → Stored
stored_at bytes = record { toxic = two_at bytes 7; flammable = two_at bytes 9 }

-- ---- what a version means

-- Version 1: "Then cards of 24 bytes", in all "7 + 24 × count".
abbrev pub first_layout : Layout
first_layout = record { header = 7; card = 24; stores = false }

-- version 2: "11 + 24 × count"
abbrev pub second_layout : Layout
second_layout = record { header = 11; card = 24; stores = true }

-- version 3, A10: "11 + 28 × count", and it "keeps the year's values" in its header
abbrev pub third_layout : Layout
third_layout = record { header = 11; card = 28; stores = true }

-- the one list of versions: whatever depends on a register's version goes by it
unfoldable pub layout_of : ℕ → Option Layout
layout_of v =
    elim (eqb v 1) [
      | true ↦ Some first_layout
      | false ↦
          elim (eqb v 2) [
            | true ↦ Some second_layout
            | false ↦ elim (eqb v 3) [ true ↦ Some third_layout | false ↦ None ]
          ]
    ]

-- a version that nobody gives has no layout; its register is sent back with 2
abbrev pub laid : Option Layout → Layout
laid (Some l) = l
laid None = record { header = 0; card = 0; stores = false }

-- the layout of a register
unfoldable pub layout_in : List ℕ → Layout
layout_in bytes = laid (layout_of (version_of bytes))

-- the bytes of a register of this layout and so many cards
abbrev pub size_of : Layout → ℕ → ℕ
size_of l count = l.header + l.card * count

-- the cards of a register in turn, each its bytes
unfoldable pub cards_in : List ℕ → List (List ℕ)
cards_in bytes = first_chunks (layout_in bytes).card (count_of bytes) (drop (layout_in bytes).header bytes)

-- the distances that its header stores, where its version has them
abbrev pub stored_if : Bool → Stored → Option Stored
stored_if true s = Some s
stored_if false s = None

unfoldable pub stored_in : List ℕ → Option Stored
stored_in bytes = stored_if (layout_in bytes).stores (stored_at bytes)

-- ---- the checks

-- what every version has in front of its cards
abbrev pub shortest : ℕ
shortest = 7

-- "Sixteen bytes a card" in the answer buffer
abbrev pub answer_size : ℕ
answer_size = 16

-- An answer buffer that no register is refused for: "Sixteen bytes a card", 2,000 cards. Who lists a register, edits it or writes it as
-- comma lines lends none, so that number 4 never comes.
abbrev pub enough : ℕ
enough = answer_size * 2_000

-- 1: "under 7 bytes, or length field not the bytes given"
unfoldable pub bad_length : List ℕ → Bool
bad_length bytes = either (ltb (length bytes) shortest) (not (eqb (four_at bytes 0) (length bytes)))

-- 2: "a version that neither 01 nor a request gives"
abbrev pub unknown : Option Layout → Bool
unknown (Some l) = false
unknown None = true

unfoldable pub bad_version : List ℕ → Bool
bad_version bytes = unknown (layout_of (version_of bytes))

-- 3: "count above 2,000, or length not 7 + 24 × count"; "Version 2's length rule is 11 + 24 × count"; version 3 is "of 11 + 28 × count
-- bytes". (A wrong stored distance is 3 as well, "once every card has passed": `cards/specs/Register.antt`.)
unfoldable pub bad_count : List ℕ → Bool
bad_count bytes =
    either (ltb 2_000 (count_of bytes)) (not (eqb (length bytes) (size_of (layout_in bytes) (count_of bytes))))

-- 4: "answer buffer under 16 × count"
unfoldable pub bad_buffer : List ℕ → ℕ → Bool
bad_buffer bytes room = ltb room (answer_size * count_of bytes)

-- a check that refuses where its condition holds
abbrev pub header_if : Bool → Refusal → Result ℕ Refusal → Result ℕ Refusal
header_if true r further = Err r
header_if false r further = further

-- "Checks run 1 to 4": the card count, or the first refusal whose condition holds
unfoldable pub header_of : List ℕ → ℕ → Result ℕ Refusal
header_of bytes room =
    header_if (bad_length bytes) refusal.Length
    (header_if (bad_version bytes) refusal.Version
    (header_if (bad_count bytes) refusal.Count
    (header_if (bad_buffer bytes room) refusal.Buffer (Ok (count_of bytes)))))

-- a register is as long as its version and its count say
pub record Whole (bytes : List ℕ) : Type 0 where
  pub register : length bytes ≡ size_of (layout_in bytes) (count_of bytes)

-- what a good header says: a version that somebody gives, and the two lengths
pub record Fitting (bytes : List ℕ) (room n : ℕ) : Type 0 where
  pub version : bad_version bytes ≡ false
  pub cards : n ≤ 2_000
  pub counted : n ≡ count_of bytes
  pub whole : Whole bytes
  pub answers : answer_size * n ≤ room

abbrev pub HeaderFits : List ℕ → ℕ → Result ℕ Refusal → Type 0
HeaderFits bytes room (Ok n) = Fitting bytes room n
HeaderFits bytes room (Err r) = Unit {0}
