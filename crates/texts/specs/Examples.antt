-- Document 01's register of three cards and its comma lines: the strict text of the register, and what reads into it; and how the writer
-- answers where the register is of version 2 or 3.
-- Assumes nothing.
use Rattle.std.specs.Prelude.{ℕ, ◌≡◌, refl, List, [], ◌∷◌, ◌++◌, replicate, take, drop, Err}
use Rattle.refusals.specs.Numbers.{refused_at}
use Rattle.refusals.specs.declared.Refusal.TheVariants as refusal
use Rattle.buffer.specs.Numbers.{two_bytes, four_bytes}
use Rattle.decimal.specs.Decimal.{digits, padded, read_from}
use Rattle.pieces.specs.Pieces.{pieces, closed}
use Rattle.spaces.specs.Spaces.{skip, chop, bare}
use Rattle.numerals.specs.Numerals.{read_on, number_in, hyphened, unhyphened, cas_in, heat_in, value_in}
use Rattle.fields.specs.Layout.{fields_of}
use Rattle.header.specs.Header.{layout_of, layout_in, cards_in as cards_laid, bad_length}
use Rattle.comma.specs.Line.{fields_in, tenths_form, lasts_in, amounts_in, codes_in, line_of}
use Rattle.comma.specs.Text.{lines_of, cards_from, cards_in, card_bytes, bytes_of, header_bytes, register_of, bad_room, read_into}
use Rattle.comma.specs.Strict.{cas_text, heat_text, tenths_text, field_texts, strict_line, strict_lines}
use Rattle.comma.specs.Examples.{ascii}
use Rattle.write_lines.specs.Writing.{fields_of_register, strict_text, other_version, writable, writing_of}

-- length, version and count; chlorine, bromine and propane
unfoldable pub register : List ℕ
register =
    (0 ∷ 0 ∷ 0 ∷ 79 ∷ 1 ∷ 0 ∷ 3 ∷ [])
    ++ ((1 ∷ 2 ∷ 2 ∷ 0 ∷ 0 ∷ 118 ∷ 192 ∷ 105 ∷ 0 ∷ 0 ∷ 9 ∷ 196 ∷ 0 ∷ 0 ∷ 0 ∷ 0 ∷ 0 ∷ 0 ∷ 0 ∷ 0 ∷ 0 ∷ 0 ∷ 0 ∷ 11 ∷ [])
    ++ ((1 ∷ 4 ∷ 2 ∷ 1 ∷ 0 ∷ 117 ∷ 231 ∷ 108 ∷ 0 ∷ 0 ∷ 78 ∷ 32 ∷ 0 ∷ 0 ∷ 0 ∷ 100 ∷ 1 ∷ 144 ∷ 0 ∷ 250 ∷ 0 ∷ 0 ∷ 0 ∷ 12 ∷ [])
    ++ (2 ∷ 0 ∷ 0 ∷ 0 ∷ 0 ∷ 1 ∷ 36 ∷ 234 ∷ 0 ∷ 0 ∷ 39 ∷ 16 ∷ 0 ∷ 0 ∷ 0 ∷ 0 ∷ 0 ∷ 0 ∷ 0 ∷ 0 ∷ 0 ∷ 0 ∷ 0 ∷ 13 ∷ [])))

-- as the writer writes it
unfoldable pub strict : List ℕ
strict = ascii "1,2,2,0,7782-50-5,2500,0,0,0,11,\n1,4,2,1,7726-95-6,20000,100,400,250,12,\n2,0,0,0,74-98-6,10000,0,0,0,13,\n"

-- as somebody may have keyed it
unfoldable pub keyed : List ℕ
keyed = ascii "1,2,2,0,7782-50-5,2500,0,0,0,11,gate 3\n1, 4, 2, 1, 7726-95-6, 020000, 100, 0400, 0250, 12,\n2,0,0,0,074-98-6,10000,0,0,0,13,"

-- the strict text; and each text, read into a buffer of 81 bytes: "bytes of a lent buffer behind what is written stay"
pub three_cards : (strict_text register ≡ strict)
    × (read_into strict (replicate 81 170) ≡ register ++ (170 ∷ 170 ∷ []))
    × (read_into keyed (replicate 81 170) ≡ register ++ (170 ∷ 170 ∷ []))
unfolding ascii register strict keyed two_bytes four_bytes digits padded read_from pieces closed skip chop bare read_on number_in hyphened unhyphened cas_in heat_in value_in fields_of fields_in tenths_form lasts_in amounts_in codes_in line_of lines_of cards_from cards_in card_bytes bytes_of header_bytes register_of bad_room read_into cas_text heat_text tenths_text field_texts strict_line strict_lines layout_of layout_in cards_laid fields_of_register strict_text
three_cards = (refl, refl, refl)

-- ---- versions 2 and 3

-- the three cards behind this count, with their two farthest distances, 1.80 and 0.18 miles
unfoldable pub storing : ℕ → List ℕ
storing count = (0 ∷ 0 ∷ 0 ∷ 83 ∷ 2 ∷ 0 ∷ count ∷ 0 ∷ 180 ∷ 0 ∷ 18 ∷ []) ++ drop 7 register

-- Document 02, A9: "version 2, which the comma writer refuses with 2": accepted as it is, it is not written; where a byte lacks it is 1
-- first; and where the count is another than its length says, which is 3 elsewhere, it is still 2.
pub version_2 : (writing_of (storing 3) 1_000 ≡ Err (refused_at refusal.Version 0))
    × (writing_of (take 82 (storing 3)) 1_000 ≡ Err (refused_at refusal.Length 0))
    × (writing_of (storing 4) 1_000 ≡ Err (refused_at refusal.Version 0))
unfolding storing register writing_of writable bad_length other_version
version_2 = (refl, refl, refl)

-- propane in a register of version 3, in force from 1 to 366
unfoldable pub seasonal : List ℕ
seasonal = (0 ∷ 0 ∷ 0 ∷ 39 ∷ 3 ∷ 0 ∷ 1 ∷ 0 ∷ 0 ∷ 0 ∷ 18 ∷ []) ++ (drop 55 register ++ (0 ∷ 1 ∷ 1 ∷ 110 ∷ []))

-- A10: "The comma writer refuses version 3 with 2"
pub version_3 : (writing_of seasonal 1_000 ≡ Err (refused_at refusal.Version 0))
    × (writing_of (take 38 seasonal) 1_000 ≡ Err (refused_at refusal.Length 0))
unfolding seasonal register writing_of writable bad_length other_version
version_3 = (refl, refl)
