-- Lines and texts, good and bad, in tables: what the definitions make of each. The theorem is `examples`.
-- Assumes nothing.
use Rattle.std.specs.Prelude.{ℕ, ◌≡◌, refl, List, [], ◌∷◌, ◌++◌, map, replicate, Option, Some, None, Result, Ok, Err}
use Rattle.refusals.specs.declared.SentBack.{SentBack}
use Rattle.refusals.specs.Numbers.{refused_at}
use Prim.Native.Char.{code}
use Prim.Native.String.{String}
use Rattle.pieces.specs.Pieces.{pieces, closed}
use Rattle.decimal.specs.Decimal.{digits, padded, read_from}
use Rattle.spaces.specs.Spaces.{skip, chop, bare}
use Rattle.numerals.specs.Numerals.{read_on, number_in, hyphened, unhyphened, cas_in, heat_in, value_in}
use Rattle.fields.specs.declared.Fields.{Fields}
use Rattle.refusals.specs.declared.Refusal.TheVariants as refusal
use Rattle.comma.specs.Line.{fields_in, tenths_form, lasts_in, amounts_in, codes_in, line_of}
use Rattle.comma.specs.Text.{lines_of, Cards, cards, bad, cards_from, cards_in, bad_room, reading_of}
use Rattle.comma.specs.Strict.{cas_text, heat_text, tenths_text, field_texts, strict_line}

-- the bytes of a text in ASCII
unfoldable pub ascii : String → List ℕ
ascii String.[] = []
ascii (String.◌∷◌ c rest) = code c ∷ ascii rest

-- kind, state, ground, containment, CAS number, pounds, area, wall, temperature (unsigned) or concentration, card number
abbrev pub card : ℕ → ℕ → ℕ → ℕ → ℕ → ℕ → ℕ → ℕ → ℕ → ℕ → Fields
card kind state topography containment cas pounds area wall heat number =
    record {
      kind = kind;
      state = state;
      topography = topography;
      containment = containment;
      cas = cas;
      pounds = pounds;
      area = area;
      wall = wall;
      heat = heat;
      number = number;
    }

-- some bytes, and what they come to
pub record Example (A : Type 0) : Type 0 where
  pub bytes : List ℕ
  pub is : A

abbrev reads : String → Fields → Example (Option Fields)
reads text f = record { bytes = ascii text; is = Some f }

abbrev malformed : String → Example (Option Fields)
malformed text = record { bytes = ascii text; is = None }

abbrev writes : String → Fields → Example Fields
writes text f = record { bytes = ascii text; is = f }

-- ---- lines

chlorine : Fields
chlorine = card 1 2 2 0 7_782_505 2_500 0 0 0 11

pub lines : List (Example (Option Fields))
lines =
    -- as the writer writes it
    reads "1,2,2,0,7782-50-5,2500,0,0,0,11," chlorine
    -- "allows spaces around a field and leading zeros", "and a remark that is dropped"; also a CR before the line feed
    ∷ reads "  01, 2 ,002,0 , 007782-50-5,0002500 ,0,00,  0 ,00000000000011, north shed  " chlorine
    ∷ reads "1,2,2,0,7782-50-5,2500,0,0,0,11,\r" chlorine
    -- spaces around a field only
    ∷ malformed "1,2,2,0,7782-50-5,2 500,0,0,0,11,"
    ∷ malformed "1,2,2,0,7782 -50-5,2500,0,0,0,11,"
    -- "eleven fields between commas": twelve, ten, none
    ∷ malformed "1,2,2,0,7782-50-5,2500,0,0,0,11,north,shed"
    ∷ malformed "1,2,2,0,7782-50-5,2500,0,0,0,11"
    ∷ malformed ""
    -- "decimal": nothing, a blank, a tab, a plus, a letter
    ∷ malformed "1,,2,0,7782-50-5,2500,0,0,0,11,"
    ∷ malformed "1, ,2,0,7782-50-5,2500,0,0,0,11,"
    ∷ malformed "1,2,2,0,7782-50-5,\t2500,0,0,0,11,"
    ∷ malformed "1,2,2,0,7782-50-5,+2500,0,0,0,11,"
    ∷ malformed "1,2,2,0,7782-50-5,2500lb,0,0,0,11,"
    -- "A number too wide for its bytes": one byte, two, four
    ∷ reads "255,2,2,0,7782-50-5,4294967295,0,65535,0,11," (card 255 2 2 0 7_782_505 4_294_967_295 0 65_535 0 11)
    ∷ malformed "256,2,2,0,7782-50-5,2500,0,0,0,11,"
    ∷ malformed "1,2,2,0,7782-50-5,2500,0,65536,0,11,"
    ∷ malformed "1,2,2,0,7782-50-5,4294967296,0,0,0,11,"
    -- "CAS number with hyphens (7782-50-5, the last groups two digits and one)"
    ∷ reads "1,2,2,0,4294967-29-5,2500,0,0,0,11," (card 1 2 2 0 4_294_967_295 2_500 0 0 0 11)
    ∷ malformed "1,2,2,0,4294967-29-6,2500,0,0,0,11,"
    ∷ reads "1,2,2,0,0-00-0,2500,0,0,0,11," (card 1 2 2 0 0 2_500 0 0 0 11)
    ∷ malformed "1,2,2,0,7782505,2500,0,0,0,11,"
    ∷ malformed "1,2,2,0,7782-505,2500,0,0,0,11,"
    ∷ malformed "1,2,2,0,7782-5-05,2500,0,0,0,11,"
    ∷ malformed "1,2,2,0,-50-5,2500,0,0,0,11,"
    -- "temperature in tenths": a minus before its digits only; "a minus zero is not well formed"
    ∷ reads "1,4,2,0,7726-95-6,2500,0,0,-005,12," (card 1 4 2 0 7_726_956 2_500 0 0 65_531 12)
    ∷ reads "1,4,2,0,7726-95-6,2500,0,0,-32768,12," (card 1 4 2 0 7_726_956 2_500 0 0 32_768 12)
    ∷ reads "1,4,2,0,7726-95-6,2500,0,0,32767,12," (card 1 4 2 0 7_726_956 2_500 0 0 32_767 12)
    ∷ malformed "1,4,2,0,7726-95-6,2500,0,0,-32769,12,"
    ∷ malformed "1,4,2,0,7726-95-6,2500,0,0,32768,12,"
    ∷ malformed "1,4,2,0,7726-95-6,2500,0,0,-0,12,"
    ∷ malformed "1,4,2,0,7726-95-6,2500,0,0,-00,12,"
    ∷ malformed "1,4,2,0,7726-95-6,2500,0,0,-,12,"
    ∷ malformed "1,4,2,0,7726-95-6,2500,0,0,- 5,12,"
    ∷ malformed "1,4,2,0,7726-95-6,-2500,0,0,0,12,"
    -- "Its concentration, unsigned tenths of a percent by weight, takes the temperature's place (in a comma line too)"
    ∷ reads "1,5,2,0,7647-01-0,15000,0,0,370,13," (card 1 5 2 0 7_647_010 15_000 0 0 370 13)
    ∷ reads "1,005,2,0,7647-01-0,15000,0,0, 0065535 ,13," (card 1 5 2 0 7_647_010 15_000 0 0 65_535 13)
    ∷ malformed "1,5,2,0,7647-01-0,15000,0,0,65536,13,"
    ∷ malformed "1,5,2,0,7647-01-0,15000,0,0,-1,13,"
    ∷ malformed "1,5,2,0,7647-01-0,15000,0,0,-0,13,"
    -- by the number of the state: the same field in state 4, 6 and 5
    ∷ malformed "1,4,2,0,7647-01-0,15000,0,0,40000,13,"
    ∷ malformed "1,6,2,0,7647-01-0,15000,0,0,40000,13,"
    ∷ reads "1,5,2,0,7647-01-0,15000,0,0,40000,13," (card 1 5 2 0 7_647_010 15_000 0 0 40_000 13)
    -- whatever the kind
    ∷ reads "2,5,0,0,74-98-6,10000,0,0,40000,14," (card 2 5 0 0 74_986 10_000 0 0 40_000 14)
    ∷ malformed "2,5,0,0,74-98-6,10000,0,0,-1,14,"
    ∷ []

-- "one strict way of writing lines": cards and their lines; the two bytes of a concentration are written as they are
pub written : List (Example Fields)
written =
    writes "1,4,2,0,7726-95-6,2500,0,0,-1,12," (card 1 4 2 0 7_726_956 2_500 0 0 65_535 12)
    ∷ writes "1,5,2,0,7647-01-0,15000,0,0,65535,13," (card 1 5 2 0 7_647_010 15_000 0 0 65_535 13)
    ∷ writes "1,5,2,0,7647-01-0,15000,0,0,370,13," (card 1 5 2 0 7_647_010 15_000 0 0 370 13)
    ∷ writes "2,5,0,0,74-98-6,10000,0,0,65535,14," (card 2 5 0 0 74_986 10_000 0 0 65_535 14)
    ∷ []

-- "A line is at most 200 bytes": 32 and a remark of 168, and of 169
pub longest : List (Example (Option Fields))
longest =
    record { bytes = ascii "1,2,2,0,7782-50-5,2500,0,0,0,11," ++ replicate 168 45; is = Some chlorine }
    ∷ record { bytes = ascii "1,2,2,0,7782-50-5,2500,0,0,0,11," ++ replicate 169 45; is = None }
    ∷ []

-- ---- texts

flammable : ℕ → Fields
flammable number = card 2 0 0 0 74_986 10_000 0 0 0 number

abbrev comes : String → Cards → Example Cards
comes text c = record { bytes = ascii text; is = c }

pub texts : List (Example Cards)
texts =
    -- no lines
    comes "" (cards [])
    -- "a line feed, optional to the reader after the last"
    ∷ comes "2,0,0,0,74-98-6,10000,0,0,0,1,\n" (cards (flammable 1 ∷ []))
    ∷ comes "2,0,0,0,74-98-6,10000,0,0,0,1," (cards (flammable 1 ∷ []))
    ∷ comes "2,0,0,0,74-98-6,10000,0,0,0,1,\n2,0,0,0,74-98-6,10000,0,0,0,2,\n" (cards (flammable 1 ∷ flammable 2 ∷ []))
    ∷ comes "2,0,0,0,74-98-6,10000,0,0,0,1,\n2,0,0,0,74-98-6,10000,0,0,0,2," (cards (flammable 1 ∷ flammable 2 ∷ []))
    -- an empty line, and a second line feed at the end
    ∷ comes "\n" (bad 1)
    ∷ comes "2,0,0,0,74-98-6,10000,0,0,0,1,\n\n2,0,0,0,74-98-6,10000,0,0,0,2,\n" (bad 2)
    ∷ comes "2,0,0,0,74-98-6,10000,0,0,0,1,\n\n" (bad 2)
    -- "the first such line's number from 1"
    ∷ comes "2,0,0,0,74-98-6,10000,0,0,0,1,\n2,0,0,0,74-98-6,10000,0,0,-0,2,\nno card" (bad 2)
    ∷ []

-- ---- calls: a text and the length of the lent buffer

pub record Call : Type 0 where
  pub text : String
  pub room : ℕ
  pub answer : Result ℕ (SentBack ℕ)

pub calls : List Call
calls =
    -- 7 + 24 bytes
    record { text = "2,0,0,0,74-98-6,10000,0,0,0,1,\n"; room = 31; answer = Ok 31 }
    ∷ record { text = ""; room = 100; answer = Ok 7 }
    -- 13: "the output buffer is too small", "found last"
    ∷ record { text = "2,0,0,0,74-98-6,10000,0,0,0,1,\n"; room = 30; answer = Err (refused_at refusal.Room 0) }
    ∷ record { text = "2,0,0,0,74-98-6,10000,0,0,0,1,\nno card\n"; room = 0; answer = Err (refused_at refusal.Line 2) }
    ∷ []

-- every line, card, text and call of a table comes to what stands beside it
abbrev pub LinesAs : List (Example (Option Fields)) → Type 0
LinesAs table = map (λ (x : Example (Option Fields)). line_of x.bytes) table ≡ map (λ (x : Example (Option Fields)). x.is) table

abbrev pub WrittenAs : List (Example Fields) → Type 0
WrittenAs table = map (λ (x : Example Fields). strict_line x.is) table ≡ map (λ (x : Example Fields). x.bytes) table

abbrev pub TextsAs : List (Example Cards) → Type 0
TextsAs table = map (λ (x : Example Cards). cards_in x.bytes) table ≡ map (λ (x : Example Cards). x.is) table

abbrev pub CallsAs : List Call → Type 0
CallsAs table = map (λ (x : Call). reading_of (ascii x.text) x.room) table ≡ map (λ (x : Call). x.answer) table

pub examples : LinesAs lines × LinesAs longest × WrittenAs written × TextsAs texts × CallsAs calls
unfolding ascii chlorine flammable lines longest written texts calls pieces closed digits padded read_from skip chop bare read_on number_in hyphened unhyphened cas_in heat_in value_in fields_in tenths_form lasts_in amounts_in codes_in line_of lines_of cards_from cards_in bad_room reading_of cas_text heat_text tenths_text field_texts strict_line
examples = (refl, refl, refl, refl, refl)
