-- Request A1, in its words: what reading and writing comma lines makes of texts and registers, over the two calls. The theorems
-- are `read_alike`, `round_trip`, `same_forms`, `same_bytes` and `strict_again` of `Texts`, and `longest` and `reached` of
-- `Longest`.
-- Assumes nothing.
use Rattle.std.specs.Prelude.{ℕ, ◌*◌, ◌≤◌, ◌≡◌, List, [], ◌∷◌, ◌++◌, ◌↔◌, length, take, drop, Result, Ok}
use Rattle.refusals.specs.declared.Refusal.{Refusal}
use Rattle.fields.specs.declared.Fields.{Fields}
use Rattle.meaning.specs.declared.Meaning.{Meaning}
use Rattle.meaning.specs.Reading.{meaning_of}
use Rattle.farthest.specs.declared.Leaders.{Leaders}
use Rattle.header.specs.Header.{version_of, count_of}
use Rattle.ordering.specs.Claim.{Accepts}
use Rattle.comma.specs.Text.{reading_of, read_into}
use Rattle.comma.specs.CardLaws.{AllBytes}
use Rattle.write_lines.specs.Writing.{fields_of_register, strict_text, writing_of, write_into}

-- Document 01: "A register is accepted if the call that fills the answer buffer gives no refusal for it with some answer buffer"
abbrev pub Accepted : List ℕ → Type 0
Accepted register = (buffer : List ℕ) × (leaders : Leaders) × Accepts register buffer leaders

-- The registers that lines are written of: accepted ones of version 1. Document 02: "version 2, which the comma writer
-- refuses with 2" (A9), "The comma writer refuses version 3 with 2" (A10).
abbrev pub Writable : List ℕ → Type 0
Writable register = Accepted register × (version_of register ≡ 1)

-- "a reader into a lent version 1 register": with some lent buffer the reader says how many bytes it wrote, and they are this
-- register's
pub record Reads (text register : List ℕ) : Type 0 where
  pub out : List ℕ
  pub size : ℕ
  pub told : reading_of text (length out) ≡ Ok size
  pub bytes : take size (read_into text out) ≡ register

-- With every lent buffer that is long enough the reader writes this register's bytes and says how many they are; "bytes of a
-- lent buffer behind what is written stay".
abbrev pub ReadsInto : List ℕ → List ℕ → Type 0
ReadsInto text register =
    (out : List ℕ) → length register ≤ length out
    → (reading_of text (length out) ≡ Ok (length register))
    × (read_into text out ≡ register ++ drop (length register) out)

-- What one buffer shows holds with every buffer that is long enough.
abbrev pub ReadAlike : Type 0
ReadAlike = (text register : List ℕ) → Reads text register → ReadsInto text register

-- "Reading what was written gives the same register": whatever number of bytes the writer says that it wrote into a lent buffer,
-- those bytes read into the register; and it does write where the strict text has room.
pub record ReadAgain (register : List ℕ) : Type 0 where
  pub same : (out : List ℕ) (n : ℕ) → writing_of register (length out) ≡ Ok n
      → ReadsInto (take n (write_into register out)) register
  pub written : (out : List ℕ) → length (strict_text register) ≤ length out
      → writing_of register (length out) ≡ Ok (length (strict_text register))

-- so for every register that lines are written of; its bytes are bytes, each below 256
abbrev pub RoundTrip : Type 0
RoundTrip = (register : List ℕ) → AllBytes register → Writable register → ReadAgain register

-- what a card says: its meaning by document 01, and its number
pub record Meant : Type 0 where
  pub meaning : Result Meaning Refusal
  pub number : ℕ

-- cards in turn, each after the last one's number
unfoldable pub meanings_from : ℕ → List Fields → List Meant
meanings_from last [] = []
meanings_from last (f ∷ rest) = record { meaning = meaning_of f last; number = f.number } ∷ meanings_from f.number rest

-- "mean the same cards": equal meanings in the same order, numbers included, remarks not, that is, equal lists of these
unfoldable pub meanings_of : List ℕ → List Meant
meanings_of register = meanings_from 0 (fields_of_register register)

-- "two texts of accepted registers have equal strict forms exactly when they mean the same cards"
abbrev pub SameForms : Type 0
SameForms =
    (s t first second : List ℕ) → Reads s first → Reads t second → Accepted first → Accepted second
    → (strict_text first ≡ strict_text second) ↔ (meanings_of first ≡ meanings_of second)

-- For registers that lines are written of equal meanings are equal bytes.
abbrev pub SameBytes : Type 0
SameBytes =
    (first second : List ℕ) → AllBytes first → AllBytes second → Writable first → Writable second
    → (meanings_of first ≡ meanings_of second) ↔ (first ≡ second)

-- "one strict way of writing lines": the strict text of what a strict text reads into is that text again. (This and the next also hold
-- of a register that stores distances, although the writer refuses it: its cards have a strict text.)
abbrev pub StrictAgain : Type 0
StrictAgain =
    (register again : List ℕ) → AllBytes register → Accepted register → Reads (strict_text register) again
    → strict_text again ≡ strict_text register

-- No strict line of an accepted register is longer than 59 bytes with its line feed. So "the output buffer is too small" never
-- comes with a buffer of 59 bytes a card: 118,000 bytes are enough for any register.
abbrev pub Longest : Type 0
Longest = (register : List ℕ) → AllBytes register → Accepted register → length (strict_text register) ≤ 59 * count_of register

-- 59 is reached: a register of one card that lines are written of has as many.
abbrev pub Reached : Type 0
Reached =
    (register : List ℕ) × AllBytes register × Writable register × (count_of register ≡ 1)
    × (length (strict_text register) ≡ 59)
