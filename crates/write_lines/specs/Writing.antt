-- The writer: the strict text of a register, what the call answers, and what it leaves in the lent buffer.
-- Assumes nothing.
use Rattle.std.specs.Prelude.{ℕ, List, ◌++◌, map, Bool, true, false, not, ltb, eqb, length, drop, Result, Ok, Err}
use Rattle.farthest.specs.declared.Leaders.{Leaders}
use Rattle.refusals.specs.declared.SentBack.{SentBack}
use Rattle.refusals.specs.Numbers.{refused_at}
use Rattle.fields.specs.declared.Fields.{Fields}
use Rattle.fields.specs.Layout.{fields_of}
use Rattle.refusals.specs.declared.Refusal.{Refusal}
use Rattle.refusals.specs.declared.Refusal.TheVariants as refusal
use Rattle.header.specs.Header.{version_of, cards_in, bad_length, enough}
use Rattle.cards.specs.Register.{outcome_of}
use Rattle.comma.specs.Strict.{strict_lines}

-- the cards of a register, as fields
unfoldable pub fields_of_register : List ℕ → List Fields
fields_of_register bytes = map fields_of (cards_in bytes)

-- "one strict way of writing lines"
unfoldable pub strict_text : List ℕ → List ℕ
strict_text bytes = strict_lines (fields_of_register bytes)

-- document 02: "version 2, which the comma writer refuses with 2" (A9), "The comma writer refuses version 3 with 2" (A10), and so every
-- version but 1, which is what lines are read into
unfoldable pub other_version : List ℕ → Bool
other_version bytes = not (eqb (version_of bytes) 1)

-- a check of the writer's own, at place 0
abbrev pub refused_if : Bool → Refusal → Result Leaders (SentBack ℕ) → Result Leaders (SentBack ℕ)
refused_if true r further = Err (refused_at r 0)
refused_if false r further = further

-- What the writer makes of a register before it writes: 1 as ever, that 2 right behind it, and then what the register call answers.
unfoldable pub writable : List ℕ → Result Leaders (SentBack ℕ)
writable bytes =
    refused_if (bad_length bytes) refusal.Length
    (refused_if (other_version bytes) refusal.Version (outcome_of bytes enough))

-- 13: "the output buffer is too small", after every refusal of the register itself: "The writer takes accepted registers and
-- passes on their refusals."
abbrev pub answer_as : Result Leaders (SentBack ℕ) → List ℕ → ℕ → Result ℕ (SentBack ℕ)
answer_as (Ok leaders) text room = elim (ltb room (length text)) [ true ↦ Err (refused_at refusal.Room 0) | false ↦ Ok (length text) ]
answer_as (Err sent) text room = Err sent

-- what the writer answers for a register and a lent buffer of this length
unfoldable pub writing_of : List ℕ → ℕ → Result ℕ (SentBack ℕ)
writing_of bytes room = answer_as (writable bytes) (strict_text bytes) room

-- "bytes of a lent buffer behind what is written stay"; a refusal changes none
abbrev pub written_as : Result Leaders (SentBack ℕ) → List ℕ → List ℕ → List ℕ
written_as (Ok leaders) text out = elim (ltb (length out) (length text)) [ true ↦ out | false ↦ text ++ drop (length text) out ]
written_as (Err sent) text out = out

-- what the writer leaves in the lent buffer
unfoldable pub write_into : List ℕ → List ℕ → List ℕ
write_into bytes out = written_as (writable bytes) (strict_text bytes) out
