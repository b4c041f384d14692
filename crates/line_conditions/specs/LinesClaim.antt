-- Document 02, A1: the reader and the writer of comma lines go exactly by their tables, for any text or register and any output
-- buffer; and what that says in plain words. The theorems are `read_exactly` and `written_exactly` of `LinesExactly`, and
-- `names_first`, `comes_when_bad`, `found_last`, `other_versions` and `never_four` of `LinesPlain`.
-- Assumes nothing.
use Rattle.std.specs.Prelude.{ℕ, zero, suc, ◌+◌, ◌*◌, ◌<◌, ◌≡◌, refl, false, List, [], ◌∷◌, map, ◌↔◌, ◌⊎◌, length, get_or, None, Ok, Err}
use Rattle.refusals.specs.Numbers.{refused_at}
use Rattle.refusals.specs.declared.Refusal.TheVariants as refusal
use Rattle.header.specs.Header.{version_of, bad_length}
use Rattle.comma.specs.Line.{line_of}
use Rattle.comma.specs.Text.{lines_of, reading_of}
use Rattle.write_lines.specs.Writing.{writing_of}
use Rattle.conditions.specs.Conditions.{only, of_register, of_card, at_last, conditions_at}
use Rattle.line_conditions.specs.Lines.{room_at, lines_at, of_writer, taken_at, writing_at}
use Rattle.conditions.specs.Claim.{ExactlyBy, number_in}

-- The reader gives 12 or 13 exactly when its condition is the first that holds, and else tells how many bytes it wrote.
abbrev pub ReadExactly : Type 0
ReadExactly =
    (text : List ℕ) (room : ℕ)
    → ExactlyBy (lines_at text room)
    (λ r place. reading_of text room ≡ Err (refused_at r place))
    ((n : ℕ) × (reading_of text room ≡ Ok n))

-- The writer gives its own 2, the register's refusal or 13 exactly when its condition is the first that holds, and else tells how many
-- bytes it wrote.
abbrev pub WrittenExactly : Type 0
WrittenExactly =
    (register : List ℕ) (room : ℕ)
    → ExactlyBy (writing_at register room)
    (λ r place. writing_of register room ≡ Err (refused_at r place))
    ((n : ℕ) × (writing_of register room ≡ Ok n))

-- the lines of both tables stand in this order
pub lines_numbered : (text : List ℕ) (room place : ℕ) → map number_in (lines_at text room place) ≡ 12 ∷ 13 ∷ []
unfolding lines_at room_at only
lines_numbered text room place = refl

pub writing_numbered : (register : List ℕ) (room place : ℕ) → map number_in (writing_at register room place) ≡ 1 ∷ 2 ∷ 3 ∷ 4 ∷ 5 ∷ 6 ∷ 7 ∷ 8 ∷ 9 ∷ 14 ∷ 15 ∷ 16 ∷ 21 ∷ 10 ∷ 11 ∷ 3 ∷ 13 ∷ []
unfolding writing_at taken_at of_writer room_at conditions_at only of_register of_card at_last
writing_numbered register room place = refl

-- ---- in plain words

-- the line of this number, from 1, is there and is not well formed
abbrev pub BadLine : List ℕ → ℕ → Type 0
BadLine text zero = ⊥
BadLine text (suc i) = (i < length (lines_of text)) × (line_of (get_or (lines_of text) i []) ≡ None)

-- The reader's 12 names the first line that is not well formed,
abbrev pub NamesFirst : Type 0
NamesFirst =
    (text : List ℕ) (room number : ℕ)
    → (reading_of text room ≡ Err (refused_at refusal.Line number))
    ↔ (BadLine text number × ((k : ℕ) → k < number → BadLine text k → ⊥))

-- and comes exactly when there is one.
abbrev pub ComesWhenBad : Type 0
ComesWhenBad =
    (text : List ℕ) (room : ℕ)
    → ((number : ℕ) × (reading_of text room ≡ Err (refused_at refusal.Line number))) ↔ ((number : ℕ) × BadLine text number)

-- The reader's 13 comes, at place 0, exactly when no line is bad and there are over 2,000 lines or too little room for a register
-- of so many cards.
abbrev pub FoundLast : Type 0
FoundLast =
    (text : List ℕ) (room place : ℕ)
    → (reading_of text room ≡ Err (refused_at refusal.Room place))
    ↔ ((place ≡ 0) × ((number : ℕ) → BadLine text number → ⊥) × ((2_000 < length (lines_of text)) ⊎ (room < 7 + 24 * length (lines_of text))))

-- The writer's 2 comes, at place 0, exactly when the register has the length that it says and is of another version than 1.
abbrev pub OtherVersions : Type 0
OtherVersions =
    (register : List ℕ) (room place : ℕ)
    → (writing_of register room ≡ Err (refused_at refusal.Version place))
    ↔ ((place ≡ 0) × (bad_length register ≡ false) × (version_of register ≡ 1 → ⊥))

-- The writer never gives 4.
abbrev pub NeverFour : Type 0
NeverFour = (register : List ℕ) (room place : ℕ) → writing_of register room ≡ Err (refused_at refusal.Buffer place) → ⊥
