-- Document 02, A1: the conditions of 12 and 13, over a text or a register and the place, in the request's words, and that of the
-- writer's 2 (A9). "12 a line that isn't eleven well-formed fields or is too long, with the first such line's number from 1; 13 the
-- output buffer is too small or there are over 2,000 lines, found last."
-- Assumes nothing.
use Rattle.std.specs.Prelude.{ℕ, zero, suc, Bool, true, false, not, List, [], ◌∷◌, ◌++◌, ltb, eqb, length, get_or, drop, Option, Some, None, Result, Ok, Err}
use Rattle.farthest.specs.declared.Leaders.{Leaders}
use Rattle.fields.specs.declared.Fields.{Fields}
use Rattle.refusals.specs.declared.SentBack.{SentBack}
use Rattle.search.specs.Rising.{both}
use Rattle.search.specs.Places.{every}
use Rattle.refusals.specs.declared.Refusal.TheVariants as refusal
use Rattle.header.specs.Header.{bad_length, enough}
use Rattle.comma.specs.Line.{line_of}
use Rattle.comma.specs.Text.{lines_of, bad_room}
use Rattle.write_lines.specs.Writing.{strict_text, other_version, writable}
use Rattle.conditions.specs.Conditions.{Condition, condition, only, conditions_at}

-- "a line that isn't eleven well-formed fields or is too long"
abbrev pub malformed : Option Fields → Bool
malformed (Some fields) = false
malformed None = true

-- 12: the line of this number, "from 1", is there and is malformed
unfoldable pub bad_line : List (List ℕ) → ℕ → Bool
bad_line lines zero = false
bad_line lines (suc i) = both (ltb i (length lines)) (malformed (line_of (get_or lines i [])))

-- no line is malformed
unfoldable pub all_formed : List (List ℕ) → Bool
all_formed lines = every (λ text. not (malformed (line_of text))) lines

-- the reader's 13: "the output buffer is too small or there are over 2,000 lines, found last", so only where 12 is not
unfoldable pub no_room_to_read : List (List ℕ) → ℕ → Bool
no_room_to_read lines room = both (all_formed lines) (bad_room (length lines) room)

-- the writer takes the register
abbrev pub is_accepted : Result Leaders (SentBack ℕ) → Bool
is_accepted (Ok leaders) = true
is_accepted (Err sent) = false

-- the writer's 13: "the output buffer is too small .., found last", so only where the writer takes the register
unfoldable pub no_room_to_write : Result Leaders (SentBack ℕ) → List ℕ → ℕ → Bool
no_room_to_write o text room = both (is_accepted o) (ltb room (length text))

-- 13 means no line and no card: it stands at place 0 alone
unfoldable pub room_at : Bool → ℕ → List Condition
room_at full place = only (eqb place 0) (condition refusal.Room full ∷ [])

-- The reader's table at a place, which is a line's number or 0.
unfoldable pub lines_at : List ℕ → ℕ → ℕ → List Condition
lines_at text room place =
    condition refusal.Line (bad_line (lines_of text) place) ∷ room_at (no_room_to_read (lines_of text) room) place

-- the writer's 1 and 2, of the whole register. Document 02: "version 2, which the comma writer refuses with 2" (A9), right after 1,
-- "The comma writer refuses version 3 with 2" (A10), and so every version but 1
unfoldable pub of_writer : List ℕ → List Condition
of_writer register =
    condition refusal.Length (bad_length register)
    ∷ condition refusal.Version (other_version register)
    ∷ []

-- these two in place of the register's, and below them the register's others: "The writer takes accepted registers and passes on their
-- refusals", and has no answer buffer
unfoldable pub taken_at : List ℕ → ℕ → List Condition
taken_at register place = only (eqb place 0) (of_writer register) ++ drop 2 (conditions_at register enough place)

-- The writer's table at a place.
unfoldable pub writing_at : List ℕ → ℕ → ℕ → List Condition
writing_at register room place =
    taken_at register place
    ++ room_at (no_room_to_write (writable register) (strict_text register) room) place
