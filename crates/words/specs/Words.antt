-- The words of the C interface: what a call returns, and what it leaves in the words beside its result.
-- Assumes nothing.
use Rattle.std.specs.Prelude.{ℕ, ◌+◌, ◌*◌, Bool, true, false, Option, Some, None, Result, Ok, Err}
use Rattle.farthest.specs.declared.Leader.{Leader}
use Rattle.refusals.specs.declared.SentBack.{SentBack}
use Rattle.refusals.specs.declared.Refusal.{Refusal}
use Rattle.refusals.specs.Numbers.{number_of}
use Rattle.card.specs.declared.Class.{Class}
use Rattle.card.specs.declared.Class.TheVariants as class
use Rattle.farthest.specs.declared.Leaders.{Leaders}
use Rattle.by_day.specs.declared.Year.{Year}
use Rattle.by_day.specs.Year.{day_told}

-- "each none or a card number and a distance": 0 for none, which no card has, since its number is not zero
unfoldable pub word_of : Option Leader → ℕ
word_of None = 0
word_of (Some lead) = lead.number * 65_536 + lead.distance.0

-- "A refusal carries its number and the card's place": never 0, since a refusal's number is not zero
abbrev pub refusal_code : Refusal → ℕ → ℕ
refusal_code r place = number_of r * 4_294_967_296 + place

-- what the call returns
unfoldable pub code_of : Result Leaders (SentBack ℕ) → ℕ
code_of (Ok leaders) = 0
code_of (Err sent) = refusal_code sent.refusal sent.place

-- the farthest card of a class
abbrev pub leader_of : Class → Leaders → Option Leader
leader_of class.Toxic leaders = leaders.toxic
leader_of class.Flammable leaders = leaders.flammable

-- what the call leaves in the word of a class that held this before; a refusal "changes no byte of any lent buffer"
unfoldable pub word_after : Class → Result Leaders (SentBack ℕ) → ℕ → ℕ
word_after c (Ok leaders) before = word_of (leader_of c leaders)
word_after c (Err sent) before = before

-- ---- the year, document 02, A10

-- what the call leaves in the word of a class's day, "day 0 for a class without cards"; its farthest cards are told as any call's are
unfoldable pub day_after : Class → Result Year (SentBack ℕ) → ℕ → ℕ
day_after c (Ok year) before = day_told c year
day_after c (Err sent) before = before

-- ---- conversions and edits

-- What a call between a text and a register, or an edit, returns: 0, or the number of its refusal. The place stands in a word of its
-- own, since a line's number need not fit thirty-two bits.
unfoldable pub conversion_code : Result ℕ (SentBack ℕ) → ℕ
conversion_code (Ok n) = 0
conversion_code (Err sent) = number_of sent.refusal

-- that word, which is a part of the result and set in every case: how many bytes were written or how long the register now is, or the
-- place of the refusal
unfoldable pub conversion_at : Result ℕ (SentBack ℕ) → ℕ
conversion_at (Ok n) = n
conversion_at (Err sent) = sent.place

-- what a call that tells whether something is so returns
abbrev pub flag_of : Bool → ℕ
flag_of false = 0
flag_of true = 1
