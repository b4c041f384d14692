-- Document 02, A10: "A reader names a day and gets each class's farthest among the cards in force".
-- Assumes nothing.
use Rattle.std.specs.Prelude.{ℕ, Bool, true, false, List, [], ◌∷◌, Result, Ok, Err}
use Rattle.refusals.specs.declared.Refusal.{Refusal}
use Rattle.refusals.specs.declared.Refusal.TheVariants as refusal
use Rattle.refusals.specs.declared.SentBack.{SentBack}
use Rattle.refusals.specs.Numbers.{refused_at}
use Rattle.seasons.specs.Seasons.{bad_day, in_force}
use Rattle.card.specs.declared.Answer.{Answer}
use Rattle.farthest.specs.declared.Leaders.{Leaders}
use Rattle.farthest.specs.Farthest.{leaders_of}
use Rattle.header.specs.Header.{enough, header_of}
use Rattle.cards.specs.Register.{Cards, answers, sent_back, cards_of}

abbrev pub keep_if : Bool → Answer → List Answer → List Answer
keep_if true a rest = a ∷ rest
keep_if false a rest = rest

-- "the cards in force" on a day, in their order
unfoldable pub in_force_on : ℕ → List Answer → List Answer
in_force_on day [] = []
in_force_on day (a ∷ rest) = keep_if (in_force a.season day) a (in_force_on day rest)

-- "each class's farthest among" them
unfoldable pub leaders_on : ℕ → List Answer → Leaders
leaders_on day xs = leaders_of (in_force_on day xs)

-- 21: a day outside 1 to 366, "as named by a reader after the register is accepted"
abbrev pub unless_bad : Bool → Leaders → Result Leaders (SentBack ℕ)
unless_bad true l = Err (refused_at refusal.Day 0)
unless_bad false l = Ok l

abbrev pub result_on : ℕ → Cards → Result Leaders (SentBack ℕ)
result_on day (answers xs) = unless_bad (bad_day day) (leaders_on day xs)
result_on day (sent_back r place) = Err (refused_at r place)

abbrev pub day_behind : ℕ → Result ℕ Refusal → List ℕ → Result Leaders (SentBack ℕ)
day_behind day (Ok count) bytes = result_on day (cards_of bytes)
day_behind day (Err r) bytes = Err (refused_at r 0)

-- what the call answers for these bytes and this day; no answer buffer is lent, so that number 4 never comes
unfoldable pub day_of : List ℕ → ℕ → Result Leaders (SentBack ℕ)
day_of bytes day = day_behind day (header_of bytes enough) bytes
