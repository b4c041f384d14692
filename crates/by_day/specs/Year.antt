-- Document 02, A10: ".. or the whole year's farthest and the earliest day whose farthest has its distance, day 0 for a class without cards."
-- Assumes nothing.
use Rattle.std.specs.Prelude.{ℕ, zero, suc, Bool, true, false, eqb, List, Option, Some, None, Result, Ok, Err}
use Rattle.refusals.specs.declared.Refusal.{Refusal}
use Rattle.refusals.specs.declared.SentBack.{SentBack}
use Rattle.refusals.specs.Numbers.{refused_at}
use Rattle.card.specs.declared.Class.{Class}
use Rattle.card.specs.declared.Class.TheVariants as class
use Rattle.card.specs.declared.Answer.{Answer}
use Rattle.farthest.specs.declared.Leader.{Leader}
use Rattle.farthest.specs.declared.Leaders.{Leaders}
use Rattle.farthest.specs.Farthest.{farthest_of, leaders_of}
use Rattle.header.specs.Header.{enough, header_of}
use Rattle.cards.specs.Register.{Cards, answers, sent_back, cards_of}
use Rattle.by_day.specs.declared.Year.{Year}
use Rattle.by_day.specs.Day.{in_force_on}

-- "whose farthest has its distance": a day without a farthest card has none
abbrev pub has_distance : Option Leader → ℕ → Bool
has_distance None d = false
has_distance (Some lead) d = eqb lead.distance.0 d

-- the farthest card of a class on a day
abbrev pub farthest_on : Class → ℕ → List Answer → Option Leader
farthest_on c day xs = farthest_of c (in_force_on day xs)

-- the earliest of so many days, from a day on, whose farthest has a distance; 0 where none has it
unfoldable pub earliest_from : Class → List Answer → ℕ → ℕ → ℕ → ℕ
earliest_from c xs d zero day = 0
earliest_from c xs d (suc n) day =
    elim (has_distance (farthest_on c day xs) d) [ true ↦ day | false ↦ earliest_from c xs d n (suc day) ]

-- "the earliest day", of "the year, 1 to 366", "day 0 for a class without cards"
abbrev pub earliest_day : Class → List Answer → Option Leader → ℕ
earliest_day c xs None = 0
earliest_day c xs (Some lead) = earliest_from c xs lead.distance.0 366 1

-- "the whole year's farthest", which is that of all cards, "and the earliest day", of each class
unfoldable pub year_from : List Answer → Year
year_from xs =
    record {
      leaders = leaders_of xs;
      toxic_day = earliest_day class.Toxic xs (farthest_of class.Toxic xs);
      flammable_day = earliest_day class.Flammable xs (farthest_of class.Flammable xs);
    }

abbrev pub result_year : Cards → Result Year (SentBack ℕ)
result_year (answers xs) = Ok (year_from xs)
result_year (sent_back r place) = Err (refused_at r place)

abbrev pub year_behind : Result ℕ Refusal → List ℕ → Result Year (SentBack ℕ)
year_behind (Ok count) bytes = result_year (cards_of bytes)
year_behind (Err r) bytes = Err (refused_at r 0)

-- what the call answers for these bytes; no answer buffer is lent, so that number 4 never comes
unfoldable pub year_of : List ℕ → Result Year (SentBack ℕ)
year_of bytes = year_behind (header_of bytes enough) bytes

-- ---- what is told of a year

-- the day that a year tells of a class
abbrev pub day_told : Class → Year → ℕ
day_told class.Toxic year = year.toxic_day
day_told class.Flammable year = year.flammable_day

-- and the farthest cards in its result
abbrev pub leaders_told : Result Year (SentBack ℕ) → Result Leaders (SentBack ℕ)
leaders_told (Ok year) = Ok year.leaders
leaders_told (Err sent) = Err sent
