-- What the code keeps as it walks over the cards: the farthest of a day so far, and of the year with their days. It serves the proofs.
-- Assumes nothing.
use Rattle.std.specs.Prelude.{ℕ, Bool, true, false, ltb, eqb, min, List, Option, Some, None, Result, Ok, Err}
use Rattle.refusals.specs.declared.Refusal.{Refusal}
use Rattle.refusals.specs.declared.SentBack.{SentBack}
use Rattle.refusals.specs.Numbers.{refused_at}
use Rattle.seasons.specs.Seasons.{in_force, first_day}
use Rattle.card.specs.declared.Class.{Class}
use Rattle.card.specs.declared.Class.TheVariants as class
use Rattle.card.specs.declared.Answer.{Answer}
use Rattle.farthest.specs.declared.Leader.{Leader}
use Rattle.farthest.specs.Farthest.{no_leaders, leaders_after}
use Rattle.header.specs.Header.{enough, header_of}
use Rattle.cards.specs.Register.{Cards, answers, sent_back, cards_of}
use Rattle.tally.specs.Tally.{kept_after}
use Rattle.by_day.specs.declared.Today.{Today}
use Rattle.by_day.specs.declared.Year.{Year}

abbrev pub today_before : ℕ → Today
today_before day = record { day = day; leaders = no_leaders }

-- a card that is not in force changes nothing
abbrev pub today_if : Bool → Today → Answer → Today
today_if true t a = record { day = t.day; leaders = leaders_after t.leaders a }
today_if false t a = t

unfoldable pub today_after : Today → Answer → Today
today_after t a = today_if (in_force a.season t.day) t a

-- the earliest day of a class after one more card of it
unfoldable pub day_after : Option Leader → ℕ → Answer → ℕ
day_after None day a = first_day a.season
day_after (Some best) day a =
    elim (ltb a.distance.0 best.distance.0) [
      | true ↦ day
      | false ↦ elim (eqb a.distance.0 best.distance.0) [ true ↦ min day (first_day a.season) | false ↦ first_day a.season ]
    ]

-- the day of a class after one more card, which counts only in its own
abbrev pub day_in : Class → Class → Option Leader → ℕ → Answer → ℕ
day_in class.Toxic class.Toxic lead day a = day_after lead day a
day_in class.Flammable class.Flammable lead day a = day_after lead day a
day_in class.Toxic class.Flammable lead day a = day
day_in class.Flammable class.Toxic lead day a = day

abbrev pub before_year : Year
before_year = record { leaders = no_leaders; toxic_day = 0; flammable_day = 0 }

unfoldable pub year_after : Year → Answer → Year
year_after y a =
    record {
      leaders = leaders_after y.leaders a;
      toxic_day = day_in class.Toxic a.class y.leaders.toxic y.toxic_day a;
      flammable_day = day_in class.Flammable a.class y.leaders.flammable y.flammable_day a;
    }

-- ---- what a walk keeps of a register, whatever it keeps

module _ {K : Type 0} (after : K → Answer → K) (from : K) where
  abbrev pub kept_result : Cards → Result K (SentBack ℕ)
  kept_result (answers xs) = Ok (kept_after after from xs)
  kept_result (sent_back r place) = Err (refused_at r place)

  abbrev pub kept_behind : Result ℕ Refusal → List ℕ → Result K (SentBack ℕ)
  kept_behind (Ok count) bytes = kept_result (cards_of bytes)
  kept_behind (Err r) bytes = Err (refused_at r 0)

  unfoldable pub kept_of : List ℕ → Result K (SentBack ℕ)
  kept_of bytes = kept_behind (header_of bytes enough) bytes
