-- Days and years by examples: registers of version 3 of document 01's cards, computed on the definitions. The general statements are in
-- `Claim.antt` and `Conditions.antt`.
-- Assumes nothing.
use Rattle.std.specs.Prelude.{ℕ, ◌≡◌, refl, List, [], ◌∷◌, map, Option, Result, Ok, Err}
use Rattle.refusals.specs.declared.SentBack.{SentBack}
use Rattle.refusals.specs.declared.Refusal.TheVariants as refusal
use Rattle.refusals.specs.Numbers.{refused_at}
use Rattle.seasons.specs.Seasons.{in_force}
use Rattle.farthest.specs.declared.Leader.{Leader}
use Rattle.farthest.specs.declared.Leaders.{Leaders}
use Rattle.farthest.specs.Farthest.{farthest_from, farthest_of}
use Rattle.by_day.specs.declared.Year.{Year}
use Rattle.by_day.specs.Day.{in_force_on, leaders_on, day_of}
use Rattle.by_day.specs.Year.{earliest_from, year_from, year_of}
use Rattle.promises.specs.Starred.{register_of, storing_register, in_season, seasonal_register, chlorine, ammonia, propane, rural, in_open, at, none, computed}

-- all that a day and a year compute with, beside what a register does
unfoldable pub reckoned : Unit {0}
unfolding computed in_force in_force_on leaders_on day_of farthest_from farthest_of earliest_from year_from year_of
reckoned = tt

-- ---- a depot that is full in spring

-- chlorine all year, 3.40 miles; ammonia from the first of March, day 61, to the end of May, day 152, 13.00 miles; propane in winter,
-- from the first of November, day 306, to the end of February, day 60, 0.22 miles
abbrev pub depot : List ℕ
depot =
    seasonal_register 1_300 22 (
    in_season 1 366 (chlorine rural in_open 0 2_250 1)
    ∷ in_season 61 152 (ammonia 7_500_000 2)
    ∷ in_season 306 60 (propane 20_000 3)
    ∷ []
    )

-- a day, and what is told of it
pub record Told : Type 0 where
  pub day : ℕ
  pub outcome : Result Leaders (SentBack ℕ)

abbrev pub told : ℕ → Option Leader → Option Leader → Told
told day t f = record { day = day; outcome = Ok (record { toxic = t; flammable = f }) }

abbrev pub refused_day : ℕ → Told
refused_day day = record { day = day; outcome = Err (refused_at refusal.Day 0) }

unfoldable pub days : List Told
days =
    -- the middle of March, and of August
    told 75 (at 2 1_300) none
    ∷ told 228 (at 1 340) none
    -- "both included": the last day of winter, the first and the last of spring, and the day behind it
    ∷ told 60 (at 1 340) (at 3 22)
    ∷ told 61 (at 2 1_300) none
    ∷ told 152 (at 2 1_300) none
    ∷ told 153 (at 1 340) none
    -- "across New Year"
    ∷ told 305 (at 1 340) none
    ∷ told 306 (at 1 340) (at 3 22)
    ∷ told 366 (at 1 340) (at 3 22)
    ∷ told 1 (at 1 340) (at 3 22)
    -- "21 a day outside 1 to 366"
    ∷ refused_day 0
    ∷ refused_day 367
    ∷ []

pub depot_days : map (λ r. day_of depot r.day) days ≡ map (λ r. r.outcome) days
unfolding days reckoned
depot_days = refl

-- the year's farthest, with the earliest day of each: a winter's card is first in force on the first of January
abbrev pub year : Option Leader → ℕ → Option Leader → ℕ → Result Year (SentBack ℕ)
year t toxic_day f flammable_day =
    Ok (record { leaders = record { toxic = t; flammable = f }; toxic_day = toxic_day; flammable_day = flammable_day })

pub depot_year : year_of depot ≡ year (at 2 1_300) 61 (at 3 22) 1
unfolding reckoned
depot_year = refl

-- ---- whole years

-- a register and its year
pub record Row : Type 0 where
  pub register : List ℕ
  pub outcome : Result Year (SentBack ℕ)

abbrev pub row : List ℕ → Result Year (SentBack ℕ) → Row
row register outcome = record { register = register; outcome = outcome }

-- 3.40 miles
abbrev pub tank : ℕ → List ℕ
tank number = chlorine rural in_open 0 2_250 number

unfoldable pub years : List Row
years =
    -- "day 0 for a class without cards"
    row (seasonal_register 0 0 []) (year none 0 none 0)
    ∷ row (seasonal_register 0 22 (in_season 200 210 (propane 20_000 1) ∷ [])) (year none 0 (at 1 22) 200)
    -- from 366 to 1 it is in force on two days, the earlier of which is the first of January; from 366 to 366 on one
    ∷ row (seasonal_register 340 0 (in_season 366 1 (tank 1) ∷ [])) (year (at 1 340) 1 none 0)
    ∷ row (seasonal_register 340 0 (in_season 366 366 (tank 1) ∷ [])) (year (at 1 340) 366 none 0)
    -- on a tie the earlier card leads the year, and the day is the earliest on which some card is as far
    ∷ row (seasonal_register 340 0 (in_season 200 210 (tank 1) ∷ in_season 100 110 (tank 2) ∷ [])) (year (at 1 340) 100 none 0)
    -- "Older cards are in force from 1 to 366"
    ∷ row (register_of (tank 1 ∷ propane 20_000 2 ∷ [])) (year (at 1 340) 1 (at 2 22) 1)
    ∷ row (storing_register 340 22 (tank 1 ∷ propane 20_000 2 ∷ [])) (year (at 1 340) 1 (at 2 22) 1)
    -- "21 a day outside 1 to 366", with the card's place; and a wrong stored distance
    ∷ row (seasonal_register 340 0 (in_season 1 366 (tank 1) ∷ in_season 0 366 (tank 2) ∷ [])) (Err (refused_at refusal.Day 1))
    ∷ row (seasonal_register 339 0 (in_season 1 366 (tank 1) ∷ [])) (Err (refused_at refusal.Count 0))
    ∷ []

pub years_told : map (λ r. year_of r.register) years ≡ map (λ r. r.outcome) years
unfolding years reckoned
years_told = refl

-- ---- "after the register is accepted"

-- a named day 0 is looked at behind every card and behind the stored distances
pub later_card : day_of (seasonal_register 340 0 (in_season 1 366 (tank 1) ∷ in_season 1 367 (tank 2) ∷ [])) 0 ≡ Err (refused_at refusal.Day 1)
unfolding reckoned
later_card = refl

pub stored_first : day_of (seasonal_register 339 0 (in_season 1 366 (tank 1) ∷ [])) 0 ≡ Err (refused_at refusal.Count 0)
unfolding reckoned
stored_first = refl

pub then_the_day : day_of (seasonal_register 340 0 (in_season 1 366 (tank 1) ∷ [])) 0 ≡ Err (refused_at refusal.Day 0)
unfolding reckoned
then_the_day = refl
