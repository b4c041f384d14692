-- Document 02, A10: demand 1 of the two calls. Neither lends an answer buffer, so that 4 never comes.
-- The theorems are `year_exactly` and `day_exactly` of proofs/Exactly.antt.
-- Assumes nothing.
use Rattle.std.specs.Prelude.{ℕ, zero, suc, ◌≡◌, refl, Bool, true, not, eqb, List, [], ◌∷◌, ◌++◌, map, Ok, Err}
use Rattle.search.specs.Rising.{both}
use Rattle.refusals.specs.Numbers.{refused_at}
use Rattle.refusals.specs.declared.Refusal.TheVariants as refusal
use Rattle.seasons.specs.Seasons.{bad_day}
use Rattle.farthest.specs.declared.Leaders.{Leaders}
use Rattle.header.specs.Header.{enough, count_of}
use Rattle.conditions.specs.Conditions.{Condition, condition, any_of, met, only, of_register, of_card, at_last, conditions_at}
use Rattle.conditions.specs.Claim.{ExactlyBy, number_in}
use Rattle.by_day.specs.declared.Year.{Year}
use Rattle.by_day.specs.Day.{day_of}
use Rattle.by_day.specs.Year.{year_of}

-- ---- the year: the register's own conditions

abbrev pub YearExactly : Type 0
YearExactly =
    (bytes : List ℕ)
    → ExactlyBy (conditions_at bytes enough)
    (λ r place. year_of bytes ≡ Err (refused_at r place))
    ((year : Year) × (year_of bytes ≡ Ok year))

-- ---- a day: one line more, behind all of them

-- no condition of a table holds at any of the first so many places
unfoldable pub none_below : (ℕ → List Condition) → ℕ → Bool
none_below table zero = true
none_below table (suc n) = both (not (any_of (map met (table n)))) (none_below table n)

-- "after the register is accepted": none of its own conditions holds, at place 0 or at a card's
abbrev pub is_accepted : List ℕ → Bool
is_accepted bytes = none_below (conditions_at bytes enough) (suc (count_of bytes))

-- 21: "a day outside 1 to 366 .. as named by a reader after the register is accepted"
unfoldable pub of_named : List ℕ → ℕ → List Condition
of_named bytes day = condition refusal.Day (both (is_accepted bytes) (bad_day day)) ∷ []

-- the table at a place: the register's own lines, and at place 0, where no card is meant, the named day's
unfoldable pub day_conditions_at : List ℕ → ℕ → ℕ → List Condition
day_conditions_at bytes day place = conditions_at bytes enough place ++ only (eqb place 0) (of_named bytes day)

abbrev pub DayExactly : Type 0
DayExactly =
    (bytes : List ℕ) (day : ℕ)
    → ExactlyBy (day_conditions_at bytes day)
    (λ r place. day_of bytes day ≡ Err (refused_at r place))
    ((m : Leaders) × (day_of bytes day ≡ Ok m))

-- the numbers of the lines: 21 of a card stands behind its temperature and concentration and before 10, 21 of a named day behind all
pub day_numbered : (bytes : List ℕ) (day place : ℕ)
    → map number_in (day_conditions_at bytes day place)
    ≡ 1 ∷ 2 ∷ 3 ∷ 4 ∷ 5 ∷ 6 ∷ 7 ∷ 8 ∷ 9 ∷ 14 ∷ 15 ∷ 16 ∷ 21 ∷ 10 ∷ 11 ∷ 3 ∷ 21 ∷ []
unfolding day_conditions_at conditions_at only of_register of_card at_last of_named
day_numbered bytes day place = refl
