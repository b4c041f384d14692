-- Document 02, A10, in the paper's words: what a day's farthest cards and the year's say of the bytes of a register. The theorems are
-- those of proofs/Days.antt, Year.antt and Edited.antt, each under the name of its claim.
-- Assumes nothing.
use Rattle.std.specs.Prelude.{ℕ, ◌≤◌, ◌<◌, ◌≡◌, true, List, [], ◌↔◌, Some, None, Result, Ok, Err}
use Rattle.refusals.specs.declared.SentBack.{SentBack}
use Rattle.buffer.specs.Numbers.{byte_at}
use Rattle.seasons.specs.Seasons.{season_of, in_force}
use Rattle.card.specs.declared.Class.{Class}
use Rattle.card.specs.declared.Class.TheVariants as class
use Rattle.farthest.specs.declared.Leader.{Leader}
use Rattle.farthest.specs.declared.Leaders.{Leaders}
use Rattle.farthest.specs.Farthest.{NoFarther}
use Rattle.header.specs.Header.{count_of, stored_at, layout_in, enough}
use Rattle.cards.specs.Distances.{distances_of}
use Rattle.cards.specs.Register.{outcome_of}
use Rattle.ordering.specs.Order.{kind_of, Counterpart}
use Rattle.ordering.specs.Claim.{card_at, farthest_in}
use Rattle.edits.specs.Edits.{Edit, held}
use Rattle.edit_history.specs.Claim.{WholeCards, after_all, accepted, StartsAccepted}
use Rattle.by_day.specs.declared.Year.{Year}
use Rattle.by_day.specs.Day.{day_of}
use Rattle.by_day.specs.Year.{day_told, leaders_told, year_of}

-- ---- a day

-- "the year, 1 to 366"
abbrev pub DayOfYear : ℕ → Type 0
DayOfYear day = (1 ≤ day) × (day ≤ 366)

-- An accepted register has an answer for every day of the year, and nothing else has one.
abbrev pub OnEveryDay : Type 0
OnEveryDay =
    (register : List ℕ) (day : ℕ)
    → ((m : Leaders) × (day_of register day ≡ Ok m)) ↔ (((l : Leaders) × (outcome_of register enough ≡ Ok l)) × DayOfYear day)

-- the card at a place is of the class: "A class is kind 1 or kind 2."
abbrev pub IsOf : Class → List ℕ → ℕ → Type 0
IsOf c register i = byte_at (card_at register i) 0 ≡ kind_of c

-- and it is in force on a day, by the two days that its bytes name
abbrev pub InForce : ℕ → List ℕ → ℕ → Type 0
InForce day register i = in_force (season_of (card_at register i)) day ≡ true

-- "each card in force on it has a counterpart in force on it", of the cards of a class
abbrev pub CoveredOn : Class → ℕ → List ℕ → List ℕ → Type 0
CoveredOn c day first second =
    (i : ℕ) → i < count_of first → IsOf c first i → InForce day first i
    → (j : ℕ) × (j < count_of second) × InForce day second j × Counterpart (card_at first i) (card_at second j)

-- "A day's rings keep the ordering where each card in force on it has a counterpart in force on it."
abbrev pub DaysOrdered : Type 0
DaysOrdered =
    (c : Class) (day : ℕ) (first second : List ℕ) (l m : Leaders)
    → day_of first day ≡ Ok l → day_of second day ≡ Ok m
    → CoveredOn c day first second
    → NoFarther (farthest_in c l) (farthest_in c m)

-- ---- the year

-- a day's farthest of a class has a distance, in hundredths of a mile
abbrev pub FarOn : Class → List ℕ → ℕ → ℕ → Type 0
FarOn c register day d =
    (m : Leaders) × (lead : Leader) × (day_of register day ≡ Ok m) × (farthest_in c m ≡ Some lead) × (lead.distance.0 ≡ d)

-- "The year's distance of a class with cards is reached on some day": on the day that is told, one of the year
abbrev pub YearReached : Type 0
YearReached =
    (c : Class) (register : List ℕ) (year : Year) (lead : Leader)
    → year_of register ≡ Ok year → farthest_in c year.leaders ≡ Some lead
    → DayOfYear (day_told c year) × FarOn c register (day_told c year) lead.distance.0

-- "and exceeded on none"
abbrev pub YearExceeded : Type 0
YearExceeded =
    (c : Class) (register : List ℕ) (year : Year) (day : ℕ) (m : Leaders)
    → year_of register ≡ Ok year → day_of register day ≡ Ok m
    → NoFarther (farthest_in c m) (farthest_in c year.leaders)

-- "the earliest day whose farthest has its distance": no day before it has
abbrev pub YearEarliest : Type 0
YearEarliest =
    (c : Class) (register : List ℕ) (year : Year) (lead : Leader) (day : ℕ)
    → year_of register ≡ Ok year → farthest_in c year.leaders ≡ Some lead
    → day < day_told c year → FarOn c register day lead.distance.0 → ⊥

-- "a class without cards"
abbrev pub NoCardOf : Class → List ℕ → Type 0
NoCardOf c register = (i : ℕ) → i < count_of register → IsOf c register i → ⊥

-- "day 0 for a class without cards", and for no other; such a class has no farthest card in the year and none on any day
abbrev pub NoDay : Type 0
NoDay =
    (c : Class) (register : List ℕ) (year : Year) → year_of register ≡ Ok year
    → ((day_told c year ≡ 0) ↔ NoCardOf c register)
    × (NoCardOf c register
    → (farthest_in c year.leaders ≡ None) × ((day : ℕ) (m : Leaders) → day_of register day ≡ Ok m → farthest_in c m ≡ None))

-- "the whole year's farthest" are document 01's of all cards; a register that is sent back gives its own refusal
abbrev pub YearWhole : Type 0
YearWhole = (register : List ℕ) → leaders_told (year_of register) ≡ outcome_of register enough

-- "The header keeps the year's values": whatever the version, where it stores distances they are the year's, "zero for none"
abbrev pub HeaderKeepsYear : Type 0
HeaderKeepsYear =
    (register : List ℕ) (year : Year)
    → (layout_in register).stores ≡ true → year_of register ≡ Ok year
    → stored_at register ≡ distances_of year.leaders

-- "The header keeps the year's values", once an edit was accepted: whatever the register was before, for every list of edits, accepted and
-- refused ones mixed
abbrev pub EditsKeepYear : Type 0
EditsKeepYear =
    (first : List ℕ) (edits : List Edit) → StartsAccepted first → WholeCards edits
    → (accepted edits first ≡ [] → ⊥)
    → (year : Year) × (year_of (held (after_all edits first)) ≡ Ok year) × (stored_at (held (after_all edits first)) ≡ distances_of year.leaders)
