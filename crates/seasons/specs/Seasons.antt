-- Document 02, A10: "Version 3 cards are 28 bytes, with a first and a last day of the year, 1 to 366, 2 bytes each, both included; a
-- first after the last runs across New Year." The season of a card, and the days on which it is in force.
-- Assumes nothing.
use Rattle.std.specs.Prelude.{ℕ, Bool, true, false, ◌≡◌, List, [], ◌++◌, ltb, leb, eqb, length, ◌⊎◌}
use Rattle.search.specs.Rising.{both}
use Rattle.search.specs.Places.{either}
use Rattle.buffer.specs.Numbers.{two_at, two_bytes}
use Rattle.seasons.specs.declared.Season.{Season}

-- "Older cards are in force from 1 to 366"
abbrev pub whole_year : Season
whole_year = record { first = 1; last = 366 }

-- 24, 25: first day. 26, 27: last day.
abbrev pub season_at : List ℕ → Season
season_at card = record { first = two_at card 24; last = two_at card 26 }

-- a card of versions 1 and 2 ends before them
abbrev pub is_older : List ℕ → Bool
is_older card = ltb (length card) 28

unfoldable pub season_of : List ℕ → Season
season_of card = elim (is_older card) [ true ↦ whole_year | false ↦ season_at card ]

-- 21: "a day outside 1 to 366"
unfoldable pub bad_day : ℕ → Bool
bad_day day = either (eqb day 0) (ltb 366 day)

unfoldable pub bad_season : Season → Bool
bad_season s = either (bad_day s.first) (bad_day s.last)

-- "both included; a first after the last runs across New Year"
unfoldable pub in_force : Season → ℕ → Bool
in_force s day =
    elim (ltb s.last s.first) [
      | true ↦ either (leb s.first day) (leb day s.last)
      | false ↦ both (leb s.first day) (leb day s.last)
    ]

-- the earliest day of the year on which a card is in force
unfoldable pub first_day : Season → ℕ
first_day s = elim (ltb s.last s.first) [ true ↦ 1 | false ↦ s.first ]

-- "older cards gaining 1 and 366 behind their bytes": a card's bytes as version 3 has them
abbrev pub gained : Bool → List ℕ
gained true = two_bytes whole_year.first ++ two_bytes whole_year.last
gained false = []

unfoldable pub grown : List ℕ → List ℕ
grown card = card ++ gained (is_older card)

-- a card of a version that somebody gives: "cards of 24 bytes", or "Version 3 cards are 28 bytes"
abbrev pub Given : List ℕ → Type 0
Given card = (length card ≡ 24) ⊎ (length card ≡ 28)
