-- The lines that document 01 prints for its three cards, the third as it is since document 02, A7, byte by byte.
-- Assumes nothing.
use Rattle.std.specs.Prelude.{ℕ, ◌≡◌, refl, List, [], ◌∷◌}
use Rattle.seasons.specs.Seasons.{whole_year}
use Rattle.card.specs.declared.Class.TheVariants as class
use Rattle.decimal.specs.Decimal.{padded, digits_within, digits, fixed}
use Rattle.lines.specs.Lines.{miles_text, rates_text, numbers_text, card_line}

-- what the definitions give
abbrev lines : List (List ℕ)
lines =
    (card_line (record { number = 11; class = class.Toxic; route = 1; table = 11; rate = record { 0 = 250000 }; distance = record { 0 = 150 }; season = whole_year })) ∷
    (card_line (record { number = 12; class = class.Toxic; route = 2; table = 8; rate = record { 0 = 10220 }; distance = record { 0 = 180 }; season = whole_year })) ∷
    (card_line (record { number = 13; class = class.Flammable; route = 3; table = 0; rate = record { 0 = 0 }; distance = record { 0 = 18 }; season = whole_year })) ∷ []

-- what is to be printed
abbrev printed : List (List ℕ)
printed =
    -- 11 1 11 250.000 1.50
    (49 ∷ 49 ∷ 32 ∷ 49 ∷ 32 ∷ 49 ∷ 49 ∷ 32 ∷ 50 ∷ 53 ∷ 48 ∷ 46 ∷ 48 ∷ 48 ∷ 48 ∷ 32 ∷ 49 ∷ 46 ∷ 53 ∷ 48 ∷ 10 ∷ []) ∷
    -- 12 2 8 10.220 1.80
    (49 ∷ 50 ∷ 32 ∷ 50 ∷ 32 ∷ 56 ∷ 32 ∷ 49 ∷ 48 ∷ 46 ∷ 50 ∷ 50 ∷ 48 ∷ 32 ∷ 49 ∷ 46 ∷ 56 ∷ 48 ∷ 10 ∷ []) ∷
    -- 13 3 0 0.000 0.18
    (49 ∷ 51 ∷ 32 ∷ 51 ∷ 32 ∷ 48 ∷ 32 ∷ 48 ∷ 46 ∷ 48 ∷ 48 ∷ 48 ∷ 32 ∷ 48 ∷ 46 ∷ 49 ∷ 56 ∷ 10 ∷ []) ∷ []

pub as_printed : lines ≡ printed
unfolding padded digits_within digits fixed miles_text rates_text numbers_text card_line
as_printed = refl
