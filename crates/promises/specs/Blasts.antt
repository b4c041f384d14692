-- Document 02's A7 as a table of registers, and the one theorem that each comes out as its row states; beside it the rings in metres.
-- tests/README.md has the sums.
-- Assumes nothing.
use Rattle.std.specs.Prelude.{ℕ, ◌≡◌, refl, List, [], ◌∷◌, map}
use Rattle.blast.specs.Blast.{first_from, metres_of}
use Rattle.promises.specs.Starred.{Line, Row, card_of, row, flammable, not_given, at, none, propane, stated, defined, computed}

abbrev pub ethyl_nitrite : ℕ → ℕ → List ℕ
ethyl_nitrite pounds = card_of 2 0 0 0 109955 pounds 0 0 0

abbrev pub hydrogen : ℕ → ℕ → List ℕ
hydrogen pounds = card_of 2 0 0 0 1333740 pounds 0 0 0

-- a blast: card number, bytes, hundredths of a mile. "new flammable answers carry table number 0"
abbrev pub blast : ℕ → (ℕ → List ℕ) → ℕ → Line
blast number card miles = flammable number card 3 0 not_given 0 miles

unfoldable pub rows : List Row
rows =
    -- document 01's card 13: `13 3 0 0.000 0.18`
    row (blast 13 (propane 10_000) 18 ∷ []) none (at 13 18)
    -- one pound either side of a step, 354 metres and 355
    ∷ row (blast 1 (propane 20_065) 22 ∷ blast 2 (propane 20_066) 23 ∷ []) none (at 2 23)
    -- at 245,245 lb the inequality is an equality, 595 metres, and one pound more takes a metre more
    ∷ row (blast 1 (ethyl_nitrite 245_245) 37 ∷ blast 2 (ethyl_nitrite 245_246) 38 ∷ []) none (at 2 38)
    -- "Number 11 no longer comes from a flammable card": above the 2,000,000 lb of Table 13
    ∷ row (blast 1 (propane 2_000_000) 103 ∷ blast 2 (propane 2_000_001) 103 ∷ []) none (at 1 103)
    -- the least ring, and the largest that a card can have
    ∷ row (blast 1 (propane 1) 1 ∷ blast 2 (hydrogen 10_000_000) 240 ∷ []) none (at 2 240)
    ∷ []

-- every row
pub by_equation : map defined rows ≡ map stated rows
unfolding rows computed
by_equation = refl

-- the rings of those cards in metres, by their pounds and HC
pub in_metres :
    metres_of 10_000 46_333
    ∷ metres_of 20_065 46_333
    ∷ metres_of 20_066 46_333
    ∷ metres_of 245_245 18_000
    ∷ metres_of 245_246 18_000
    ∷ metres_of 2_000_000 46_333
    ∷ metres_of 1 46_333
    ∷ metres_of 10_000_000 119_950
    ∷ []
    ≡ 281 ∷ 354 ∷ 355 ∷ 595 ∷ 596 ∷ 1_642 ∷ 14 ∷ 3_854 ∷ []
unfolding metres_of first_from
in_metres = refl
