-- Document 02's A5 as a table of registers, and the one theorem that each comes out as its row states: a card of each state in a
-- building, and the same card in a shed with doors. tests/README.md has the sums.
-- Assumes nothing.
use Rattle.std.specs.Prelude.{ℕ, ◌≡◌, refl, List, [], ◌∷◌, map}
use Rattle.promises.specs.Starred.{Row, card_of, row, toxic, given, not_given, at, none, rural, urban, in_building, stated, defined, computed}

-- "Containment 3 is a building without the factor"
abbrev pub with_doors : ℕ
with_doors = 3

-- containment, floor
abbrev pub diborane : ℕ → ℕ → ℕ → List ℕ
diborane containment floor = card_of 1 1 urban containment 19287457 2_500 floor 0 0

-- chlorine in states 2 and 3: state, containment, floor
abbrev pub chlorine : ℕ → ℕ → ℕ → ℕ → List ℕ
chlorine state containment floor = card_of 1 state rural containment 7782505 1_000 floor 0 0

-- at 25.0 °C: containment, floor
abbrev pub bromine : ℕ → ℕ → ℕ → List ℕ
bromine containment floor = card_of 1 4 urban containment 7726956 20_000 floor 0 250

-- at 30.0 °C in a shed with doors: floor
abbrev pub furan : ℕ → ℕ → List ℕ
furan floor = card_of 1 4 rural with_doors 110009 1_000 floor 0 300

-- 37 % hydrochloric acid: containment, floor
abbrev pub hydrochloric : ℕ → ℕ → ℕ → List ℕ
hydrochloric containment floor = card_of 1 5 rural containment 7647010 5_000 floor 0 370

unfoldable pub rows : List Row
rows =
    -- "a gas leaves at pounds / 10", in state 1, in state 2, and refrigerated, however small the floor
    row (toxic 1 (diborane in_building 1_000) 1 3 not_given 137_500 580 ∷ toxic 2 (diborane with_doors 1_000) 1 3 not_given 250_000 810 ∷ []) (at 2 810) none
    ∷ row (toxic 1 (chlorine 2 in_building 100) 1 11 not_given 55_000 170 ∷ toxic 2 (chlorine 2 with_doors 100) 1 11 not_given 100_000 220 ∷ []) (at 2 220) none
    ∷ row (toxic 1 (chlorine 3 in_building 309) 1 11 not_given 55_000 170 ∷ toxic 2 (chlorine 3 with_doors 309) 1 11 not_given 100_000 220 ∷ []) (at 2 220) none
    -- "a pool has the smaller of floor and full area and no 0.1", on a floor below the full area and on one above it
    ∷ row (toxic 1 (bromine in_building 100) 2 8 (given 10_000) 1_022 40 ∷ toxic 2 (bromine with_doors 100) 2 8 (given 10_000) 10_220 180 ∷ []) (at 2 180) none
    ∷ row (toxic 1 (bromine in_building 3_201) 2 8 (given 320_000) 32_704 340 ∷ toxic 2 (bromine with_doors 3_201) 2 8 (given 320_000) 327_040 1_100 ∷ []) (at 2 1_100) none
    -- the rate decides the table: 100 pounds a minute are over within ten minutes
    ∷ row (toxic 1 (furan 496) 2 6 (given 49_600) 99_994 2_500 ∷ toxic 2 (furan 497) 2 5 (given 49_700) 100_196 1_200 ∷ []) (at 1 2_500) none
    -- a solution, on both floors
    ∷ row (toxic 1 (hydrochloric in_building 400) 2 5 (given 40_000) 476 20 ∷ toxic 2 (hydrochloric with_doors 400) 2 5 (given 40_000) 4_760 50 ∷ []) (at 2 50) none
    ∷ row (toxic 1 (hydrochloric in_building 3_000) 2 5 (given 210_000) 2_499 30 ∷ toxic 2 (hydrochloric with_doors 3_000) 2 5 (given 210_000) 24_990 130 ∷ []) (at 2 130) none
    ∷ []

-- every row
pub side_by_side : map defined rows ≡ map stated rows
unfolding rows computed
side_by_side = refl
