-- Document 02's A3 as a table of registers, and the one theorem that each comes out as its row states. tests/README.md has the sums.
-- Assumes nothing.
use Rattle.std.specs.Prelude.{ℕ, ◌≡◌, refl, List, [], ◌∷◌, map}
use Rattle.promises.specs.Starred.{Row, card_of, row, toxic, given, not_given, at, none, rural, urban, in_open, in_dike, in_building, stated, defined, computed}

-- hydrochloric acid in state 5: ground, containment, pounds, area, wall, tenths of a percent
abbrev pub hydrochloric : ℕ → ℕ → ℕ → ℕ → ℕ → ℕ → ℕ → List ℕ
hydrochloric topography containment pounds area wall tenths = card_of 1 5 topography containment 7647010 pounds area wall tenths

-- ammonia in water, in the open
abbrev pub ammonia_water : ℕ → ℕ → ℕ → List ℕ
ammonia_water topography tenths = card_of 1 5 topography in_open 7664417 10_000 0 0 tenths

unfoldable pub rows : List Row
rows =
    -- the guidance's Example 10, 37 % hydrochloric acid in a dike: "107 pounds per minute" there
    row (toxic 1 (hydrochloric rural in_dike 50_000 9_000 100 370) 2 5 (given 900_000) 107_100 220 ∷ []) (at 1 220) none
    -- "A concentration reads the lowest printed one not below it": 30 % is neutral, a tenth above it reads 34 %, which is dense
    ∷ row (toxic 1 (hydrochloric rural in_open 10_000 0 0 300) 2 1 (given 420_000) 9_408 60 ∷ toxic 2 (hydrochloric rural in_open 10_000 0 0 301) 2 5 (given 420_000) 28_224 130 ∷ []) (at 2 130) none
    -- the lowest, and the highest
    ∷ row (toxic 1 (hydrochloric urban in_open 10_000 0 0 1) 2 3 not_given 9_408 30 ∷ toxic 2 (hydrochloric urban in_open 10_000 0 0 380) 2 7 not_given 57_400 110 ∷ []) (at 2 110) none
    -- "the shed factor of state 4": a tenth of 1.4 × 0.0085 × 400
    ∷ row (toxic 1 (hydrochloric rural in_building 5_000 400 0 370) 2 5 (given 40_000) 476 20 ∷ []) (at 1 20) none
    -- "aqueous ammonia reads Table 10"
    ∷ row (toxic 1 (ammonia_water rural 300) 2 10 not_given 200_200 80 ∷ toxic 2 (ammonia_water urban 250) 2 10 not_given 200_200 30 ∷ []) (at 1 80) none
    ∷ []

-- Every row. "Always a 10-minute table": each of these pools lasts for more than ten minutes.
pub dissolved : map defined rows ≡ map stated rows
unfolding rows computed
dissolved = refl
