-- The cut points between the columns of B-4 mean the closest column, the higher at a midpoint.
-- Assumes nothing.
use Rattle.std.specs.Prelude.{ℕ, zero, suc, ◌≡◌, refl, Bool, true, List, [], ◌∷◌, eqb, pos, negsuc}
use Rattle.search.specs.Rising.{both}
use Rattle.rules.specs.Rules.{larger, apart, closest, closest_from}
use Rattle.factors.specs.declared.Column.{Column}
use Rattle.factors.specs.declared.Column.TheVariants.{At25, At30, At35, At40, At45, At50, Above}
use Rattle.factors.specs.Factors.{column_of}

-- the columns' temperatures in tenths: "25 °C counts as a column"
abbrev pub columns : List ℕ
columns = 250 ∷ 300 ∷ 350 ∷ 400 ∷ 450 ∷ 500 ∷ []

-- the place of a column among them
abbrev pub place_in : Column → ℕ
place_in At25 = 0
place_in At30 = 1
place_in At35 = 2
place_in At40 = 3
place_in At45 = 4
place_in At50 = 5
place_in Above = 6

-- at each of so many tenths from a temperature on, the column read is the closest, the higher at a midpoint: a test that
-- computes
unfoldable pub closest_for : ℕ → ℕ → Bool
closest_for zero t = true
closest_for (suc n) t = both (eqb (place_in (column_of (pos t))) (closest larger t columns)) (closest_for n (suc t))

-- from 0.0 to 50.0 °C
pub columns_closest : closest_for 501 0 ≡ true
unfolding closest_for column_of closest closest_from larger apart
columns_closest = refl

-- "and lower temperatures read it": below zero
pub colder : (n : ℕ) → column_of (negsuc n) ≡ At25
unfolding column_of
colder n = refl
