-- Tables 18 to 21 by their numbers, and their columns as the code keeps them: they are printed with the same rates and endpoints.
-- Assumes nothing.
use Rattle.std.specs.Prelude.{ℕ, zero, suc, List, [], ◌∷◌, map}
use Rattle.rules.specs.Printed.{Mark}
use Rattle.rules.specs.Rules.{from_column}
use Rattle.rules.specs.Carried.{running}
use Rattle.likely_dense.specs.PrintedDense.{table18, table19, table20, table21}

-- Tables 18 to 21, which have the same rates and endpoints
unfoldable pub dense_tables : List (List (List Mark))
unfolding table18 table19 table20 table21
dense_tables = table18 ∷ table19 ∷ table20 ∷ table21 ∷ []

-- as many numbers, from one on
unfoldable pub counted_from : ℕ → ℕ → List ℕ
counted_from from zero = []
counted_from from (suc n) = from ∷ counted_from (suc from) n

-- the sixteen columns of a table, each with its entries in use from top to bottom
unfoldable pub columns_in_use : List (List Mark) → List (List ℕ)
columns_in_use rows = map (λ column. running 0 (from_column column rows)) (counted_from 0 16)
