-- Tables 1 to 4 by their numbers.
-- Assumes nothing.
use Rattle.std.specs.Prelude.{ℕ, List, [], ◌∷◌, get_or}
use Rattle.rules.specs.Printed.{Range}
use Rattle.neutral.specs.PrintedNeutral.{table1, table2, table3, table4}

-- the ranges of a table by its number; any other number has none, and of no ranges nothing is read
unfoldable pub numbered : ℕ → List Range
unfolding table1 table2 table3 table4
numbered table = get_or ([] ∷ table1 ∷ table2 ∷ table3 ∷ table4 ∷ []) table []
