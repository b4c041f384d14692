-- Tables 14 to 17 by their numbers.
-- Assumes nothing.
use Rattle.std.specs.Prelude.{ℕ, ◌-◌, List, [], ◌∷◌, get_or}
use Rattle.rules.specs.Printed.{Range}
use Rattle.likely_neutral.specs.PrintedNeutral.{table14, table15, table16, table17}

-- the ranges of a table by its number, from 13 on; any other number has none, and of no ranges nothing is read
unfoldable pub numbered : ℕ → List Range
unfolding table14 table15 table16 table17
numbered table = get_or ([] ∷ table14 ∷ table15 ∷ table16 ∷ table17 ∷ []) (table - 13) []
