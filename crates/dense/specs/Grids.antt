-- Tables 5 to 8 by their numbers: they are printed with the same rates and endpoints, so one walk finds the place in each.
-- Assumes nothing.
use Rattle.std.specs.Prelude.{List, [], ◌∷◌}
use Rattle.rules.specs.Printed.{Mark}
use Rattle.dense.specs.PrintedDense.{table5, table6, table7, table8}

-- Tables 5 to 8, which have the same rates and endpoints
unfoldable pub dense_tables : List (List (List Mark))
unfolding table5 table6 table7 table8
dense_tables = table5 ∷ table6 ∷ table7 ∷ table8 ∷ []
