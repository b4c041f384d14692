-- Reference Tables 1 to 12 by their numbers, and what reading one of them answers. Another table is one more entry of
-- `tables`; another form of table one more case of `Table` and of `read_in`.
-- Assumes nothing.
use Rattle.std.specs.Prelude.{ℕ, List, [], ◌∷◌, map, get_or, Option, None}
use Rattle.units.specs.declared.Miles.{Miles}
use Rattle.dispersion.specs.declared.Ground.{Ground}
use Rattle.dispersion.specs.declared.Ground.TheVariants.{Rural, Urban}
use Rattle.rules.specs.Printed.{Mark, Range, Line, line}
use Rattle.neutral.specs.PrintedNeutral.{table1, table2, table3, table4}
use Rattle.dense.specs.PrintedDense.{rates5, endpoints5, table5, rates6, endpoints6, table6, rates7, endpoints7, table7, rates8, endpoints8, table8}
use Rattle.dispersion.specs.PrintedChemical.{table9, table10, table11, table12}
use Rattle.rules.specs.Rules.{distance, from_column, closest_column, by_row, by_range}

-- the forms of a table: by ranges of rate / endpoint (Tables 1 to 4), by rates and endpoints (5 to 8), by rates with a
-- rural and an urban column (9 to 12), and a number that no table has
pub data Table : Type 0 where
  ranges : List Range → Table
  grid : List ℕ → List ℕ → List (List Mark) → Table
  lines : List Line → Table
  unprinted : Table

-- the tables in the order of their numbers, from 0 on
unfoldable pub tables : List Table
unfolding table1 table2 table3 table4 rates5 endpoints5 table5 rates6 endpoints6 table6 rates7 endpoints7 table7 rates8 endpoints8 table8 table9 table10 table11 table12
tables =
    unprinted
    ∷ ranges table1
    ∷ ranges table2
    ∷ ranges table3
    ∷ ranges table4
    ∷ grid rates5 endpoints5 table5
    ∷ grid rates6 endpoints6 table6
    ∷ grid rates7 endpoints7 table7
    ∷ grid rates8 endpoints8 table8
    ∷ lines table9
    ∷ lines table10
    ∷ lines table11
    ∷ lines table12
    ∷ []

abbrev pub rate_of : Line → ℕ
rate_of (line rate rural urban) = rate

abbrev pub entry_of : Ground → Line → ℕ
entry_of Rural (line rate rural urban) = distance rural
entry_of Urban (line rate rural urban) = distance urban

-- the column of a ground
abbrev pub column_of : Ground → List ℕ → List ℕ → List ℕ
column_of Rural rural urban = rural
column_of Urban rural urban = urban

-- what a table answers at a rate in thousandths of a pound per minute and an endpoint in hundred-thousandths of mg/L
unfoldable pub read_in : Table → Ground → ℕ → ℕ → Option Miles
read_in (ranges table) topography rate endpoint = by_range table rate endpoint
read_in (grid rates endpoints rows) topography rate endpoint =
    by_row rates (from_column (closest_column endpoint endpoints) rows) rate
read_in (lines table) topography rate endpoint = by_row (map rate_of table) (map (entry_of topography) table) rate
read_in unprinted topography rate endpoint = None

-- what the table of a number answers
unfoldable pub reading_of : ℕ → Ground → ℕ → ℕ → Option Miles
reading_of table topography rate endpoint = read_in (get_or tables table unprinted) topography rate endpoint
