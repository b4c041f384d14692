-- Reference Tables 14 to 25 by their numbers, and what reading one of them answers a likely scenario (document 02, A6).
-- Assumes nothing.
use Rattle.std.specs.Prelude.{ℕ, ◌-◌, List, [], ◌∷◌, map, get_or, Option, Some, None}
use Rattle.interpolation.specs.declared.Likely.{Likely}
use Rattle.units.specs.declared.Miles.{Miles}
use Rattle.rules.specs.Rules.{from_column, closest_column, by_range}
use Rattle.dispersion.specs.declared.Ground.{Ground}
use Rattle.dispersion.specs.Tables.{Table, ranges, grid, lines, unprinted, rate_of, entry_of}
use Rattle.interpolation.specs.Interpolation.{entry_read, likely_by_row}
use Rattle.likely_neutral.specs.PrintedNeutral.{table14, table15, table16, table17}
use Rattle.likely_dense.specs.PrintedDense.{rates18, endpoints18, table18, rates19, endpoints19, table19, rates20, endpoints20, table20, rates21, endpoints21, table21}
use Rattle.likely_tables.specs.PrintedChemical.{table22, table23, table24, table25}

-- the tables in the order of their numbers, from 13 on, which is none of a likely scenario: "each of 14 to 25 takes marks, blanks and
-- entries in use like the table thirteen below it", and stands here at that table's place
unfoldable pub likely_tables : List Table
unfolding table14 table15 table16 table17 rates18 endpoints18 table18 rates19 endpoints19 table19 rates20 endpoints20 table20 rates21 endpoints21 table21 table22 table23 table24 table25
likely_tables =
    unprinted
    ∷ ranges table14
    ∷ ranges table15
    ∷ ranges table16
    ∷ ranges table17
    ∷ grid rates18 endpoints18 table18
    ∷ grid rates19 endpoints19 table19
    ∷ grid rates20 endpoints20 table20
    ∷ grid rates21 endpoints21 table21
    ∷ lines table22
    ∷ lines table23
    ∷ lines table24
    ∷ lines table25
    ∷ []

-- "A range .. under 25 miles counts as printed", one of 25 miles is the limit
abbrev pub range_read : Option Miles → Option Likely
range_read (Some d) = Some (entry_read d.0)
range_read None = None

-- What a table answers at a rate in thousandths of a pound per minute and an endpoint in hundred-thousandths of mg/L. "Tables 14 to 17
-- read ranges as before"; "In Tables 18 to 25 we interpolate between rows, with the endpoint column still the closest."
unfoldable pub likely_in : Table → Ground → ℕ → ℕ → Option Likely
likely_in (ranges table) topography rate endpoint = range_read (by_range table rate endpoint)
likely_in (grid rates endpoints rows) topography rate endpoint =
    likely_by_row rates (from_column (closest_column endpoint endpoints) rows) rate
likely_in (lines table) topography rate endpoint = likely_by_row (map rate_of table) (map (entry_of topography) table) rate
likely_in unprinted topography rate endpoint = None

-- what the table of a number answers
unfoldable pub likely_reading : ℕ → Ground → ℕ → ℕ → Option Likely
likely_reading table topography rate endpoint = likely_in (get_or likely_tables (table - 13) unprinted) topography rate endpoint
