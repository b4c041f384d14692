-- How a table of rows and two columns is read by the arrays that the code keeps of it. `lines_means` in proofs/ says that it is what
-- the printed table answers.
-- Assumes nothing.
use Rattle.std.specs.Prelude.{ℕ, ◌-◌, List, ltb, min, length, get_or, Option}
use Rattle.units.specs.declared.Miles.{Miles}
use Rattle.search.specs.Rising.{first_at_least}
use Rattle.rules.specs.Rules.{answered, last_of}

-- by the largest rate that reads each row, the last row's its own, and the entries in use of a column: the first row that reads the
-- rate, or the last
unfoldable pub row_read : List ℕ → List ℕ → ℕ → Option Miles
row_read upto entries rate =
    answered (ltb (last_of upto) rate) (get_or entries (min (first_at_least rate upto) (length upto - 1)) 0)
