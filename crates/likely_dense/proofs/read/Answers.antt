-- `likely_dense::read` meets its contract: the constants are what is computed from the printed tables. Assumes nothing.
use mathlib.Core.Path.{refl, ◌∙◌}
use Rattle.rules.specs.Rules.{distance, largest, from_column, thousandths}
use Rattle.rules.specs.Carried.{running}
use Rattle.likely_dense.specs.PrintedDense.{rates18}
use Rattle.likely_dense.specs.Columns.{dense_tables, counted_from, columns_in_use}
use Rattle.likely_dense.proofs.Means.{part_means}
use Rattle.likely_dense.proofs.read.Goals as goal

pub returns : goal.returns
unfolding thousandths rates18 dense_tables columns_in_use counted_from running from_column largest distance
returns c =
    c.read.ensures
    ∙ part_means _ _ refl refl _ _ _ _ c.requires.0 c.requires.1 c.column_of-column.ensures.value c.column_of-column.ensures.upper_bound
