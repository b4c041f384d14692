-- `likely_tables::read` meets its contract: the constants are what is computed from the printed tables. Assumes nothing.
use mathlib.Core.Path.{refl, sym, ap, ◌∙◌}
use native.Mathlib.Omega.{arith}
use Rattle.rules.specs.Rules.{distance, thousandths}
use Rattle.rules.specs.Carried.{running}
use Rattle.likely_tables.specs.PrintedChemical.{table22, table23, table24, table25}
use Rattle.likely_tables.specs.LikelyTables.{range_read, likely_tables, likely_reading}
use Rattle.likely_tables.proofs.Means.{lines_mean, neutral_reading, dense_reading, none_above}
use Rattle.likely_tables.proofs.read.Goals as goal

pub returns-in-22 : goal.returns-in-22
unfolding likely_reading likely_tables running distance thousandths
returns-in-22 c = rw c.in-22.is (c.row_read.ensures ∙ lines_mean table22 refl refl refl (omega arith) _ _ c.args.endpoint)

pub returns-in-23 : goal.returns-in-23
unfolding likely_reading likely_tables running distance thousandths
returns-in-23 c = rw c.in-23.is (c.row_read-in-23.ensures ∙ lines_mean table23 refl refl refl (omega arith) _ _ c.args.endpoint)

pub returns-in-24 : goal.returns-in-24
unfolding likely_reading likely_tables running distance thousandths
returns-in-24 c = rw c.in-24.is (c.row_read-in-24.ensures ∙ lines_mean table24 refl refl refl (omega arith) _ _ c.args.endpoint)

pub returns-in-25 : goal.returns-in-25
unfolding likely_reading likely_tables running distance thousandths
returns-in-25 c = rw c.in-25.is (c.row_read-in-25.ensures ∙ lines_mean table25 refl refl refl (omega arith) _ _ c.args.endpoint)

pub returns-in-0-to-17 : goal.returns-in-0-to-17
returns-in-0-to-17 c = c.range_read.ensures ∙ ap range_read c.read.ensures ∙ neutral_reading c.args.table (omega arith) _ _ _

pub returns-in-18-to-21 : goal.returns-in-18-to-21
returns-in-18-to-21 c = c.read-in-18-to-21.ensures ∙ dense_reading c.args.table (omega arith) (omega arith) _ _ _

pub returns-in_default : goal.returns-in_default
returns-in_default c = sym (none_above _ _ _ _ (omega arith))
