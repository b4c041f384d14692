-- `dispersion::read` meets its contract: the constants are what is computed from the printed tables. Assumes nothing.
use mathlib.Core.Path.{◌≡◌, refl, sym, ◌∙◌}
use Rattle.std.proofs.Common.{⊎_elim}
use native.Mathlib.Omega.{arith}
use Rattle.rules.specs.Rules.{distance, larger, thousandths, last_of}
use Rattle.rules.specs.Cuts.{cuts, cuts_from, climbs, climbs_from}
use Rattle.rules.specs.Carried.{running}
use Rattle.dispersion.specs.PrintedChemical.{table9, table10, table11, table12}
use Rattle.dispersion.specs.Tables.{tables, reading_of}
use Rattle.dispersion.proofs.Laws.{reading_none}
use Rattle.dispersion.proofs.Means.{lines_means, upto_4, neutral_reading, dense_reading}
use Rattle.dispersion.proofs.read.Goals as goal

pub returns-in-9 : goal.returns-in-9
unfolding reading_of tables running distance cuts cuts_from climbs climbs_from thousandths last_of larger
returns-in-9 c = rw c.in-9.is (c.read.ensures ∙ lines_means table9 refl refl refl refl refl _ _ c.args.endpoint)

pub returns-in-10 : goal.returns-in-10
unfolding reading_of tables running distance cuts cuts_from climbs climbs_from thousandths last_of larger
returns-in-10 c = rw c.in-10.is (c.read-in-10.ensures ∙ lines_means table10 refl refl refl refl refl _ _ c.args.endpoint)

pub returns-in-11 : goal.returns-in-11
unfolding reading_of tables running distance cuts cuts_from climbs climbs_from thousandths last_of larger
returns-in-11 c = rw c.in-11.is (c.read-in-11.ensures ∙ lines_means table11 refl refl refl refl refl _ _ c.args.endpoint)

pub returns-in-12 : goal.returns-in-12
unfolding reading_of tables running distance cuts cuts_from climbs climbs_from thousandths last_of larger
returns-in-12 c = rw c.in-12.is (c.read-in-12.ensures ∙ lines_means table12 refl refl refl refl refl _ _ c.args.endpoint)

-- number by number, so that whatever number the reading is asked by, each of them is compared with its own table
pub returns-in-0-to-4 : goal.returns-in-0-to-4
returns-in-0-to-4 c =
    ⊎_elim (λ (e : c.args.table ≡ 0). rw e (rw e at c.read-in-0-to-4.ensures ∙ neutral_reading 0 (omega arith) _ _ _))
    (⊎_elim (λ (e : c.args.table ≡ 1). rw e (rw e at c.read-in-0-to-4.ensures ∙ neutral_reading 1 (omega arith) _ _ _))
    (⊎_elim (λ (e : c.args.table ≡ 2). rw e (rw e at c.read-in-0-to-4.ensures ∙ neutral_reading 2 (omega arith) _ _ _))
    (⊎_elim (λ (e : c.args.table ≡ 3). rw e (rw e at c.read-in-0-to-4.ensures ∙ neutral_reading 3 (omega arith) _ _ _))
    (λ (e : c.args.table ≡ 4). rw e (rw e at c.read-in-0-to-4.ensures ∙ neutral_reading 4 (omega arith) _ _ _)))))
    (upto_4 c.args.table (omega arith))

pub returns-in-5-to-8 : goal.returns-in-5-to-8
returns-in-5-to-8 c = c.read-in-5-to-8.ensures ∙ dense_reading c.args.table (omega arith) (omega arith) _ _ _

pub returns-in_default : goal.returns-in_default
returns-in_default c = sym (reading_none _ _ _ _ (omega arith))
