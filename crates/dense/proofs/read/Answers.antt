-- `dense::read` meets its contract: the cut points and the entries are what is computed from the printed tables. Assumes nothing.
use mathlib.Core.Path.{refl, ◌∙◌}
use Rattle.dense.specs.PrintedDense.{rates5, endpoints5}
use Rattle.dense.specs.Grids.{dense_tables}
use Rattle.rules.specs.Carried.{grid_in_use}
use Rattle.rules.specs.Rules.{larger, smaller, thousandths, last_of}
use Rattle.rules.specs.Cuts.{cuts, cuts_from}
use Rattle.dense.proofs.Means.{dense_means}
use Rattle.dense.proofs.read.Goals as goal

pub returns : goal.returns
unfolding cuts cuts_from thousandths last_of larger smaller rates5 endpoints5 dense_tables grid_in_use
returns c = c.answer.ensures
    ∙ dense_means _ _ _ refl refl refl _ refl _ _ _ _ _ c.requires.0 c.requires.1 c.settle-place.ensures.0 c.settle-place.ensures.1
