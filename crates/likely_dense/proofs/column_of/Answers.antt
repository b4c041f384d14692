-- `likely_dense::column_of` meets its contract: the cut points are what is computed from the printed endpoints. Assumes nothing.
use mathlib.Core.Path.{refl}
use Rattle.rules.specs.Rules.{smaller}
use Rattle.rules.specs.Cuts.{cuts, cuts_from}
use Rattle.likely_dense.specs.PrintedDense.{endpoints18}
use Rattle.likely_dense.proofs.Means.{column_means}
use Rattle.likely_dense.proofs.column_of.Goals as goal

pub returns : goal.returns
unfolding cuts cuts_from smaller endpoints18
returns c =
    let m = column_means _ refl _ _ c.first_at_least.ensures in
    record { value = m.0; upper_bound = m.1 }
