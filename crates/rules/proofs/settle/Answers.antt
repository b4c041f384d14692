use mathlib.Core.Path.{sym}
use Rattle.search.specs.Laws.{first_unique}
use native.Mathlib.Omega.{arith}
use Rattle.rules.proofs.settle.Goals as goal

pub returns : goal.returns
returns c = (
  sym
      (first_unique _ _ _ c.rows.invariant.0 c.rows.invariant.1
      (λ h. grind arith)),
  sym
      (first_unique _ _ _ c.loop-column.invariant.0 c.loop-column.invariant.1
      (λ h. grind arith)),
)
