use Rattle.std.proofs.Common.{arith}
use Rattle.std.proofs.lemmas.Grind.{common_steps}
use Rattle.pieces.proofs.Laws.{before_stop, before_on, beyond}
use Rattle.pieces.proofs.end_of.Goals as goal

pub returns-then-b-separator-clause-value : goal.returns-then-b-separator-clause-value
returns-then-b-separator-clause-value c = grind (arith, common_steps, before_stop)

pub loop-place-preserved : goal.loop-place-preserved
loop-place-preserved c = grind (arith, common_steps, before_on)

pub returns-clause-value : goal.returns-clause-value
returns-clause-value c = grind (arith, common_steps, beyond)
