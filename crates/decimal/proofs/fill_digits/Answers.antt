use Rattle.std.proofs.Common.{arith}
use Rattle.std.proofs.lemmas.Grind.{common_steps}
use Rattle.decimal.specs.Digits.{digits_in}
use Rattle.decimal.proofs.Turns.{digit_turn}
use Rattle.decimal.proofs.fill_digits.Goals as goal

pub loop-place-preserved : goal.loop-place-preserved
loop-place-preserved g c = grind (arith, common_steps, digit_turn)

pub returns : goal.returns
unfolding digits_in
returns g c = grind (arith, common_steps)
