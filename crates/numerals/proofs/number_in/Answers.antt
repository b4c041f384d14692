-- `numerals::number_in` meets its contract: no digit is no number.
-- Assumes nothing.
use Rattle.std.proofs.Common.{arith}
use Rattle.std.proofs.lemmas.Grind.{common_steps}
use Rattle.numerals.specs.Numerals.{number_in}
use Rattle.numerals.proofs.number_in.Goals as goal

pub returns-then-is_empty : goal.returns-then-is_empty
unfolding number_in
returns-then-is_empty c = grind (arith, common_steps)

pub returns : goal.returns
unfolding number_in
returns c = grind (arith, common_steps)
