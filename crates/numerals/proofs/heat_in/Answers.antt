-- `numerals::heat_in` meets its contract: a number, or a minus and a number that is not zero.
-- Assumes nothing.
use Rattle.std.proofs.Common.{arith}
use Rattle.std.proofs.lemmas.Grind.{common_steps}
use Rattle.numerals.specs.Numerals.{number_in, heat_in}
use Rattle.numerals.proofs.Laws.{number_within}
use Rattle.numerals.proofs.heat_in.Goals as goal

pub returns-in_default : goal.returns-in_default
unfolding number_in heat_in
returns-in_default c = grind (arith, common_steps)

pub returns-in_err-below : goal.returns-in_err-below
unfolding heat_in
returns-in_err-below c = grind (arith, common_steps)

pub returns-then-below-eq0 : goal.returns-then-below-eq0
unfolding heat_in
returns-then-below-eq0 c = grind (arith, common_steps)

pub overflow_sub-result : goal.overflow_sub-result
overflow_sub-result c = grind (arith, common_steps, number_within)

pub returns : goal.returns
unfolding heat_in
returns c = grind (arith, common_steps)
