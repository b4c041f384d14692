use Rattle.std.proofs.Common.{arith}
use Rattle.std.proofs.lemmas.Grind.{common_steps}
use Rattle.numerals.proofs.Runs.{none_left, digit_on, digit_low, digit_high, too_wide}
use Rattle.numerals.proofs.read_on.Goals as goal

pub returns-then-not-is_ascii_digit : goal.returns-then-not-is_ascii_digit
returns-then-not-is_ascii_digit c = grind (arith, common_steps, digit_low, digit_high)

pub returns-then-most-value : goal.returns-then-most-value
returns-then-most-value c = grind (arith, common_steps, digit_on, too_wide)

pub loop-b-preserved : goal.loop-b-preserved
loop-b-preserved c = grind (arith, common_steps, digit_on)

pub returns : goal.returns
returns c = grind (arith, common_steps, none_left)
