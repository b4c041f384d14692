-- `strict_numbers::put_heat` meets its contract: the number, with a minus in front below zero.
-- Assumes nothing.
use Rattle.strict_numbers.proofs.Ends.{heat_up, heat_down}
use Rattle.std.proofs.Common.{rules}
use Rattle.strict_numbers.proofs.put_heat.Goals as goal

pub returns-then-heat-lt32768 : goal.returns-then-heat-lt32768
returns-then-heat-lt32768 c = search (heat_up, rules)

pub returns : goal.returns
returns c = search (heat_down, rules)
