-- `strict_numbers::put_tenths` meets its contract: by the number of the state.
-- Assumes nothing.
use Rattle.strict_numbers.proofs.Ends.{concentration, temperature}
use Rattle.std.proofs.Common.{rules}
use Rattle.strict_numbers.proofs.put_tenths.Goals as goal

pub returns-then-state-eq5 : goal.returns-then-state-eq5
returns-then-state-eq5 c = search (concentration, rules)

pub returns : goal.returns
returns c = search (temperature, rules)
