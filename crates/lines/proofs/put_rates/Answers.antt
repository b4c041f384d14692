-- `lines::put_rates` meets its contract: the rate, a space, and the miles.
-- Assumes nothing.
use Rattle.lines.proofs.Ends.{rates_line}
use Rattle.std.proofs.Common.{rules}
use Rattle.lines.proofs.put_rates.Goals as goal

pub returns : goal.returns
returns c = search (rates_line, rules)
