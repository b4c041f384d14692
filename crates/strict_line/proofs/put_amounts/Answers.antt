-- `strict_line::put_amounts` meets its contract: three numbers, each with a comma behind it.
-- Assumes nothing.
use Rattle.strict_line.proofs.Ends.{amounts_line}
use Rattle.std.proofs.Common.{rules}
use Rattle.strict_line.proofs.put_amounts.Goals as goal

pub returns : goal.returns
returns c = search (amounts_line, rules)
