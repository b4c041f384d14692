-- `strict_line::put_lasts` meets its contract: two numbers, each with a comma behind it, and the end of the line.
-- Assumes nothing.
use Rattle.strict_line.proofs.Ends.{lasts_line}
use Rattle.std.proofs.Common.{rules}
use Rattle.strict_line.proofs.put_lasts.Goals as goal

pub returns : goal.returns
returns c = search (lasts_line, rules)
