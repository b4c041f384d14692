-- `strict_line::put_line` meets its contract: the three parts of the line.
-- Assumes nothing.
use Rattle.strict_line.proofs.Ends.{whole_line}
use Rattle.std.proofs.Common.{rules}
use Rattle.strict_line.proofs.put_line.Goals as goal

pub returns : goal.returns
returns c = search (whole_line, rules)
