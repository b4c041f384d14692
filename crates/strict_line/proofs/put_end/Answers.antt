-- `strict_line::put_end` meets its contract: the number, its comma and the line feed.
-- Assumes nothing.
use Rattle.strict_line.proofs.Ends.{end_line}
use Rattle.std.proofs.Common.{rules}
use Rattle.strict_line.proofs.put_end.Goals as goal

pub returns : goal.returns
returns c = search (end_line, rules)
