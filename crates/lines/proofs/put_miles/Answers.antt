-- `lines::put_miles` meets its contract: the distance and the line feed.
-- Assumes nothing.
use Rattle.lines.proofs.Ends.{miles_line}
use Rattle.std.proofs.Common.{rules}
use Rattle.lines.proofs.put_miles.Goals as goal

pub returns : goal.returns
returns c = search (miles_line, rules)
