-- `strict_line::put_codes` meets its contract: four numbers, each with a comma behind it.
-- Assumes nothing.
use Rattle.strict_line.proofs.Ends.{codes_line}
use Rattle.std.proofs.Common.{rules}
use Rattle.strict_line.proofs.put_codes.Goals as goal

pub returns : goal.returns
returns c = search (codes_line, rules)
