-- `lines::put_numbers` meets its contract: three numbers, each with a space behind it.
-- Assumes nothing.
use Rattle.lines.proofs.Ends.{numbers_line}
use Rattle.std.proofs.Common.{rules}
use Rattle.lines.proofs.put_numbers.Goals as goal

pub returns : goal.returns
returns c = search (numbers_line, rules)
