-- `strict_numbers::put_cas` meets its contract: the first group and its hyphen, and what stands behind it.
-- Assumes nothing.
use Rattle.strict_numbers.proofs.Ends.{cas_line}
use Rattle.std.proofs.Common.{rules}
use Rattle.strict_numbers.proofs.put_cas.Goals as goal

pub returns : goal.returns
returns c = search (cas_line, rules)
