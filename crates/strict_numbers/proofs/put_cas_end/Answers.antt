-- `strict_numbers::put_cas_end` meets its contract: two digits, a hyphen, one digit and a comma.
-- Assumes nothing.
use Rattle.strict_numbers.proofs.Ends.{cas_end_lem}
use Rattle.std.proofs.Common.{rules}
use Rattle.strict_numbers.proofs.put_cas_end.Goals as goal

pub returns : goal.returns
returns c = search (cas_end_lem, rules)
