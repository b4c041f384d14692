-- `register_bytes::put_amounts` meets its contract: three numbers of four bytes.
-- Assumes nothing.
use Rattle.std.proofs.Common.{rules}
use Rattle.register_bytes.proofs.Ends.{amounts_end}
use Rattle.register_bytes.proofs.put_amounts.Goals as goal

pub returns-clause-wrote : goal.returns-clause-wrote
returns-clause-wrote c = search (amounts_end, rules)
