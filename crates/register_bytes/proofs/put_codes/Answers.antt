-- `register_bytes::put_codes` meets its contract: four bytes.
-- Assumes nothing.
use Rattle.std.proofs.Common.{rules}
use Rattle.register_bytes.proofs.Ends.{codes_end}
use Rattle.register_bytes.proofs.put_codes.Goals as goal

pub returns-clause-wrote : goal.returns-clause-wrote
returns-clause-wrote c = search (codes_end, rules)
