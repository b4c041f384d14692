-- `register_bytes::put_header` meets its contract: the length, the version and the count.
-- Assumes nothing.
use Rattle.std.proofs.Common.{rules}
use Rattle.register_bytes.proofs.Ends.{header_end}
use Rattle.register_bytes.proofs.put_header.Goals as goal

pub returns-clause-wrote : goal.returns-clause-wrote
returns-clause-wrote c = search (header_end, rules)
