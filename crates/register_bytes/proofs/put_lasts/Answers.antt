-- `register_bytes::put_lasts` meets its contract: two numbers of two bytes and one of four.
-- Assumes nothing.
use Rattle.std.proofs.Common.{rules}
use Rattle.register_bytes.proofs.Ends.{lasts_end}
use Rattle.register_bytes.proofs.put_lasts.Goals as goal

pub returns-clause-wrote : goal.returns-clause-wrote
returns-clause-wrote c = search (lasts_end, rules)
