-- `decimal::put_number_then` meets its contract: the number, and the byte behind it.
-- Assumes nothing.
use Rattle.std.proofs.Common.{rules}
use Rattle.buffer.proofs.Laws.{then}
use Rattle.decimal.proofs.put_number_then.Goals as goal

pub returns-clause-wrote : goal.returns-clause-wrote
returns-clause-wrote c = search (then, rules)
