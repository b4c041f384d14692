-- `likely_line::put_told` meets its contract. Assumes nothing.
use Rattle.std.proofs.Common.{rules}
use Rattle.buffer.proofs.Laws.{then}
use Rattle.likely_line.proofs.put_told.Goals as goal

pub returns-clause-wrote : goal.returns-clause-wrote
returns-clause-wrote c = search (then, rules)
