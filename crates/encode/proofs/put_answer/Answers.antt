-- `encode::put_answer` meets its contract: the five fields, one behind the other.
-- Assumes nothing.
use Rattle.std.proofs.Common.{rules}
use Rattle.encode.proofs.Ends.{answer_end}
use Rattle.encode.proofs.put_answer.Goals as goal

pub returns-clause-wrote : goal.returns-clause-wrote
returns-clause-wrote c = search (answer_end, rules)
