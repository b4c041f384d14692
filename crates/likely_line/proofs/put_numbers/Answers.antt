-- `likely_line::put_numbers` meets its contract. Assumes nothing.
use Rattle.std.proofs.Common.{rules}
use Rattle.buffer.proofs.Laws.{then}
use Rattle.likely_line.specs.LikelyLine.{numbers_text}
use Rattle.likely_line.proofs.put_numbers.Goals as goal

pub returns-clause-wrote : goal.returns-clause-wrote
unfolding numbers_text
returns-clause-wrote c = search (then, rules)
