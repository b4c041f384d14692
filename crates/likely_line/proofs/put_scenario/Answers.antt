-- `likely_line::put_scenario` meets its contract. Assumes nothing.
use Rattle.std.proofs.Common.{rules}
use Rattle.buffer.proofs.Laws.{then}
use Rattle.likely_line.specs.LikelyLine.{scenario_line}
use Rattle.likely_line.proofs.put_scenario.Goals as goal

pub returns-clause-wrote : goal.returns-clause-wrote
unfolding scenario_line
returns-clause-wrote c = search (then, rules)
