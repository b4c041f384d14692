-- `closing::put_refused` meets its contract: the two words and the two numbers.
-- Assumes nothing.
use Rattle.closing.proofs.Ends.{refused_line_lem}
use Rattle.std.proofs.Common.{rules}
use Rattle.closing.proofs.put_refused.Goals as goal

pub returns : goal.returns
returns c = record {
  wrote = search (refused_line_lem, rules);
  upper_bound = search rules;
}
