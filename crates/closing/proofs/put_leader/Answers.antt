-- `closing::put_leader` meets its contract: the letter and the word, or the line of the card.
-- Assumes nothing.
use Rattle.closing.proofs.Ends.{none_line, leader_line_lem}
use Rattle.std.proofs.Common.{rules}
use Rattle.closing.proofs.put_leader.Goals as goal

pub returns-in_default : goal.returns-in_default
returns-in_default c = search (none_line, rules)

pub returns : goal.returns
returns c = search (leader_line_lem, rules)
