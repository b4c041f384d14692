-- `lines::put_card_line` meets its contract: the two halves of the line.
-- Assumes nothing.
use Rattle.lines.proofs.Ends.{card_line_lem}
use Rattle.std.proofs.Common.{rules}
use Rattle.lines.proofs.put_card_line.Goals as goal

pub returns : goal.returns
returns c = search (card_line_lem, rules)
