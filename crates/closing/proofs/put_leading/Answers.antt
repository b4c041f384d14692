-- `closing::put_leading` meets its contract: the letter, the card number and the miles, with a space after each of the first two.
-- Assumes nothing.
use Rattle.closing.proofs.Ends.{leading_line}
use Rattle.std.proofs.Common.{rules}
use Rattle.closing.proofs.put_leading.Goals as goal

pub returns : goal.returns
returns c = search (leading_line, rules)
