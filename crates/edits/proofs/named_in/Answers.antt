-- `edits::named_in` meets its contract: the card in front, if there is one, decides.
-- Assumes nothing.
use Rattle.std.proofs.Common.{arith, ◌∙◌}
use Rattle.header.specs.InTurn.{in_turn}
use Rattle.edits.proofs.Cut.{named_empty, named_one, named_other}
use Rattle.edits.proofs.named_in.Goals as goal

pub returns-then-len-eq0 : goal.returns-then-len-eq0
returns-then-len-eq0 c = named_empty c.args.number (in_turn c.args.cards) (omega arith)

pub returns-then-number_of-number : goal.returns-then-number_of-number
returns-then-number_of-number c = named_one c.args.number (in_turn c.args.cards) c.at.ensures (omega arith) (omega arith)

pub returns-else-number_of-number : goal.returns-else-number_of-number
returns-else-number_of-number c = named_other c.args.number (in_turn c.args.cards) c.at.ensures (omega arith) (λ e. c.if-number_of-number.false (c.number_of.ensures ∙ e))
