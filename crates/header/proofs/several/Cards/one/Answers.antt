-- `header::Cards::one` meets its contract: the bytes of one card are that card.
-- Assumes nothing.
use Rattle.std.proofs.Common.{arith}
use Rattle.header.specs.InTurn.{in_turn}
use Rattle.header.proofs.Turns.{one_is}
use Rattle.header.proofs.several.Cards.one.Goals as goal

pub invariant_of-result : goal.invariant_of-result
invariant_of-result c = record { whole = omega arith }

pub returns : goal.returns
unfolding in_turn
returns c = one_is c.args.card.now
