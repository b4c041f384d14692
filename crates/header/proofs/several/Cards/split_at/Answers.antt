-- `header::Cards::split_at` meets its contract: the bytes are cut behind the first cards.
-- Assumes nothing.
use Rattle.header.specs.InTurn.{in_turn}
use Rattle.header.proofs.Turns.{first_are, others_are}
use Rattle.header.proofs.several.Cards.split_at.Goals as goal

pub returns-clause-front : goal.returns-clause-front
unfolding in_turn
returns-clause-front c = first_are c.args.self c.args.first c.requires c.split_at.ensures.front

pub returns-clause-behind : goal.returns-clause-behind
unfolding in_turn
returns-clause-behind c = others_are c.args.self c.args.first c.requires c.split_at.ensures.back
