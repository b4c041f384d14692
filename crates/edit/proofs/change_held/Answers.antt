-- `edit::change_held` meets its contract: a good header's cards and distances are those of the register.
-- Assumes nothing.
use Rattle.std.proofs.Common.{length}
use Rattle.header.specs.InTurn.{in_turn}
use Rattle.edit.proofs.Stages.{held_whole, held_given, held_few, held_room, held_length, held_laid}
use Rattle.edit.proofs.change_held.Goals as goal

pub cards_of-cards-requires : goal.cards_of-cards-requires
cards_of-cards-requires c = held_whole c.args.number c.args.wanted (in_turn c.args.brought) c.args.buffer.now c.held-register.result.now c.held-register.ensures (length c.args.own.now) c.requires.0

pub change-requires : goal.change-requires
change-requires c =
    let few = held_few c.args.number c.args.wanted (in_turn c.args.brought) c.args.buffer.now c.held-register.result.now c.held-register.ensures (length c.args.own.now) c.requires.0 _ c.cards_of-cards.ensures in
    let room = held_room c.args.number c.args.wanted (in_turn c.args.brought) c.args.buffer.now c.held-register.result.now c.held-register.ensures (length c.args.own.now) c.requires.0 _ c.cards_of-cards.ensures in
    let sized = held_given c.args.number c.args.wanted (in_turn c.args.brought) c.args.buffer.now c.held-register.result.now c.held-register.ensures (length c.args.own.now) c.requires.0 _ c.cards_of-cards.ensures in (few, room, c.requires.1, sized, c.requires.2)

pub returns-clause-value : goal.returns-clause-value
returns-clause-value c = held_length c.args.number c.args.wanted (in_turn c.args.brought) c.args.buffer.now c.held-register.result.now c.held-register.ensures (length c.args.own.now) c.requires.0 _ c.cards_of-cards.ensures _ c.stored_of-stored.ensures _ c.change.ensures.value

pub returns-clause-laid : goal.returns-clause-laid
returns-clause-laid c = held_laid c.args.number c.args.wanted (in_turn c.args.brought) c.args.buffer.now c.held-register.result.now c.held-register.ensures (length c.args.own.now) c.requires.0 _ c.cards_of-cards.ensures _ c.stored_of-stored.ensures _ c.change.ensures.laid
