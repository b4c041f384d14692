use borrow.Author.Rules.{rules}
use Rattle.std.proofs.Common.{arith, ◌<◌, length}
use Rattle.header.specs.InTurn.{in_turn}
use Rattle.walk.proofs.Turns.{held_after, room, turn_place, turn_at, turn_left, turn_written, refused_left, refused_written, end_left, end_written, end_within}
use Rattle.walk.proofs.along.Goals as goal

pub put-requires : goal.put-requires
put-requires g c = search (room, rules)

pub loop-place-preserved : goal.loop-place-preserved
loop-place-preserved g c =
    let there = c.at.ensures in
    let h : c.loop-place.place < length (in_turn c.args.cards) = omega arith in search (turn_place, turn_at, turn_left, turn_written, h, there, rules)

pub returns-in-Err-clause-value : goal.returns-in-Err-clause-value
returns-in-Err-clause-value g c =
    let there = c.at.ensures in
    let h : c.loop-place.place < length (in_turn c.args.cards) = omega arith in search (refused_left, h, there, rules)

pub returns-in-Err-clause-out_after : goal.returns-in-Err-clause-out_after
returns-in-Err-clause-out_after g c =
    let there = c.at.ensures in
    let h : c.loop-place.place < length (in_turn c.args.cards) = omega arith in held_after c.loop-place.written.bytes.now (search rules) (search (refused_written, h, there, rules))

pub returns-clause-value : goal.returns-clause-value
returns-clause-value g c = search (end_left, rules)

pub returns-clause-out_after : goal.returns-clause-out_after
returns-clause-out_after g c = held_after c.loop-place.written.bytes.now (search rules) (search (end_written, rules))

pub returns-clause-within : goal.returns-clause-within
returns-clause-within g c = search (end_within, rules)
