use Rattle.strict_lines.proofs.Turns.{size_start, size_turn}
use borrow.Author.Rules.{rules}
use Rattle.std.proofs.Common.{arith, ◌<◌, length}
use Rattle.header.specs.InTurn.{in_turn}
use Rattle.strict_lines.proofs.text_size.Goals as goal

pub loop-place-init : goal.loop-place-init
loop-place-init c = search (size_start, rules)

pub loop-place-preserved : goal.loop-place-preserved
loop-place-preserved c =
    let there = c.at.ensures in
    let h : c.loop-place.place < length (in_turn c.args.cards) = omega arith in search (size_turn, h, there, rules)
