use Rattle.strict_lines.proofs.Turns.{put_start, line_fits, put_turn}
use Rattle.std.proofs.Common.{rules, arith, ◌<◌, length}
use Rattle.header.specs.InTurn.{in_turn}
use Rattle.strict_lines.proofs.put_lines.Goals as goal

pub loop-place-init : goal.loop-place-init
loop-place-init c = search (put_start, rules)

pub put_text-requires : goal.put_text-requires
put_text-requires c =
    let there = c.at.ensures in
    let h : c.loop-place.place < length (in_turn c.args.cards) = omega arith in search (line_fits, h, there, rules)

pub loop-place-preserved : goal.loop-place-preserved
loop-place-preserved c =
    let line = c.line_of-size.ensures in (
      search rules,
      search rules,
      search rules,
      search rules,
      put_turn (in_turn c.args.cards) c.loop-place.place (omega arith) _ c.at.ensures _ _ _ line.wrote line.upper_bound (search rules) _ _ _ c.loop-place.invariant.4 _ _ c.put_text.ensures.wrote,
    )
