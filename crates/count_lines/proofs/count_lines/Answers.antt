use Rattle.std.proofs.Common.{arith, rules}
use Rattle.std.proofs.lemmas.Grind.{common_steps}
use Rattle.comma.specs.Text.{cards_in}
use Rattle.count_lines.specs.Count.{count_from}
use Rattle.count_lines.specs.Left.{lines_left}
use Rattle.count_lines.specs.Laws.{lines_within, count_start, count_turn, count_bad, count_end}
use Rattle.count_lines.proofs.count_lines.Goals as goal

pub loop-line-init : goal.loop-line-init
loop-line-init c = (tt, tt, search (count_start, rules), grind (arith, common_steps, lines_within))

pub returns-then-is_none : goal.returns-then-is_none
returns-then-is_none c =
    grind (arith, common_steps, count_bad (count_from 0 (cards_in c.args.text.now)) c.loop-line.count (lines_left c.loop-line.line-iterator) c.loop-line.invariant.2 c.in-Some.line.now (lines_left c.next.new.self) c.in-Some.ensures.steps c.line_of.result c.line_of.ensures)

pub loop-line-preserved : goal.loop-line-preserved
loop-line-preserved c = (tt, tt, search (count_turn, rules), grind (arith, common_steps))

pub returns : goal.returns
returns c = search (count_end, rules)
