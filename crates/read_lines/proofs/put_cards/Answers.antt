use Rattle.std.specs.Prelude.{◌+◌, ◌≡◌, Some}
use Rattle.std.proofs.Common.{arith, rules}
use Rattle.std.proofs.lemmas.Grind.{common_steps}
use Rattle.std.specs.Iterator.Adapters.{zip_first, zip_second}
use Rattle.count_lines.specs.Left.{lines_left}
use Rattle.read_lines.specs.Laws.{lay_start, lay_counted, lay_next, lay_turn, lay_bad, lay_end, lay_none}
use Rattle.read_lines.proofs.put_cards.Goals as goal

pub loop-place-init : goal.loop-place-init
loop-place-init c = grind (arith, common_steps, lay_start, lay_counted)

pub returns-in_default : goal.returns-in_default
returns-in_default c =
    let s = c.loop-place.place-iterator in
    grind (arith, common_steps, lay_bad c.args.count (zip_first s).start (lines_left (zip_second s)) c.loop-place.invariant.3 c.in-Some.line.now (lines_left (zip_second c.next.new.self)) c.in-Some.ensures.steps.1 c.line_of.result c.line_of.ensures)

pub loop-place-preserved : goal.loop-place-preserved
loop-place-preserved c =
    let s = c.loop-place.place-iterator in
    let t = c.next.new.self in
    let place = (zip_first s).start in
    let left = lines_left (zip_second s) in
    let others = lines_left (zip_second t) in
    let fields = c.in-Some-line_of.fields in
    let here : c.in-Some.place ≡ place = grind (arith, common_steps) in
    let next : (zip_first t).start ≡ place + 1 = grind (arith, common_steps) in
    let end : (zip_first t).end ≡ c.args.count = grind (arith, common_steps) in
    let good : c.line_of.result ≡ Some fields = grind (arith, common_steps) in
    let counted = lay_next c.args.count place left c.loop-place.invariant.3 c.in-Some.line.now others c.in-Some.ensures.steps.1 c.line_of.result c.line_of.ensures fields good in (
      (tt, tt),
      tt,
      rw next
          (lay_turn c.args.count place left c.loop-place.invariant.3 c.in-Some.line.now others c.in-Some.ensures.steps.1 c.line_of.result c.line_of.ensures _ _ fields good
          c.put_card.ensures.wrote (search rules) (rw here) c.loop-place.invariant.2),
      rw next counted,
      end,
      search rules,
    )

pub returns : goal.returns
returns c =
    let s = c.loop-place.place-iterator in
    grind (arith, common_steps, lay_end c.args.count (zip_first s).start (lines_left (zip_second s)) c.loop-place.invariant.3, lay_none c.args.count (zip_first s).start (lines_left (zip_second s)) c.loop-place.invariant.3)
