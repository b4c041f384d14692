-- `edit_walk::walk_around` meets its contract: three parts are all cards, and their leads, merged, those of all.
-- Assumes nothing.
use Rattle.std.proofs.Common.{arith, rules}
use Rattle.header.specs.InTurn.{in_turn}
use Rattle.edit_walk.proofs.Parts.{before_place, with_place, before_sent_back, with_sent_back, after_sent_back, wrongly_stored, rightly_stored}
use Rattle.edit_walk.proofs.walk_around.Goals as goal

pub returns-in_err-before : goal.returns-in_err-before
returns-in_err-before c =
    let q = c.in_err-before.was {u = tt} in
    let z = before_sent_back c.args.stored (in_turn c.args.front) (in_turn c.args.named) (in_turn c.args.behind) c.start.result c.start.ensures c.part.result c.part.ensures _ q in search (z, rules)

pub part-requires-2 : goal.part-requires-2
part-requires-2 c =
    let q = c.in_ok-before.was {u = tt} in
    let z = before_place c.args.stored (in_turn c.args.front) (in_turn c.args.named) (in_turn c.args.behind) c.start.result c.start.ensures c.part.result c.part.ensures _ q in omega (arith, z, c.requires)

pub returns-in_err-with : goal.returns-in_err-with
returns-in_err-with c =
    let q = c.in_ok-before.was {u = tt} in
    let r = c.in_err-with.was {u = tt} in
    let z = with_sent_back c.args.stored (in_turn c.args.front) (in_turn c.args.named) (in_turn c.args.behind) c.start.result c.start.ensures c.part.result c.part.ensures _ q c.part-2.result c.part-2.ensures _ r in search (z, rules)

pub part-requires-3 : goal.part-requires-3
part-requires-3 c =
    let q = c.in_ok-before.was {u = tt} in
    let r = c.in_ok-with.was {u = tt} in
    let z = with_place c.args.stored (in_turn c.args.front) (in_turn c.args.named) (in_turn c.args.behind) c.start.result c.start.ensures c.part.result c.part.ensures _ q c.part-2.result c.part-2.ensures _ r in omega (arith, z, c.requires)

pub returns-in_err-after : goal.returns-in_err-after
returns-in_err-after c =
    let q = c.in_ok-before.was {u = tt} in
    let r = c.in_ok-with.was {u = tt} in
    let w = c.in_err-after.was {u = tt} in
    let z = after_sent_back c.args.stored (in_turn c.args.front) (in_turn c.args.named) (in_turn c.args.behind) c.start.result c.start.ensures c.part.result c.part.ensures _ q c.part-2.result c.part-2.ensures _ r c.part-3.result c.part-3.ensures _ w in search (z, rules)

pub returns-in_err-held_to : goal.returns-in_err-held_to
returns-in_err-held_to c =
    let q = c.in_ok-before.was {u = tt} in
    let r = c.in_ok-with.was {u = tt} in
    let w = c.in_ok-after.was {u = tt} in
    let n = c.in_err-held_to.was {u = tt} in
    let z = wrongly_stored c.args.stored (in_turn c.args.front) (in_turn c.args.named) (in_turn c.args.behind) c.start.result c.start.ensures c.part.result c.part.ensures _ q c.part-2.result c.part-2.ensures _ r c.part-3.result c.part-3.ensures _ w _ _ c.merge.ensures c.merge-leaders.ensures c.held_to.result c.held_to.ensures _ n in search (z, rules)

pub returns : goal.returns
returns c =
    let q = c.in_ok-before.was {u = tt} in
    let r = c.in_ok-with.was {u = tt} in
    let w = c.in_ok-after.was {u = tt} in
    let d = c.in_ok-held_to.was {u = tt} in search (rightly_stored, q, r, w, d, rules)
