-- `cards::answer_through` meets its contract: what the buffer of its own holds is copied only where the walk accepted every card and no
-- wrong distance is stored.
-- Assumes nothing.
use Rattle.std.proofs.Common.{refl, rules}
use Rattle.buffer.proofs.Laws.{lent}
use Rattle.cards.proofs.Ends.{refused_result, refused_kept, held_result, held_kept, copied}
use Rattle.cards.proofs.answer_through.Goals as goal

pub returns-in_err-running-clause-value : goal.returns-in_err-running-clause-value
returns-in_err-running-clause-value c =
    let q = c.in_err-running.was {u = tt} in
    let z = refused_result _ c.args.stored _ _ c.through.ensures.value _ q in search (z, rules)

pub returns-in_err-running-clause-answers_after : goal.returns-in_err-running-clause-answers_after
returns-in_err-running-clause-answers_after c =
    let q = c.in_err-running.was {u = tt} in
    refused_kept _ c.args.stored _ _ c.through.ensures.value _ q c.args.answers.now

pub returns-in_err-leaders-clause-value : goal.returns-in_err-leaders-clause-value
returns-in_err-leaders-clause-value c =
    let q = c.in_ok-running.was {u = tt} in
    let w = c.in_err-leaders.was {u = tt} in
    let z = held_result _ c.args.stored _ _ c.through.ensures.value _ _ q _ c.held_to.ensures in search (z, w, rules)

pub returns-in_err-leaders-clause-answers_after : goal.returns-in_err-leaders-clause-answers_after
returns-in_err-leaders-clause-answers_after c =
    let q = c.in_ok-running.was {u = tt} in
    let w = c.in_err-leaders.was {u = tt} in
    held_kept _ c.args.stored _ _ c.through.ensures.value _ _ q _ c.held_to.ensures _ w c.args.answers.now

pub returns-clause-value : goal.returns-clause-value
returns-clause-value c =
    let q = c.in_ok-running.was {u = tt} in
    let w = c.in_ok-leaders.was {u = tt} in
    let z = held_result _ c.args.stored _ _ c.through.ensures.value _ _ q _ c.held_to.ensures in search (z, w, rules)

pub returns-clause-answers_after : goal.returns-clause-answers_after
returns-clause-answers_after c =
    let q = c.in_ok-running.was {u = tt} in
    let w = c.in_ok-leaders.was {u = tt} in
    copied _ _ _ c.through.ensures.value _ _ q _ c.held_to.ensures _ w _ _ _ _ _ _ c.through.ensures.out_after refl (search rules) (lent c.put_text.ensures (search rules)) (search rules)
