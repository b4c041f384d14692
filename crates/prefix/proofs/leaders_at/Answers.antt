-- `prefix::leaders_at` meets its contract: the walk in two parts comes to the walk through all cards.
-- Assumes nothing.
use Rattle.header.specs.InTurn.{in_turn}
use Rattle.prefix.proofs.Ends.{first_stopped, others_room, rest_stopped, wrong_stored, all_passed}
use borrow.Author.Rules.{rules}
use Rattle.prefix.proofs.leaders_at.Goals as goal

pub returns-in_err-running : goal.returns-in_err-running
returns-in_err-running c =
    let q = c.in_err-running.was {u = tt} in
    let z = first_stopped (in_turn c.args.cards) _ _ c.args.stored c.args.first c.requires.0 c.split_at.ensures.front c.split_at.ensures.behind _ c.through.ensures.value _ q in search (z, rules)

pub along-requires : goal.along-requires
along-requires c = let q = c.in_ok-running.was {u = tt} in search (others_room, q, rules)

pub returns-in_err-whole : goal.returns-in_err-whole
returns-in_err-whole c =
    let q = c.in_ok-running.was {u = tt} in
    let w = c.in_err-whole.was {u = tt} in
    let z = rest_stopped (in_turn c.args.cards) _ _ c.args.stored c.args.first c.requires.0 c.split_at.ensures.front c.split_at.ensures.behind _ c.through.ensures.value _ _ q _ c.along.ensures.value _ w in search (z, rules)

pub returns-in_err-held_to : goal.returns-in_err-held_to
returns-in_err-held_to c =
    let q = c.in_ok-running.was {u = tt} in
    let w = c.in_ok-whole.was {u = tt} in
    let h = c.in_err-held_to.was {u = tt} in
    let z = wrong_stored (in_turn c.args.cards) _ _ c.args.stored c.args.first c.requires.0 c.split_at.ensures.front c.split_at.ensures.behind _ c.through.ensures.value _ _ q _ c.along.ensures.value _ _ w _ c.held_to.ensures _ h in search (z, rules)

pub returns : goal.returns
returns c =
    let q = c.in_ok-running.was {u = tt} in
    let w = c.in_ok-whole.was {u = tt} in
    let h = c.in_ok-held_to.was {u = tt} in search (all_passed, q, w, h, rules)
