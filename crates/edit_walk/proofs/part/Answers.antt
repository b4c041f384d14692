-- `edit_walk::part` meets its contract: the walk that writes nothing, with the leads begun anew.
-- Assumes nothing.
use Rattle.std.proofs.Common.{rules}
use Rattle.header.specs.InTurn.{in_turn}
use Rattle.edit_walk.proofs.Parts.{walked_part, stopped_part}
use Rattle.edit_walk.proofs.part.Goals as goal

pub returns-in_err-end : goal.returns-in_err-end
returns-in_err-end c =
    let q = c.in_err-end.was {u = tt} in
    let z = stopped_part c.args.from (in_turn c.args.cards) c.no_leaders.ensures _ c.along.ensures.value _ q in search (z, rules)

pub returns : goal.returns
returns c = let q = c.in_ok-end.was {u = tt} in walked_part c.args.from (in_turn c.args.cards) c.no_leaders.ensures _ c.along.ensures.value _ _ q
