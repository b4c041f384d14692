-- `by_day::kept_through` meets its contract: what the walk ends with, held to the stored distances, is what is kept of the cards.
-- Assumes nothing.
use Rattle.header.specs.InTurn.{in_turn}
use Rattle.by_day.proofs.Walked.{walk_stopped, walk_refused, walk_kept}
use Rattle.by_day.proofs.kept_through.Goals as goal

pub returns-in-Err : goal.returns-in-Err
returns-in-Err g c = walk_stopped g.K.Keeps.after c.args.from c.args.stored (in_turn c.args.cards) c.through.result c.through.ensures c.in-Err.sent c.in-Err.is

pub returns-in-Err-held_to : goal.returns-in-Err-held_to
returns-in-Err-held_to g c =
    walk_refused g.K.Keeps.after c.args.from c.args.stored (in_turn c.args.cards) c.through.result c.through.ensures
    c.in-Ok.both.0 c.in-Ok.both.1 c.in-Ok.is c.held_to.result c.held_to.ensures c.in-Err-held_to.sent c.in-Err-held_to.is

pub returns-in-Ok-held_to : goal.returns-in-Ok-held_to
returns-in-Ok-held_to g c =
    walk_kept g.K.Keeps.after c.args.from c.args.stored (in_turn c.args.cards) c.through.result c.through.ensures
    c.in-Ok.both.0 c.in-Ok.both.1 c.in-Ok.is c.held_to.result c.held_to.ensures c.in-Ok-held_to.field-0 c.in-Ok-held_to.is
