use Rattle.edits.proofs.Ends.{stands_grown}
use Rattle.edits.proofs.put_card.Goals as goal

pub returns-then-card-lt28-clause-wrote : goal.returns-then-card-lt28-clause-wrote
returns-then-card-lt28-clause-wrote c =
    stands_grown c.args.card.now c.if-card-lt28.true c.put_text.ensures c.put_two.ensures.wrote c.put_two-then-card-lt28.ensures.wrote
