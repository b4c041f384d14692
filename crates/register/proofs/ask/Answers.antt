-- `register::ask` meets its contract: the end of the walk, held to the stored distances, is the call's answer.
-- Assumes nothing.
use Rattle.walk.specs.Walk.{nothing_of}
use Rattle.cards.proofs.Ends.{refused_result, held_result}
use borrow.Author.Rules.{rules}
use Rattle.register.proofs.ask.Goals as goal

pub returns-in_err-running : goal.returns-in_err-running
returns-in_err-running c =
    let q = c.in_err-running.was {u = tt} in
    let z = refused_result nothing_of c.args.stored _ _ c.through.ensures.value _ q in search (z, rules)

pub returns : goal.returns
returns c = let q = c.in_ok-running.was {u = tt} in search (held_result, q, rules)
