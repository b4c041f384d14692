-- `edit::lay` meets its contract: nothing is laid where the card that is brought is sent back, and else the register stands at the start
-- of the buffer.
-- Assumes nothing.
use Rattle.std.proofs.Common.{arith, rules}
use Rattle.header.specs.InTurn.{in_turn}
use Rattle.edit.proofs.Stages.{sent_length, sent_laid, brought_place, brought_sent, brought_on, laid_length, laid_there}
use Rattle.edit.proofs.lay.Goals as goal

pub part-requires : goal.part-requires
part-requires c = let z = brought_place (in_turn c.args.front) (in_turn c.args.brought) (in_turn c.args.behind) _ _ c.requires.known in omega (arith, z, c.requires.few)

pub returns-in_err-with-clause-value : goal.returns-in_err-with-clause-value
returns-in_err-with-clause-value c =
    let q = c.in_err-with.was {u = tt} in
    let z = sent_length _ _ (brought_sent (in_turn c.args.front) (in_turn c.args.brought) (in_turn c.args.behind) _ _ c.requires.known c.part.result c.part.ensures _ q) in search (z, rules)

pub returns-in_err-with-clause-laid : goal.returns-in_err-with-clause-laid
returns-in_err-with-clause-laid c =
    let q = c.in_err-with.was {u = tt} in
    let z = sent_laid _ _ (brought_sent (in_turn c.args.front) (in_turn c.args.brought) (in_turn c.args.behind) _ _ c.requires.known c.part.result c.part.ensures _ q) in search (z, rules)

pub returns-clause-value : goal.returns-clause-value
returns-clause-value c =
    let q = c.in_ok-with.was {u = tt} in
    let z = brought_on (in_turn c.args.front) (in_turn c.args.brought) (in_turn c.args.behind) _ _ c.requires.known c.part.result c.part.ensures _ q _ _ c.merge.ensures c.merge-leaders.ensures in
    laid_length (in_turn c.args.front) (in_turn c.args.brought) (in_turn c.args.behind) _ z _ c.distances_of.ensures (search rules) _ (omega arith) c.put_header.ensures.wrote c.put_cards.ensures.wrote c.put_cards-2.ensures.wrote c.put_cards-3.ensures.wrote

pub returns-clause-laid : goal.returns-clause-laid
returns-clause-laid c =
    let q = c.in_ok-with.was {u = tt} in
    let z = brought_on (in_turn c.args.front) (in_turn c.args.brought) (in_turn c.args.behind) _ _ c.requires.known c.part.result c.part.ensures _ q _ _ c.merge.ensures c.merge-leaders.ensures in
    laid_there (in_turn c.args.front) (in_turn c.args.brought) (in_turn c.args.behind) _ z _ c.distances_of.ensures (search rules) _ (omega arith) c.put_header.ensures.wrote c.put_cards.ensures.wrote c.put_cards-2.ensures.wrote c.put_cards-3.ensures.wrote _ _ (search rules) (search rules) (search rules)
