-- `edit::change` meets its contract: 19, then 20, then what comes of the cards as they would then be.
-- Assumes nothing.
use Rattle.std.proofs.Common.{rules, arith}
use Rattle.header.specs.InTurn.{in_turn}
use Rattle.edit.proofs.Stages.{counted_way, front_given, behind_given, sent_length, sent_laid, way_sent, few, known, way_length, way_laid}
use Rattle.edit.proofs.change.Goals as goal

pub returns-in_err-in_the_way-clause-value : goal.returns-in_err-in_the_way-clause-value
returns-in_err-in_the_way-clause-value c =
    let e = counted_way c.args.wanted c.args.room (in_turn c.around.result.0) (in_turn c.args.brought) (in_turn c.around.result.2) (in_turn c.args.cards) c.in_the_way.result (omega arith) (omega arith) (omega arith) c.in_the_way.ensures in
    let q = c.in_ok-before.was {u = tt} in
    let r = c.in_err-in_the_way.was {u = tt} in
    let z = sent_length _ _ (way_sent c.args.stored c.args.number c.args.wanted (in_turn c.args.brought) (in_turn c.args.cards) c.args.room (in_turn c.around.result.0) (in_turn c.around.result.1) (in_turn c.around.result.2) c.around.ensures.all c.around.ensures.low c.around.ensures.high c.walk_around.result c.walk_around.ensures _ _ q c.in_the_way.result e _ r) in search (z, rules)

pub returns-in_err-in_the_way-clause-laid : goal.returns-in_err-in_the_way-clause-laid
returns-in_err-in_the_way-clause-laid c =
    let e = counted_way c.args.wanted c.args.room (in_turn c.around.result.0) (in_turn c.args.brought) (in_turn c.around.result.2) (in_turn c.args.cards) c.in_the_way.result (omega arith) (omega arith) (omega arith) c.in_the_way.ensures in
    let q = c.in_ok-before.was {u = tt} in
    let r = c.in_err-in_the_way.was {u = tt} in
    let z = sent_laid _ _ (way_sent c.args.stored c.args.number c.args.wanted (in_turn c.args.brought) (in_turn c.args.cards) c.args.room (in_turn c.around.result.0) (in_turn c.around.result.1) (in_turn c.around.result.2) c.around.ensures.all c.around.ensures.low c.around.ensures.high c.walk_around.result c.walk_around.ensures _ _ q c.in_the_way.result e _ r) in search (z, rules)

pub lay-requires-clause-few : goal.lay-requires-clause-few
lay-requires-clause-few c =
    let e = counted_way c.args.wanted c.args.room (in_turn c.around.result.0) (in_turn c.args.brought) (in_turn c.around.result.2) (in_turn c.args.cards) c.in_the_way.result (omega arith) (omega arith) (omega arith) c.in_the_way.ensures in
    let q = c.in_ok-before.was {u = tt} in
    let r = c.in_ok-in_the_way.was {u = tt} in few c.args.stored c.args.number c.args.wanted (in_turn c.args.brought) (in_turn c.args.cards) c.args.room (in_turn c.around.result.0) (in_turn c.around.result.1) (in_turn c.around.result.2) c.around.ensures.all c.around.ensures.low c.around.ensures.high c.walk_around.result c.walk_around.ensures _ _ q c.in_the_way.result e r

pub lay-requires-clause-known : goal.lay-requires-clause-known
lay-requires-clause-known c =
    let q = c.in_ok-before.was {u = tt} in
    known c.args.stored c.args.number c.args.wanted (in_turn c.args.brought) (in_turn c.args.cards) c.args.room (in_turn c.around.result.0) (in_turn c.around.result.1) (in_turn c.around.result.2) c.around.ensures.all c.around.ensures.low c.around.ensures.high c.walk_around.result c.walk_around.ensures _ _ q c.requires.2

pub returns-clause-value : goal.returns-clause-value
returns-clause-value c =
    let e = counted_way c.args.wanted c.args.room (in_turn c.around.result.0) (in_turn c.args.brought) (in_turn c.around.result.2) (in_turn c.args.cards) c.in_the_way.result (omega arith) (omega arith) (omega arith) c.in_the_way.ensures in
    let q = c.in_ok-before.was {u = tt} in
    let r = c.in_ok-in_the_way.was {u = tt} in way_length c.args.stored c.args.number c.args.wanted (in_turn c.args.brought) (in_turn c.args.cards) c.args.room (in_turn c.around.result.0) (in_turn c.around.result.1) (in_turn c.around.result.2) c.around.ensures.all c.around.ensures.low c.around.ensures.high c.walk_around.result c.walk_around.ensures _ _ q c.in_the_way.result e r _ c.lay.ensures.value

pub returns-clause-laid : goal.returns-clause-laid
returns-clause-laid c =
    let e = counted_way c.args.wanted c.args.room (in_turn c.around.result.0) (in_turn c.args.brought) (in_turn c.around.result.2) (in_turn c.args.cards) c.in_the_way.result (omega arith) (omega arith) (omega arith) c.in_the_way.ensures in
    let q = c.in_ok-before.was {u = tt} in
    let r = c.in_ok-in_the_way.was {u = tt} in way_laid c.args.stored c.args.number c.args.wanted (in_turn c.args.brought) (in_turn c.args.cards) c.args.room (in_turn c.around.result.0) (in_turn c.around.result.1) (in_turn c.around.result.2) c.around.ensures.all c.around.ensures.low c.around.ensures.high c.walk_around.result c.walk_around.ensures _ _ q c.in_the_way.result e r _ c.lay.ensures.laid

pub lay-requires-clause-given : goal.lay-requires-clause-given
lay-requires-clause-given c = (
  front_given (in_turn c.around.result.0) (in_turn c.around.result.1) (in_turn c.around.result.2) (in_turn c.args.cards) c.around.ensures.all c.requires.3,
  c.requires.4,
  behind_given (in_turn c.around.result.0) (in_turn c.around.result.1) (in_turn c.around.result.2) (in_turn c.args.cards) c.around.ensures.all c.requires.3,
)
