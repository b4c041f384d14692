use Rattle.std.proofs.Common.{rules, arith, ◌<◌, ◌≤◌, length, ap, ◌∙◌}
use Rattle.header.specs.InTurn.{in_turn}
use Rattle.tally.specs.Tally.{kept_from}
use Rattle.tally.proofs.Turns.{turn_place, turn_left, refused_left, end_left}
use Rattle.tally.proofs.through.Goals as goal

pub step-requires : goal.step-requires
step-requires g c = search rules

pub returns-in-Err : goal.returns-in-Err
returns-in-Err g c =
    let cards = in_turn c.args.cards in
    let h : c.loop-place.place < length cards = omega arith in
    refused_left cards g.K.Keeps.after c.loop-place.place c.loop-place.running c.loop-place.kept h c.at.result.now c.at.ensures c.step.result c.step.ensures c.in-Err.sent _ c.in-Err.is c.loop-place.invariant.1
    ∙ ap (λ s. kept_from g.K.Keeps.after s c.args.from cards) c.start-running.ensures

pub loop-place-preserved : goal.loop-place-preserved
loop-place-preserved g c =
    let cards = in_turn c.args.cards in
    let h : c.loop-place.place < length cards = omega arith in
    let place = turn_place cards g.K.Keeps.after c.loop-place.place c.loop-place.running c.loop-place.kept h c.at.result.now c.at.ensures c.step.result c.step.ensures c.in-Ok.next c.in-Ok.answer 0 c.in-Ok.is (omega (arith, c.loop-place.invariant.0)) in
    let left = turn_left cards g.K.Keeps.after c.loop-place.place c.loop-place.running c.loop-place.kept h c.at.result.now c.at.ensures c.step.result c.step.ensures c.in-Ok.next c.in-Ok.answer c.keep-kept.result _ c.in-Ok.is c.keep-kept.ensures c.loop-place.invariant.1 in
    (omega (arith, place), left)

pub returns : goal.returns
returns g c =
    let cards = in_turn c.args.cards in
    let h : length cards ≤ c.loop-place.place = omega arith in
    end_left cards g.K.Keeps.after c.loop-place.place h c.loop-place.running c.loop-place.kept _ c.loop-place.invariant.1
    ∙ ap (λ s. kept_from g.K.Keeps.after s c.args.from cards) c.start-running.ensures
