use Rattle.std.proofs.Common.{arith, ap, ◌∙◌}
use Rattle.header.specs.InTurn.{in_turn}
use Rattle.edits.specs.Edits.{card_number}
use Rattle.edits.proofs.Cut.{place_unique}
use Rattle.edits.proofs.place_of.Goals as goal

pub returns-then-number-number_of : goal.returns-then-number-number_of
returns-then-number-number_of c =
    let here = c.number_of.ensures ∙ ap card_number c.at.ensures in place_unique c.args.number (in_turn c.args.cards) _ (omega arith) c.loop-place.invariant (λ h. omega (arith, here))

pub returns : goal.returns
returns c =
    place_unique c.args.number (in_turn c.args.cards) _ (omega arith) (λ k h. c.loop-place.invariant k (omega (arith, h)))
    (λ h. absurd (omega (arith, h)))
