use Rattle.std.proofs.Common.{arith, ap, sym, ◌∙◌, subst, ◌≡◌, ◌≤◌, ◌<◌, ◌+◌, ◌*◌, length, take, map, get_or, List, [], ℕ, take_all}
use Rattle.std.specs.List.{concat}
use Rattle.buffer.specs.Puts.{Puts}
use Rattle.seasons.specs.Seasons.{grown, Given}
use Rattle.header.specs.InTurn.{in_turn}
use Rattle.edits.proofs.Ends.{cards_turn, cards_place}
use Rattle.edits.proofs.Growing.{grown_at, grown_count, grown_sized}
use Rattle.edits.proofs.put_cards.Goals as goal

pub put_card-requires : goal.put_card-requires
put_card-requires c =
    let so_far = c.loop-place.invariant in
    let h : c.loop-place.place < length (in_turn c.args.cards) = omega arith in
    (omega (arith, so_far.1, so_far.0.long, c.requires.0, h), subst Given (sym c.at.ensures) (c.requires.1 c.loop-place.place h))

pub loop-place-preserved : goal.loop-place-preserved
loop-place-preserved c =
    let cards = in_turn c.args.cards in
    let so_far = c.loop-place.invariant in
    let h : c.loop-place.place < length cards = omega arith in
    let there : grown c.at.result.now ≡ get_or (map grown cards) c.loop-place.place [] = ap grown c.at.ensures ∙ sym (grown_at cards c.loop-place.place h) in
    let k : c.loop-place.place < length (map grown cards) = omega (arith, h, grown_count cards) in
    let roomy : c.args.out.now.at + 28 * length (map grown cards) ≤ length c.args.out.now.bytes.now = omega (arith, c.requires.0, grown_count cards) in (
      cards_turn 28 (map grown cards) (grown_sized cards c.requires.1) _ roomy c.loop-place.place k _ there _ so_far.0 so_far.1 _ c.put_card.ensures.wrote,
      cards_place 28 (map grown cards) (grown_sized cards c.requires.1) _ roomy c.loop-place.place k _ there _ so_far.0 so_far.1 _ c.put_card.ensures.wrote,
    )

pub returns-clause-wrote : goal.returns-clause-wrote
returns-clause-wrote c =
    let cards = map grown (in_turn c.args.cards) in
    let all : take c.loop-place.place cards ≡ cards = take_all c.loop-place.place cards (omega (arith, grown_count (in_turn c.args.cards))) in
    subst (λ (cs : List (List ℕ)). Puts c.args.out.now c.loop-place.out (concat cs)) all c.loop-place.invariant.0
