-- `edits::around` meets its contract: the cards are cut at the place, and behind the card of the number.
-- Assumes nothing.
use Rattle.std.proofs.Common.{arith}
use Rattle.header.specs.InTurn.{in_turn}
use Rattle.header.proofs.Turns.{counted}
use Rattle.edits.proofs.Cut.{place_within, named_within}
use Rattle.edits.proofs.around.Goals as goal

pub split_at-requires : goal.split_at-requires
split_at-requires c = let k = place_within c.args.number (in_turn c.args.cards) _ c.place_of.ensures in omega (arith, k, counted c.args.cards)

pub split_at-requires-2 : goal.split_at-requires-2
split_at-requires-2 c = let k = named_within c.args.number (in_turn c.split_at.result.1) _ c.named_in.ensures in omega (arith, k, counted c.split_at.result.1)
