-- `edits::put_cards` meets its contract. The loop's invariant: the cards passed are written, each as version 3 has it.
-- Assumes nothing.
use Rattle.std.proofs.Common.{◌≡◌, ◌+◌, ◌*◌, take, map}
use Rattle.std.specs.List.{concat}
use Rattle.buffer.specs.Puts.{Puts}
use Rattle.header.specs.InTurn.{in_turn}
use Rattle.seasons.specs.Seasons.{grown}
use Rattle.edits.proofs.put_cards.Given as goal

abbrev pub invariant-loop-place : goal.invariant-loop-place
invariant-loop-place l = Puts l.initial.out l.out (concat (take l.place (map grown (in_turn l.cards)))) × (l.out.at ≡ l.initial.out.at + 28 * l.place)
