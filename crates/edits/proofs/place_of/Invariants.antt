-- `edits::place_of` meets its contract. The loop's invariant: every card passed has a lower number.
-- Assumes nothing.
use Rattle.std.proofs.Common.{ℕ, ◌<◌, [], get_or}
use Rattle.header.specs.InTurn.{in_turn}
use Rattle.edits.specs.Edits.{card_number}
use Rattle.edits.proofs.place_of.Given as goal

abbrev pub invariant-loop-place : goal.invariant-loop-place
invariant-loop-place l = (k : ℕ) → k < l.place → card_number (get_or (in_turn l.cards) k []) < l.number
