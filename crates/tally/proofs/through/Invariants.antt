-- `tally::through` meets its contract. The loop's invariant: the place is that of the next card, and what is left of the walk, from the
-- running values and the value that is kept, comes to the whole walk.
-- Assumes nothing.
use Rattle.std.proofs.Common.{◌≡◌}
use Rattle.header.specs.InTurn.{in_turn}
use Rattle.tally.proofs.Turns.{Left}
use Rattle.tally.proofs.through.Given as goal

abbrev pub invariant-loop-place : goal.invariant-loop-place
invariant-loop-place g l =
    (l.running.place ≡ l.place) × (Left (in_turn l.cards) g.K.Keeps.after l.place l.running l.kept ≡ Left (in_turn l.cards) g.K.Keeps.after 0 l.initial.running l.initial.kept)
