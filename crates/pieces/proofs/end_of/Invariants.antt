-- `pieces::end_of` meets its contract. The place reached, with the bytes before the first separator from there on, is the place asked for.
-- Assumes nothing.
use Rattle.std.specs.Prelude.{◌≡◌, ◌+◌, length, drop}
use Rattle.pieces.specs.Pieces.{before}
use Rattle.pieces.proofs.end_of.Given as goal

abbrev pub invariant-loop-place : goal.invariant-loop-place
invariant-loop-place l = length (before l.separator l.text) ≡ l.place + length (before l.separator (drop l.place l.text))
