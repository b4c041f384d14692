-- `walk::along` meets its contract. The loop's invariant: the place is that of the next card; what is left of the walk, from the
-- running values and the position, comes to the whole walk; what is written, with what is left to write behind it, is the whole text.
-- Assumes nothing.
use Prim.Native.Nat.{◌+◌, ◌≤◌, ◌*◌}
use mathlib.Core.Path.{◌≡◌}
use lib.ListN.{length}
use lib.Seq.{sets}
use Rattle.header.specs.InTurn.{in_turn}
use Rattle.walk.proofs.Turns.{Left, Unwritten}
use Rattle.walk.proofs.along.Given as goal

abbrev pub invariant-loop-place : goal.invariant-loop-place
invariant-loop-place g l =
    let told = g.W.Writes.text in
    let most = g.W.Writes.most in
    (l.written.bytes.ghost_name ≡ l.initial.written.bytes.ghost_name) × (l.running.place ≡ l.initial.running.place + l.place) × (l.written.at ≤ most * l.place) × (length l.written.bytes.now ≡ length l.initial.written.bytes.now)
    × (Left (in_turn l.cards) told most l.place l.running l.written.at ≡ Left (in_turn l.cards) told most 0 l.initial.running 0)
    × (sets l.written.bytes.now l.written.at (Unwritten (in_turn l.cards) told most l.place l.running) ≡ sets l.initial.written.bytes.now 0 (Unwritten (in_turn l.cards) told most 0 l.initial.running))
