-- `strict_lines::put_lines` meets its contract. The loop's invariant: the lines of the cards passed are written, and the scratch line
-- has room for one.
-- Assumes nothing.
use Prim.Native.Nat.{◌≤◌}
use mathlib.Core.Path.{◌≡◌}
use lib.ListN.{length}
use Rattle.buffer.specs.Wrote.{Wrote}
use Rattle.header.specs.InTurn.{in_turn}
use Rattle.strict_lines.proofs.Turns.{lines_to}
use Rattle.strict_lines.proofs.put_lines.Given as goal

abbrev pub invariant-loop-place : goal.invariant-loop-place
invariant-loop-place l = (256 ≤ length l.line) × (length l.line ≡ length l.initial.line) × (l.written.bytes.ghost_name ≡ l.initial.written.bytes.ghost_name) × (length l.written.bytes.now ≡ length l.initial.written.bytes.now)
    × Wrote l.initial.written.bytes.now l.written.bytes.now 0 l.written.at (lines_to l.place (in_turn l.cards))
