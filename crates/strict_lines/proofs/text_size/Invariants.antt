-- `strict_lines::text_size` meets its contract. The loop's invariant: the size is that of the lines of the cards passed, and no
-- line is longer than 256 bytes.
-- Assumes nothing.
use Prim.Native.Nat.{◌≤◌, ◌*◌}
use mathlib.Core.Path.{◌≡◌}
use lib.ListN.{length}
use Rattle.header.specs.InTurn.{in_turn}
use Rattle.strict_lines.proofs.Turns.{lines_to}
use Rattle.strict_lines.proofs.text_size.Given as goal

abbrev pub invariant-loop-place : goal.invariant-loop-place
invariant-loop-place l = (l.size ≤ 256 * l.place) × (length l.line ≡ length l.initial.line) × (l.size ≡ length (lines_to l.place (in_turn l.cards)))
