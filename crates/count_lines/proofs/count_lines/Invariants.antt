-- `count_lines::count_lines` meets its contract: the lines passed, with what those that are left come to, are what the text comes to.
-- Assumes nothing.
use mathlib.Core.Path.{◌≡◌}
use Prim.Native.Nat.{◌+◌, ◌≤◌}
use lib.ListN.{length}
use Rattle.comma.specs.Text.{cards_in, cards_from}
use Rattle.count_lines.specs.Count.{count_from}
use Rattle.count_lines.specs.Left.{lines_left}
use Rattle.count_lines.proofs.count_lines.Given as goal

abbrev pub invariant-loop-line : goal.invariant-loop-line
invariant-loop-line l =
    goal.iterator-loop-line.can_next l.line-iterator
    × goal.iterator-loop-line.is_finite l.line-iterator
    × (count_from 0 (cards_in l.text) ≡ count_from l.count (cards_from (l.count + 1) (lines_left l.line-iterator)))
    × (l.count + length (lines_left l.line-iterator) ≤ length l.text)
