-- `read_lines::put_cards` meets its contract: the cards laid, with those that are left behind them, are the whole.
-- Assumes nothing.
use Rattle.std.specs.Prelude.{Ok}
use mathlib.Core.Path.{◌≡◌}
use Prim.Native.Nat.{◌+◌, ◌*◌}
use lib.ListN.{length}
use Rattle.std.specs.Iterator.Adapters.{zip_first, zip_second}
use Rattle.comma.specs.Text.{cards_in, cards_from}
use Rattle.count_lines.specs.Count.{count_from}
use Rattle.count_lines.specs.Left.{lines_left}
use Rattle.read_lines.specs.Walk.{laid_from}
use Rattle.read_lines.proofs.put_cards.Given as goal

abbrev pub invariant-loop-place : goal.invariant-loop-place
invariant-loop-place l =
    goal.iterator-loop-place.can_next l.place-iterator
    × goal.iterator-loop-place.is_finite l.place-iterator
    × (laid_from 7 (cards_in l.text) l.initial.out ≡ laid_from (7 + 24 * (zip_first l.place-iterator).start) (cards_from ((zip_first l.place-iterator).start + 1) (lines_left (zip_second l.place-iterator))) l.out)
    × (Ok l.count ≡ count_from (zip_first l.place-iterator).start (cards_from ((zip_first l.place-iterator).start + 1) (lines_left (zip_second l.place-iterator))))
    × ((zip_first l.place-iterator).end ≡ l.count)
    × (length l.out ≡ length l.initial.out)
