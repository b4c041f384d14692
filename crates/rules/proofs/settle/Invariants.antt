-- `rules::settle` meets its contract. The outer loop's invariant: every row passed has its cut point below the rate, and no
-- column is passed yet. The inner loop's: every column passed has its cut point below the endpoint. Each place is then the
-- first that is not below. Assumes nothing.
use Prim.Native.Nat.{ℕ, ◌≤◌, ◌<◌, ◌-◌}
use mathlib.Core.Path.{◌≡◌}
use lib.ListN.{length, get_or}
use Rattle.rules.proofs.settle.Given as goal

abbrev pub invariant-loop-column : goal.invariant-loop-column
invariant-loop-column l = (l.column ≤ length l.columns) × ((k : ℕ) → k < l.column → get_or l.columns k 0 < l.endpoint)

abbrev pub decreases-loop-column : goal.decreases-loop-column
decreases-loop-column l = length l.columns - l.column

abbrev pub invariant-rows : goal.invariant-rows
invariant-rows l = (l.row ≤ length l.rows) × ((k : ℕ) → k < l.row → get_or l.rows k 0 < l.rate) × (l.column ≡ 0)

abbrev pub decreases-rows : goal.decreases-rows
decreases-rows l = length l.rows - l.row
