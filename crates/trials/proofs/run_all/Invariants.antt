-- `trials::run_all` ends: each case begins behind the one before it, and within the cases.
-- Assumes nothing.
use Rattle.std.proofs.Common.{length, ◌-◌, ◌≤◌}
use Rattle.trials.proofs.run_all.Given as goal

abbrev pub invariant-loop-at : goal.invariant-loop-at
invariant-loop-at g l = l.at ≤ length l.cases

abbrev pub decreases-loop-at : goal.decreases-loop-at
decreases-loop-at g l = length l.cases - l.at
