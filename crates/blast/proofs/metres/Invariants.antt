-- `blast::metres` meets its contract. The invariant: every number below `low` is too small, and `low + span` is enough.
-- Assumes nothing.
use Rattle.blast.proofs.Halving.{Between}
use Rattle.blast.proofs.metres.Given as goal

abbrev pub invariant-loop-span : goal.invariant-loop-span
invariant-loop-span l = Between l.need l.low l.span

abbrev pub decreases-loop-span : goal.decreases-loop-span
decreases-loop-span l = l.span
