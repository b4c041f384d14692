-- `numerals::read_on` meets its contract. What was read so far, with the digits that are left, gives what the whole gives.
-- Assumes nothing.
use Rattle.std.specs.Prelude.{◌≡◌, ◌≤◌, drop}
use Rattle.numerals.specs.Numerals.{read_on}
use Rattle.numerals.proofs.read_on.Given as goal

abbrev pub invariant-loop-b : goal.invariant-loop-b
invariant-loop-b l = (read_on l.most l.so_far l.digits ≡ read_on l.most l.value (drop l.b-index l.digits)) × (l.value ≤ l.most)
