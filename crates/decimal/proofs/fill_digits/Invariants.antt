-- `decimal::fill_digits` meets its contract. What is left to write and what is written, behind the place reached, are the whole.
-- Assumes nothing.
use Rattle.std.specs.Prelude.{◌≡◌, ◌++◌, length, drop}
use Rattle.decimal.specs.Digits.{digits_in}
use Rattle.decimal.proofs.fill_digits.Given as goal

abbrev pub invariant-loop-place : goal.invariant-loop-place
invariant-loop-place g l = (digits_in g.row.BASE (length l.initial.room) l.n ≡ digits_in g.row.BASE l.place l.rest ++ drop l.place l.room) × (length l.room ≡ length l.initial.room)
