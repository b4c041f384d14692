-- What the listing's inner functions ask of a register; the laws are in proofs/Laws.antt.
-- Assumes nothing.
use Rattle.std.specs.Prelude.{Result, Ok, Err}
use Rattle.farthest.specs.declared.Leaders.{Leaders}
use Rattle.refusals.specs.declared.SentBack.{SentBack}
use Rattle.std.specs.Prelude.{ℕ}

-- the register is accepted
abbrev pub IsAccepted : Result Leaders (SentBack ℕ) → Type 0
IsAccepted (Ok l) = Unit {0}
IsAccepted (Err sent) = ⊥
