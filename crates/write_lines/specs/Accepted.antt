-- An accepted register, as the writer takes it. It serves the proofs.
-- Assumes nothing.
use Rattle.std.specs.Prelude.{Result, Ok}
use Rattle.farthest.specs.declared.Leaders.{Leaders}
use Rattle.refusals.specs.declared.SentBack.{SentBack}
use Rattle.std.specs.Prelude.{ℕ}
use Rattle.farthest.specs.Farthest.{no_leaders}

-- a register that is accepted: what is written of it does not depend on its leaders
abbrev pub accepted : Result Leaders (SentBack ℕ)
accepted = Ok no_leaders
