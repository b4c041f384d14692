-- What other crates say by it; the laws are in proofs/CardLaws.antt.
-- Assumes nothing.
use Prim.Native.Nat.{ℕ, ◌<◌}
use mathlib.Core.List.{List}
use Rattle.buffer.specs.Numbers.{byte_at}

-- every byte is below 256; one past the end reads 0
abbrev pub AllBytes : List ℕ → Type 0
AllBytes bytes = (i : ℕ) → byte_at bytes i < 256
