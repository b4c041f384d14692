-- What reading answers of its buffer.
-- Assumes nothing.
use Rattle.std.specs.Prelude.{ℕ, ◌≤◌, ◌≡◌, Result, Ok, IfOk}
use Rattle.std.proofs.Common.{subst}

-- the bytes that were read lie within the buffer
abbrev pub Within : {E : Type 0} → ℕ → Result ℕ E → Type 0
Within room x = IfOk x (λ n. n ≤ room)

-- so a part of it may be lent
pub read_part : (room n : ℕ) {E : Type 0} {x : Result ℕ E} → x ≡ Ok n → Within room x → n ≤ room
read_part room n e w = subst (Within room) e w
