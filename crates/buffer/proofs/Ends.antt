-- The bytes of a number are std's, the highest first.
-- Assumes nothing.
use Rattle.std.specs.Prelude.{ℕ, ◌≡◌, refl}
use Rattle.std.proofs.Common.{arith}
use Rattle.std.specs.Int.{w16, w32, w64, to_be_bytes}
use Rattle.buffer.specs.Numbers.{two_bytes, four_bytes, eight_bytes}

pub two_be : (n : ℕ) → two_bytes n ≡ to_be_bytes w16 n
unfolding two_bytes
two_be n = refl

pub four_be : (n : ℕ) → four_bytes n ≡ to_be_bytes w32 n
unfolding two_bytes four_bytes
four_be n = grind arith

pub eight_be : (n : ℕ) → eight_bytes n ≡ to_be_bytes w64 n
unfolding two_bytes four_bytes eight_bytes
eight_be n = grind arith
