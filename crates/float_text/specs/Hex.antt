-- A float's bits as text, in ASCII.
-- Assumes nothing.
use Rattle.std.specs.Prelude.{ℕ, List, to_bits, Float}
use Rattle.std.specs.Float.{binary64}
use Rattle.decimal.specs.Digits.{digits_in}

-- the 64-bit pattern as sixteen hex digits, so that a record keeps every bit
unfoldable pub pattern_of : Float → List ℕ
pattern_of x = digits_in 16 16 (to_bits binary64 x)
