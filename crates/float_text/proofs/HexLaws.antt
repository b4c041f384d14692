-- The pattern has its length, and it is right: reading it gives the float.
-- Assumes nothing.
use Rattle.std.specs.Prelude.{◌≡◌, T, length, from_bits, to_bits, Float}
use Rattle.std.proofs.Common.{arith, ap, ◌∙◌}
use Rattle.std.specs.Float.{binary64}
use Rattle.std.specs.Float.Ieee.{fits}
use Rattle.std.specs.Float.Ieee.Bits.{of_bits-to_bits, to_bits-lt}
use Rattle.decimal.specs.Digits.{read_in}
use Rattle.decimal.proofs.DigitLaws.{length_in, in_read}
use Rattle.float_text.specs.Hex.{pattern_of}

pub pattern_length : (x : Float) → length (pattern_of x) ≡ 16
unfolding pattern_of
pattern_length x = length_in 16 16 (to_bits binary64 x)

-- reading a pattern gives the float, and so every bit of it
pub pattern_read : (x : Float) → T (fits binary64 x) → from_bits binary64 (read_in 16 0 (pattern_of x)) ≡ x
unfolding pattern_of
pattern_read x h =
    ap (from_bits binary64) (in_read 16 16 (to_bits binary64 x) (omega arith) (to_bits-lt binary64 x h)) ∙ of_bits-to_bits binary64 x h
