-- Two distances as text. Between rows of 160 at the rate 2,000 and of 190 at 3,000 the line at 2,001 is at 160.03 hundredths of a mile,
-- which two decimals do not hold: it is shown as 1.61 miles, and its bits are 406400f5c28f5c29. The float of 160 is shown as 1.60, and
-- its bits are 4064000000000000.
-- Assumes nothing.
use Rattle.std.specs.Prelude.{◌≡◌, [], ◌∷◌, refl, Float}
use Rattle.std.specs.Float.Ieee.{lt, add, sub, mul, div, of_int, to_unsigned, to_bits}
use Rattle.decimal.specs.Digits.{digit, digits_in}
use Rattle.decimal.specs.Decimal.{padded, digits_within, digits, fixed}
use Rattle.interpolation.specs.Interpolation.{float_of, row_of, line_between}
use Rattle.float_text.specs.RoundedUp.{up_of}
use Rattle.float_text.specs.Hex.{pattern_of}

abbrev between : Float
between = line_between (row_of 2000 160) (row_of 3000 190) (float_of 2001)

pub as_miles : (fixed 2 (up_of between) ≡ 49 ∷ 46 ∷ 54 ∷ 49 ∷ []) × (fixed 2 (up_of (float_of 160)) ≡ 49 ∷ 46 ∷ 54 ∷ 48 ∷ [])
unfolding padded digits_within digits fixed add sub mul div of_int lt to_unsigned up_of
as_miles = (refl, refl)

pub as_bits : (pattern_of between ≡ 52 ∷ 48 ∷ 54 ∷ 52 ∷ 48 ∷ 48 ∷ 102 ∷ 53 ∷ 99 ∷ 50 ∷ 56 ∷ 102 ∷ 53 ∷ 99 ∷ 50 ∷ 57 ∷ [])
    × (pattern_of (float_of 160) ≡ 52 ∷ 48 ∷ 54 ∷ 52 ∷ 48 ∷ 48 ∷ 48 ∷ 48 ∷ 48 ∷ 48 ∷ 48 ∷ 48 ∷ 48 ∷ 48 ∷ 48 ∷ 48 ∷ [])
unfolding add sub mul div of_int to_bits digit digits_in pattern_of
as_bits = (refl, refl)
