-- What a reader is shown of a likely distance, a 64-bit float in hundredths of a mile: the least whole number not below it.
-- Defined for every float, and meant for a number from 0 to 2,500, which 25 miles are.
-- Assumes nothing.
use Rattle.std.specs.Prelude.{ℕ, suc, true, false, Float}
use Rattle.std.specs.Float.Ieee.{lt, to_unsigned}
use Rattle.interpolation.specs.Interpolation.{float_of}

-- the miles with two decimals rounded up (a ring is never shown smaller than it is): hundredths of a mile, rounded up
unfoldable pub up_of : Float → ℕ
up_of x = let whole = to_unsigned 64 x in elim (lt (float_of whole) x) [ true ↦ suc whole | false ↦ whole ]
