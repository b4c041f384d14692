-- Every likely distance that a table of rows answers is a number between 0 and 2,500, in hundredths of a mile, whatever the rate.
-- Assumes nothing.
use Rattle.std.specs.Prelude.{T, Float, Option, Some, None}
use Rattle.std.specs.Float.Ieee.{le}
use Rattle.interpolation.specs.declared.Likely.{Likely}
use Rattle.interpolation.specs.declared.Likely.TheVariants.{Printed, Interpolated, Limit}
use Rattle.interpolation.specs.Interpolation.{float_of}

-- a number between 0 and 2,500: `le` is false of a NaN
abbrev pub Number : Float → Type 0
Number x = T (le (float_of 0) x) × T (le x (float_of 2500))

-- the distance is such a number
abbrev pub Carries : Likely → Type 0
Carries (Printed x) = Number x
Carries (Interpolated x) = Number x
Carries (Limit x) = Number x

abbrev pub CarriesIn : Option Likely → Type 0
CarriesIn (Some l) = Carries l
CarriesIn None = Unit {0}
