-- How a likely scenario reads a table of rows, as document 02 gives it in A6. Rates are in thousandths of a pound per minute,
-- distances in hundredths of a mile, as whole numbers where they are printed and as 64-bit floats where they are answered.
-- Floats and their operations are the logic's own account of IEEE 754.
-- Assumes nothing.
use Rattle.std.specs.Prelude.{ℕ, zero, suc, ◌-◌, true, false, List, length, pos, ◌==◌, nat_lt, slice_index, Float, Option, Some, None}
use Rattle.std.specs.Float.{binary64}
use Rattle.std.specs.Float.Ieee.{add, sub, mul, div, of_int}
use Rattle.search.specs.Rising.{first_at_least}
use Rattle.rules.specs.Rules.{mile_limit, in_use, thousandths}
use Rattle.interpolation.specs.declared.Row.{Row}
use Rattle.interpolation.specs.declared.Likely.{Likely}
use Rattle.interpolation.specs.declared.Likely.TheVariants.{Printed, Interpolated, Limit}

-- the float of a whole number
abbrev pub float_of : ℕ → Float
float_of n = of_int binary64 (pos n)

-- "with each row's rate and distance carried as a pair"
abbrev pub row_of : ℕ → ℕ → Row
row_of rate distance = record { rate = float_of rate; distance = float_of distance }

-- "The result is a 64-bit float in hundredths of a mile: d0 + (d1 - d0) × ((r - r0) / (r1 - r0)), rates in thousandths, in that order of
-- operations"
abbrev pub line_between : Row → Row → Float → Float
line_between low high r =
    add binary64 low.distance
    (mul binary64 (sub binary64 high.distance low.distance)
    (div binary64 (sub binary64 r low.rate) (sub binary64 high.rate low.rate)))

-- "An entry in use of 25 miles is the limit"; "A range or first entry under 25 miles counts as printed", and so does an entry at a printed
-- rate
unfoldable pub entry_read : ℕ → Likely
entry_read entry = elim (entry == mile_limit) [ true ↦ Limit (float_of entry) | false ↦ Printed (float_of entry) ]

-- Strictly between two rows, of rates r0 and r1 and entries in use d0 and d1: "we interpolate between rows". An entry of 25 miles "is
-- the limit, and so is the answer at any rate between it and the entry below".
unfoldable pub between_rows : ℕ → ℕ → ℕ → ℕ → ℕ → Likely
between_rows r0 d0 r1 d1 rate =
    elim (d1 == mile_limit) [
      | true ↦ Limit (float_of d1)
      | false ↦ Interpolated (line_between (row_of r0 d0) (row_of r1 d1) (float_of rate))
    ]

-- "above the last, the rule of 11": a last entry in use of 25 miles is answered, any other is beyond the table
unfoldable pub above_last : ℕ → Option Likely
above_last entry = elim (entry == mile_limit) [ true ↦ Some (Limit (float_of entry)) | false ↦ None ]

-- The answer by the first row whose rate is not below the supplied one. "Below the first row, the first entry is answered"; "At a
-- printed rate the answer is the printed entry exactly, by 01's entries in use."
abbrev pub by_first : ℕ → List ℕ → (ℕ → ℕ) → ℕ → Likely
by_first zero rates entry rate = entry_read (entry 0)
by_first (suc k) rates entry rate =
    elim (slice_index rates (suc k) == rate) [
      | true ↦ entry_read (entry (suc k))
      | false ↦ between_rows (slice_index rates k) (entry k) (slice_index rates (suc k)) (entry (suc k)) rate
    ]

-- what rows of these rates, in thousandths, and these entries in use, by their places, answer at a rate
unfoldable pub likely_at : List ℕ → (ℕ → ℕ) → ℕ → Option Likely
likely_at rates entry rate =
    elim (nat_lt (first_at_least rate rates) (length rates)) [
      | true ↦ Some (by_first (first_at_least rate rates) rates entry rate)
      | false ↦ above_last (entry (length rates - 1))
    ]

-- a table of rows: their rates in lbs/min, and their entries as printed in the column that is read
unfoldable pub likely_by_row : List ℕ → List ℕ → ℕ → Option Likely
likely_by_row rates entries rate = likely_at (thousandths rates) (in_use entries) rate
