-- The forms in which Reference Tables 1 to 12 are printed, and 14 to 25, each like the table thirteen below it. The tables themselves
-- stand in the crates `neutral`, `dense` and `dispersion`, and `likely_neutral`, `likely_dense` and `likely_tables`.
-- Assumes nothing.
use Rattle.std.specs.Prelude.{ℕ}

-- an entry as printed: a distance in hundredths of a mile, or one of the marks "<0.1", "#", ">25", "*", "**" and a blank
pub data Mark : Type 0 where
  miles : ℕ → Mark
  less hash more star stars blank : Mark

-- a range of Tables 1 to 4 with its distance: between two bounds, or above one, in tenths of (lbs/min)/(mg/L)
pub data Range : Type 0 where
  closed : ℕ → ℕ → Mark → Range
  above : ℕ → Mark → Range

-- a line of Tables 9 to 12: the rate in lbs/min, the rural and the urban distance
pub data Line : Type 0 where
  line : ℕ → Mark → Mark → Line
