-- The shape of a printed line of Exhibit C-1.
-- Assumes nothing.
use Rattle.std.specs.Prelude.{ℕ}

-- a flammable substance: its CAS number, and its heat of combustion in kilojoules per kilogram
pub data HeatLine : Type 0 where
  heat : ℕ → ℕ → HeatLine
