-- A line of tests/vectors/rate.tsv: a card, its exact rate, and by how much its rate may be off. The lines stand in `Vectors`, and what is
-- proved of them in `Agreed`.
-- Assumes nothing.
use Rattle.std.specs.Prelude.{ℕ}
use Rattle.rate_gap.specs.Fractions.{Fraction, ◌over◌}

pub record RateLine : Type 0 where
  -- its 24 bytes as one number
  pub card : ℕ
  pub exact : Fraction
  pub slack : Fraction

-- a card, then numerator and denominator of each
abbrev pub rate : ℕ → ℕ → ℕ → ℕ → ℕ → RateLine
rate card n d m e = record { card = card; exact = n over d; slack = m over e }
