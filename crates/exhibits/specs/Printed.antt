-- The shapes of the printed lines of Exhibits B-1 to B-4. Endpoints are in hundred-thousandths of mg/L, LFA and LFB
-- in millionths, DF and the factors in hundredths.
-- Assumes nothing.
use Rattle.std.specs.Prelude.{ℕ}
use Rattle.exhibits.specs.declared.Cell.{Cell}
use Rattle.exhibits.specs.declared.Plume.{Plume}

-- a toxic gas: CAS number, endpoint, LFB, DF and the plume, in one column for both cases
pub data GasLine : Type 0 where
  gas : ℕ → ℕ → ℕ → ℕ → Plume → GasLine

-- a toxic liquid: CAS number, endpoint, LFA, LFB, DF, and the worst-case and the alternative-case plume
pub data LiquidLine : Type 0 where
  liquid : ℕ → ℕ → ℕ → ℕ → ℕ → Plume → Plume → LiquidLine

-- a water solution, or oleum, at a printed concentration: CAS number, tenths of a percent by weight, endpoint, LFA, DF, and the
-- worst-case and the alternative-case plume
pub data SolutionLine : Type 0 where
  solution : ℕ → ℕ → ℕ → ℕ → ℕ → Plume → Plume → SolutionLine

-- the temperature factors of a liquid: CAS number, and a cell for each of 30, 35, 40, 45 and 50 °C
pub data FactorLine : Type 0 where
  factors : ℕ → Cell → Cell → Cell → Cell → Cell → FactorLine
