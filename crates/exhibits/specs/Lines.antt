-- The fields of what the exhibits' lines say of a substance.
-- Assumes nothing.
use Rattle.std.specs.Prelude.{ℕ}
use Rattle.exhibits.specs.declared.Plume.{Plume}
use Rattle.exhibits.specs.declared.Plume.TheVariants.{Neutral, Dense}
use Rattle.exhibits.specs.declared.Corrections.{Corrections}
use Rattle.exhibits.specs.declared.Toxic.{Toxic}
use Rattle.exhibits.specs.declared.Toxic.TheVariants.{OfGas, OfLiquid, OfSolution, OutOfRange, NotListed}
use Rattle.exhibits.specs.Exhibits.{no_data}

-- a field of a substance; one that it does not have is 0, or no data
abbrev pub lfa_of : Toxic → ℕ
lfa_of (OfGas g) = 0
lfa_of (OfLiquid l) = l.lfa
lfa_of (OfSolution s) = s.lfa
lfa_of OutOfRange = 0
lfa_of NotListed = 0

abbrev pub lfb_of : Toxic → ℕ
lfb_of (OfGas g) = g.lfb
lfb_of (OfLiquid l) = l.lfb
lfb_of (OfSolution s) = 0
lfb_of OutOfRange = 0
lfb_of NotListed = 0

abbrev pub df_of : Toxic → ℕ
df_of (OfGas g) = g.df
df_of (OfLiquid l) = l.df
df_of (OfSolution s) = s.df
df_of OutOfRange = 0
df_of NotListed = 0

abbrev pub endpoint_of : Toxic → ℕ
endpoint_of (OfGas g) = g.endpoint
endpoint_of (OfLiquid l) = l.endpoint
endpoint_of (OfSolution s) = s.endpoint
endpoint_of OutOfRange = 0
endpoint_of NotListed = 0

abbrev pub corrections_of : Toxic → Corrections
corrections_of (OfGas g) = no_data
corrections_of (OfLiquid l) = l.corrections
corrections_of (OfSolution s) = no_data
corrections_of OutOfRange = no_data
corrections_of NotListed = no_data

-- a plume as a number
abbrev pub dense_of : Plume → ℕ
dense_of Neutral = 0
dense_of Dense = 1
