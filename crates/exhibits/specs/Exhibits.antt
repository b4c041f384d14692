-- What the exhibits say of a CAS number.
-- Assumes nothing.
use Rattle.std.specs.Prelude.{ℕ}
use Rattle.search.specs.Places.{look_up}
use Rattle.exhibits.specs.declared.Cell.TheVariants.{NoData}
use Rattle.exhibits.specs.declared.Plume.{Plume}
use Rattle.exhibits.specs.declared.Plume.TheVariants.{Neutral}
use Rattle.exhibits.specs.declared.Corrections.{Corrections}
use Rattle.exhibits.specs.declared.Toxic.{Toxic}
use Rattle.exhibits.specs.declared.Toxic.TheVariants.{OfGas, OfLiquid, OfSolution, OutOfRange, NotListed}
use Rattle.exhibits.specs.Printed.{GasLine, gas, LiquidLine, liquid, FactorLine, factors}
use Rattle.exhibits.specs.PrintedB1.{b1}
use Rattle.exhibits.specs.PrintedB2.{b2}
use Rattle.exhibits.specs.PrintedB4.{b4}

-- the CAS number of a line
abbrev pub gas_cas : GasLine → ℕ
gas_cas (gas c e b d p) = c

abbrev pub liquid_cas : LiquidLine → ℕ
liquid_cas (liquid c e a b d p alt) = c

abbrev pub factor_cas : FactorLine → ℕ
factor_cas (factors c t30 t35 t40 t45 t50) = c

-- what a line of Exhibit B-4 says
abbrev pub factors_in : FactorLine → Corrections
factors_in (factors c t30 t35 t40 t45 t50) = record { at30 = t30; at35 = t35; at40 = t40; at45 = t45; at50 = t50 }

abbrev pub no_data : Corrections
no_data = record { at30 = NoData; at35 = NoData; at40 = NoData; at45 = NoData; at50 = NoData }

-- "TCF the temperature factor of Exhibit B-4"; a liquid without a line there has no data in any column
unfoldable pub factors_of : ℕ → Corrections
factors_of cas = look_up factor_cas factors_in cas b4 no_data

-- what a line of Exhibit B-1 says
abbrev pub gas_in : GasLine → Toxic
gas_in (gas c e b d p) = OfGas (record { lfb = b; df = d; endpoint = e; plume = p })

-- what a line of Exhibit B-2 says, with the factors of B-4
abbrev pub liquid_in : LiquidLine → Toxic
liquid_in (liquid c e a b d p alt) =
    OfLiquid (record { lfa = a; lfb = b; df = d; endpoint = e; plume = p; alternative = alt; corrections = factors_of c })

-- "Toxic gases are those of Exhibit B-1, liquids those of B-2"
unfoldable pub toxic_of : ℕ → Toxic
toxic_of cas = look_up gas_cas gas_in cas b1 (look_up liquid_cas liquid_in cas b2 NotListed)

-- document 02, A6: "gases by B-1, the rest by the alternative-case column"; a substance that is not read has none
abbrev pub alternative_plume : Toxic → Plume
alternative_plume (OfGas g) = g.plume
alternative_plume (OfLiquid l) = l.alternative
alternative_plume (OfSolution s) = s.alternative
alternative_plume OutOfRange = Neutral
alternative_plume NotListed = Neutral
