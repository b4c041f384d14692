-- Which table serves a toxic card, as document 01 gives it under 'Which table', and document 02 in A3 for state 5.
-- Assumes nothing.
use Rattle.std.specs.Prelude.{ℕ, Bool, true, false, eqb}
use Rattle.exhibits.specs.declared.Plume.{Plume}
use Rattle.exhibits.specs.declared.Plume.TheVariants.{Neutral, Dense}
use Rattle.dispersion.specs.declared.Ground.{Ground}
use Rattle.dispersion.specs.declared.Ground.TheVariants.{Rural, Urban}
use Rattle.which_table.specs.declared.State.{State}
use Rattle.which_table.specs.declared.State.TheVariants.{Gas, Pressurized, Refrigerated, Liquid, Solution}

-- "Other toxics: dense in states 2 and 3, else as the exhibit's worst-case column says."
abbrev pub plume_in : State → Plume → Plume
plume_in Gas p = p
plume_in Pressurized p = Dense
plume_in Refrigerated p = Dense
plume_in Liquid p = p
plume_in Solution p = p

-- "Neutral: Tables 1, 2 rural at 10 and 60 minutes, 3, 4 urban. Dense: 5, 6 rural, 7, 8 urban."
abbrev pub generic_table : Plume → Ground → Bool → ℕ
generic_table Neutral Rural true = 1
generic_table Neutral Rural false = 2
generic_table Neutral Urban true = 3
generic_table Neutral Urban false = 4
generic_table Dense Rural true = 5
generic_table Dense Rural false = 6
generic_table Dense Urban true = 7
generic_table Dense Urban false = 8

-- State 5 has "always a 10-minute table"; the others have it where route or duration selects it.
abbrev pub ten_minutes_in : State → Bool → Bool
ten_minutes_in Gas ten = ten
ten_minutes_in Pressurized ten = ten
ten_minutes_in Refrigerated ten = ten
ten_minutes_in Liquid ten = ten
ten_minutes_in Solution ten = true

-- "Ammonia (CAS 7664417): Table 9 in state 2, else 10"; "aqueous ammonia reads Table 10".
abbrev pub ammonia_table : State → ℕ
ammonia_table Gas = 10
ammonia_table Pressurized = 9
ammonia_table Refrigerated = 10
ammonia_table Liquid = 10
ammonia_table Solution = 10

-- "Chlorine: 11. Sulfur dioxide (7446095): 12." The last argument says whether route or duration selects the 10-minute table.
unfoldable pub table_of : ℕ → State → Plume → Ground → Bool → ℕ
table_of cas state plume topography ten =
    elim (eqb cas 7664417) [
      | true ↦ ammonia_table state
      | false ↦
          elim (eqb cas 7782505) [
            | true ↦ 11
            | false ↦ elim (eqb cas 7446095) [ true ↦ 12 | false ↦ generic_table (plume_in state plume) topography (ten_minutes_in state ten) ]
          ]
    ]
