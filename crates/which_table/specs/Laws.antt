-- No table of a worst case has a number above 12.
-- Assumes nothing.
use Rattle.std.specs.Prelude.{ℕ, ◌≤◌, Bool, true, false, eqb}
use Rattle.std.proofs.Common.{arith}
use Rattle.exhibits.specs.declared.Plume.{Plume}
use Rattle.exhibits.specs.declared.Plume.TheVariants.{Neutral, Dense}
use Rattle.dispersion.specs.declared.Ground.{Ground}
use Rattle.dispersion.specs.declared.Ground.TheVariants.{Rural, Urban}
use Rattle.which_table.specs.declared.State.{State}
use Rattle.which_table.specs.declared.State.TheVariants.{Gas, Pressurized, Refrigerated, Liquid, Solution}
use Rattle.which_table.specs.WhichTable.{ammonia_table, generic_table, plume_in, ten_minutes_in, table_of}

generic_within : (p : Plume) (g : Ground) (ten : Bool) → generic_table p g ten ≤ 12
generic_within Neutral Rural true = omega arith
generic_within Neutral Rural false = omega arith
generic_within Neutral Urban true = omega arith
generic_within Neutral Urban false = omega arith
generic_within Dense Rural true = omega arith
generic_within Dense Rural false = omega arith
generic_within Dense Urban true = omega arith
generic_within Dense Urban false = omega arith

ammonia_within : (s : State) → ammonia_table s ≤ 12
ammonia_within Gas = omega arith
ammonia_within Pressurized = omega arith
ammonia_within Refrigerated = omega arith
ammonia_within Liquid = omega arith
ammonia_within Solution = omega arith

pub table_within : (cas : ℕ) (s : State) (p : Plume) (g : Ground) (ten : Bool) → table_of cas s p g ten ≤ 12
unfolding table_of
table_within cas s p g ten = go (eqb cas 7664417) (eqb cas 7782505) (eqb cas 7446095)
  where
    go : (a c f : Bool)
        → elim a as (λ _. ℕ) [
          | true ↦ ammonia_table s
          | false ↦
              elim c as (λ _. ℕ) [
                | true ↦ 11
                | false ↦ elim f as (λ _. ℕ) [ true ↦ 12 | false ↦ generic_table (plume_in s p) g (ten_minutes_in s ten) ]
              ]
        ]
        ≤ 12
    go true c f = ammonia_within s
    go false true f = omega arith
    go false false true = omega arith
    go false false false = generic_within (plume_in s p) g (ten_minutes_in s ten)
