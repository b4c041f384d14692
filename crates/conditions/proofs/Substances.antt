-- What the exhibits say of a CAS number, where it stands in them, and what conditions 7 and 16 make of it.
-- Assumes nothing.
use Rattle.std.specs.Prelude.{ℕ, ◌≡◌, refl, Bool, true, false, not, List, map}
use Rattle.std.proofs.Common.{◌∙◌, sym, ap, ap₂, subst}
use Rattle.search.specs.Laws.{clash}
use Rattle.search.specs.Places.{either, among, every, look_up}
use Rattle.search.specs.PlaceLaws.{look_none, look_found, among_one}
use Rattle.exhibits.specs.declared.Gas as gases
use Rattle.exhibits.specs.declared.Liquid as liquids
use Rattle.exhibits.specs.declared.Toxic.{Toxic}
use Rattle.exhibits.specs.declared.Toxic.TheVariants.{OfGas, OfLiquid, NotListed}
use Rattle.exhibits.specs.Printed.{GasLine, gas, LiquidLine, liquid, solution}
use Rattle.exhibits.specs.PrintedB1.{b1}
use Rattle.exhibits.specs.PrintedB2.{b2}
use Rattle.exhibits.specs.Exhibits.{gas_cas, liquid_cas, gas_in, liquid_in, factors_of, toxic_of}
use Rattle.solutions.specs.Solutions.{bad_percent, solution_of}
use Rattle.solutions.proofs.SolutionLaws.{a_line, out_of_range, not_listed, says}
use Rattle.fields.specs.Layout.{fields_of}
use Rattle.ranges.specs.Ranges.{is_out_of_range}
use Rattle.meaning.specs.Reading.{is_listed}
use Rattle.conditions.specs.Conditions.{of_gas, of_liquid, of_solution}

-- what the exhibits say of a CAS number, and in which of them it stands
pub data Seen (cas : ℕ) : Toxic → Type 0 where
  a_gas : (g : gases.Gas) → among cas (map gas_cas b1) ≡ true → among cas (map liquid_cas b2) ≡ false → Seen cas (OfGas g)
  a_liquid : (l : liquids.Liquid) → among cas (map gas_cas b1) ≡ false → among cas (map liquid_cas b2) ≡ true → l.corrections ≡ factors_of cas → Seen cas (OfLiquid l)
  neither : among cas (map gas_cas b1) ≡ false → among cas (map liquid_cas b2) ≡ false → Seen cas NotListed

-- no substance stands in both
apart : every (λ a. not (among a (map liquid_cas b2))) (map gas_cas b1) ≡ true
unfolding b1 b2 among
apart = refl

gas_seen : (cas : ℕ) (line : GasLine) → among cas (map gas_cas b1) ≡ true → among cas (map liquid_cas b2) ≡ false → Seen cas (gas_in line)
gas_seen cas (gas c e b d p) h k = a_gas (record { lfb = b; df = d; endpoint = e; plume = p }) h k

liquid_seen : (cas : ℕ) (line : LiquidLine) → liquid_cas line ≡ cas → among cas (map gas_cas b1) ≡ false → among cas (map liquid_cas b2) ≡ true → Seen cas (liquid_in line)
liquid_seen cas (liquid c e a b d p alt) q h k =
    a_liquid (record { lfa = a; lfb = b; df = d; endpoint = e; plume = p; alternative = alt; corrections = factors_of c }) h k (ap factors_of q)

pub seen : (cas : ℕ) → Seen cas (toxic_of cas)
unfolding toxic_of
seen cas = go (among cas (map gas_cas b1)) (among cas (map liquid_cas b2)) refl refl
  where
    go : (g l : Bool) → among cas (map gas_cas b1) ≡ g → among cas (map liquid_cas b2) ≡ l → Seen cas (look_up gas_cas gas_in cas b1 (look_up liquid_cas liquid_in cas b2 NotListed))
    go true l p q =
        let line = look_found gas_cas gas_in cas b1 (look_up liquid_cas liquid_in cas b2 NotListed) p in
        subst (Seen cas) (sym line.2) (gas_seen cas line.0 p (among_one cas (map gas_cas b1) (map liquid_cas b2) apart p))
    go false true p q =
        let line = look_found liquid_cas liquid_in cas b2 NotListed q in
        subst (Seen cas) (sym (look_none gas_cas gas_in cas b1 (look_up liquid_cas liquid_in cas b2 NotListed) p ∙ line.2)) (liquid_seen cas line.0 line.1 p q)
    go false false p q =
        subst (Seen cas)
        (sym (look_none gas_cas gas_in cas b1 (look_up liquid_cas liquid_in cas b2 NotListed) p ∙ look_none liquid_cas liquid_in cas b2 NotListed q))
        (neither p q)

-- ---- what is listed, and whether a concentration is out of range

pub pure_listed : (card : List ℕ) → either (of_gas card) (of_liquid card) ≡ is_listed (toxic_of (fields_of card).cas)
unfolding of_gas of_liquid
pure_listed card =
    elim (seen (fields_of card).cas) as (λ x _. either (of_gas card) (of_liquid card) ≡ is_listed x)
    [ a_gas _ p q ↦ ap₂ either p q | a_liquid _ p q _ ↦ ap₂ either p q | neither p q ↦ ap₂ either p q ]

pub pure_in_range : (cas : ℕ) → is_out_of_range (toxic_of cas) ≡ false
pure_in_range cas =
    elim (seen cas) as (λ x _. is_out_of_range x ≡ false)
    [ a_gas _ _ _ ↦ refl | a_liquid _ _ _ _ ↦ refl | neither _ _ ↦ refl ]

pub solution_listed : (card : List ℕ) → of_solution card ≡ is_listed (solution_of (fields_of card).cas (fields_of card).heat)
unfolding of_solution
solution_listed card =
    elim (says (fields_of card).cas (fields_of card).heat) as (λ x _. of_solution card ≡ is_listed x)
    [ a_line (solution _ _ _ _ _ _ _) l _ _ ↦ l | out_of_range l _ ↦ l | not_listed l ↦ l ]

pub solution_range : (cas tenths : ℕ) → is_listed (solution_of cas tenths) ≡ true → is_out_of_range (solution_of cas tenths) ≡ bad_percent cas tenths
solution_range cas tenths =
    elim (says cas tenths) as (λ x _. is_listed x ≡ true → is_out_of_range x ≡ bad_percent cas tenths)
    [ a_line (solution _ _ _ _ _ _ _) _ q _ ↦ λ _. sym q | out_of_range _ q ↦ λ _. sym q | not_listed _ ↦ λ h. clash (cc) ]
