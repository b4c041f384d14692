-- Condition 10 is what no scenario fits: the state, the dike and the cell of Exhibit B-4 that the card reads.
-- Assumes nothing.
use Rattle.std.specs.Prelude.{ℕ, zero, suc, ◌+◌, ◌≤◌, ◌<◌, ◌≡◌, Bool, not, List, [], ◌∷◌, eqb, get_or, ℤ, pos, negsuc, Some}
use Rattle.std.specs.Prelude.{is_none}
use Rattle.std.proofs.Common.{arith, ap, sym, ltb-false}
use Rattle.std.proofs.lemmas.Bool.Decides.{nat_tests}
use Rattle.std.proofs.Math.Path.{refl}
use Rattle.std.proofs.Math.Bool.{true, false}
use Rattle.std.specs.Int.Signed.{lt_z}
use Rattle.search.specs.Rising.{both}
use Rattle.search.specs.Laws.{clash}
use Rattle.search.specs.Places.{among}
use Rattle.exhibits.specs.declared.Cell.{Cell}
use Rattle.exhibits.specs.declared.Cell.TheVariants.{Factor, NoData}
use Rattle.exhibits.specs.declared.Corrections.{Corrections}
use Rattle.exhibits.specs.declared.Gas as gases
use Rattle.exhibits.specs.declared.Liquid as liquids
use Rattle.exhibits.specs.declared.Toxic.{Toxic}
use Rattle.exhibits.specs.declared.Toxic.TheVariants.{OfGas, OfLiquid, OfSolution, OutOfRange, NotListed}
use Rattle.exhibits.specs.Printed.{solution}
use Rattle.exhibits.specs.Exhibits.{toxic_of}
use Rattle.solutions.specs.Solutions.{solution_of}
use Rattle.solutions.proofs.SolutionLaws.{Says, a_line, out_of_range, not_listed, says}
use Rattle.rules.specs.Rules.{larger, closest}
use Rattle.release.specs.declared.Containment.{Containment}
use Rattle.release.specs.declared.Containment.TheVariants.{Open, Dike, Building, ShedWithDoors}
use Rattle.which_table.specs.declared.State.{State}
use Rattle.scenario.specs.declared.Tenths.{Tenths}
use Rattle.scenario.specs.declared.Tenths.TheVariants.{Temperature, Concentration}
use Rattle.scenario.specs.declared.ToxicCard.{ToxicCard}
use Rattle.scenario.specs.Plan.{gas_plan, column_in, liquid_plan, plan_for, plan_of}
use Rattle.factors.specs.Factors.{of_cell, column_of}
use Rattle.factors.specs.Factors as tabled
use Rattle.factors.specs.Columns.{columns, place_in, closest_for, columns_closest, colder}
use Rattle.buffer.specs.Numbers.{byte_at}
use Rattle.fields.specs.Layout.{fields_of}
use Rattle.form.specs.declared.Standing.{Standing}
use Rattle.form.specs.Form.{state_of, open_of, held_of}
use Rattle.ranges.specs.Ranges.{signed, is_out_of_range}
use Rattle.meaning.specs.Reading.{is_listed, substance_of}
use Rattle.meaning.specs.States.{by_state}
use Rattle.form.specs.Inverse.{Stands}
use Rattle.conditions.specs.Conditions.{any_of, of_gas, of_liquid, column_read, cell_read, without_data, above_fifty, mismatched}
use Rattle.conditions.proofs.Vessel.{card_with, card_from}
use Rattle.conditions.proofs.Substances.{Seen, a_gas, a_liquid, neither, seen}

-- the column that is read is the closest, at every tenth of a degree up to 50.0
closest_at : (n t k : ℕ) → closest_for n t ≡ true → k < n → place_in (column_of (pos (t + k))) ≡ closest larger (t + k) columns
unfolding closest_for
closest_at zero t k e h = absurd (omega arith)
closest_at (suc n) t zero e h = grind (arith, nat_tests)
closest_at (suc n) t (suc k) e h = grind (arith, nat_tests, closest_at n (suc t) k)

column_closest : (t : ℕ) → t ≤ 500 → place_in (column_of (pos t)) ≡ closest larger t columns
column_closest t h = grind (arith, closest_at 501 0 t columns_closest)

-- the cells of a line, one for each column
abbrev cells_in : Corrections → List Cell
cells_in c = Factor 100 ∷ c.at30 ∷ c.at35 ∷ c.at40 ∷ c.at45 ∷ c.at50 ∷ []

-- the place of the column that is read
place_read : (t : ℤ) → lt_z (pos 500) t ≡ false → place_in (column_of t) ≡ column_read t
place_read (pos t) e = column_closest t (ltb-false 500 t e)
place_read (negsuc n) e = ap place_in (colder n)

-- a liquid's factors are missing exactly where the cell that is read is without data
factors_missing : (l : liquids.Liquid) (t : ℤ) → is_none (tabled.factors_of l (column_of t)) ≡ both (not (lt_z (pos 500) t)) (without_data (get_or (cells_in l.corrections) (column_read t) NoData))
unfolding column_of
factors_missing l t = grind (arith, place_read t)

abbrev is_dike : Containment → Bool
is_dike Open = false
is_dike (Dike d) = true
is_dike (Building b) = false
is_dike (ShedWithDoors s) = false

-- 10 by its four cases: a gas, a liquid, byte 1, a dike, and the cell that is read
abbrev unfit : Bool → Bool → ℕ → Bool → Bool → Bool
unfit gas liquid state dike cell =
    any_of (
    both gas (eqb state 4)
    ∷ both liquid (among state (1 ∷ 2 ∷ 3 ∷ []))
    ∷ both dike (among state (1 ∷ 2 ∷ []))
    ∷ both (eqb state 4) cell
    ∷ []
    )

gas_unfit : (b : ℕ) (s : State) (dike cell : Bool) (card : ToxicCard) (g : gases.Gas) → (b ≡ 5 → ⊥) → state_of b ≡ Some s → dike ≡ is_dike card.containment → unfit true false b dike cell ≡ is_none (gas_plan s card g)
unfolding state_of among
gas_unfit b s dike cell card g n e d = grind (arith, nat_tests)

liquid_unfit : (b : ℕ) (s : State) (dike cell : Bool) (card : ToxicCard) (l : liquids.Liquid) → (b ≡ 5 → ⊥) → state_of b ≡ Some s → cell ≡ is_none (tabled.factors_of l (column_in card.tenths)) → unfit false true b dike cell ≡ is_none (liquid_plan s card l)
unfolding state_of among
liquid_unfit b s dike cell card l n e d = grind (arith, nat_tests)

-- "10 refuses no gas, liquid or dike in state 5"; nor a flammable card, whose byte 1 is zero
pub mismatch_none : (card : List ℕ) (state : ℕ) → byte_at card 1 ≡ state → among state (1 ∷ 2 ∷ 3 ∷ 4 ∷ []) ≡ false → mismatched card ≡ false
unfolding mismatched among
mismatch_none card state e out = grind (arith, nat_tests)

-- 10 holds exactly where no scenario fits a listed toxic card
module _ (card : List ℕ) (standing : Standing) (from : Stands (fields_of card) standing) where
  -- byte 3 is 1 exactly for a dike
  dike_is : eqb (byte_at card 3) 1 ≡ is_dike standing.containment
  unfolding fields_of held_of open_of
  dike_is = grind (arith, nat_tests, from.held)

  abbrev made : Toxic → Tenths → ToxicCard
  made = card_with (fields_of card) standing

  -- the cell that is read, where one is
  abbrev no_cell : Bool
  no_cell = both (not (above_fifty card)) (without_data (cell_read card))

  -- a card in states 1 to 4, of what B-1 and B-2 say
  pure : (byte_at card 1 ≡ 5 → ⊥) → (x : Toxic) → Seen (fields_of card).cas x → is_listed x ≡ true → mismatched card ≡ is_none (plan_for x (made x (Temperature (signed (fields_of card).heat))))
  unfolding mismatched of_gas of_liquid fields_of
  pure n (OfGas g) (a_gas _ p q) h =
      rw (p, q) (gas_unfit (byte_at card 1) standing.state (eqb (byte_at card 3) 1) no_cell (made (OfGas g) (Temperature (signed (fields_of card).heat))) g n from.state dike_is)
  pure n (OfLiquid l) (a_liquid _ p q c) h =
      rw (p, q) (liquid_unfit (byte_at card 1) standing.state (eqb (byte_at card 3) 1) no_cell (made (OfLiquid l) (Temperature (signed (fields_of card).heat))) l n from.state
      (rw (← c) (sym (factors_missing l (signed (fields_of card).heat)))))
  pure n (OfSolution _) seen h = elim seen [ ]
  pure n OutOfRange seen h = elim seen [ ]
  pure n NotListed (neither p q) h = clash (cc)

  -- a solution, of what B-3 says
  solved : byte_at card 1 ≡ 5 → (x : Toxic) → Says (fields_of card).cas (fields_of card).heat x → (t : Tenths) → is_listed x ≡ true → is_out_of_range x ≡ false → mismatched card ≡ is_none (plan_for x (made x t))
  unfolding among
  solved e _ (a_line (solution c n i a d p alt) _ _ _) t h r = mismatch_none card 5 e refl
  solved e _ (out_of_range _ _) t h r = clash (cc)
  solved e _ (not_listed _) t h r = clash (cc)

  pub mismatch_is : is_listed (substance_of (fields_of card)) ≡ true → is_out_of_range (substance_of (fields_of card)) ≡ false → mismatched card ≡ is_none (plan_of (card_from (fields_of card) standing))
  unfolding plan_of fields_of
  mismatch_is =
      by_state (fields_of card) (λ x t. is_listed x ≡ true → is_out_of_range x ≡ false → mismatched card ≡ is_none (plan_for x (made x t)))
      (λ e h r. solved e (solution_of (fields_of card).cas (fields_of card).heat) (says (fields_of card).cas (fields_of card).heat) (Concentration (fields_of card).heat) h r)
      (λ n h r. pure n (toxic_of (fields_of card).cas) (seen (fields_of card).cas) h)
