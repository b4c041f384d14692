-- The card that condition 11 speaks of is the one that the form of its bytes makes.
-- Assumes nothing.
use Rattle.std.specs.Prelude.{ℕ, ◌≡◌, List, Some}
use Rattle.std.proofs.Common.{arith}
use Rattle.std.proofs.lemmas.Bool.Decides.{nat_tests}
use Rattle.dispersion.specs.declared.Ground.{Ground}
use Rattle.release.specs.declared.Containment.{Containment}
use Rattle.which_table.specs.declared.State.{State}
use Rattle.exhibits.specs.declared.Toxic.{Toxic}
use Rattle.scenario.specs.declared.Tenths.{Tenths}
use Rattle.scenario.specs.declared.ToxicCard.{ToxicCard}
use Rattle.buffer.specs.Numbers.{byte_at}
use Rattle.fields.specs.declared.Fields.{Fields}
use Rattle.fields.specs.Layout.{fields_of}
use Rattle.form.specs.declared.Standing.{Standing}
use Rattle.form.specs.Form.{state_of, ground_of, open_of, held_of}
use Rattle.form.specs.Inverse.{Stands}
use Rattle.ranges.specs.Ranges.{tenths_of}
use Rattle.meaning.specs.Reading.{substance_of}
use Rattle.conditions.specs.Conditions.{state_in, ground_in, held_in, toxic_card}

-- the meaning of a toxic card's fields, with its substance and its temperature or concentration
abbrev pub card_with : Fields → Standing → Toxic → Tenths → ToxicCard
card_with f standing entry tenths =
    record {
      cas = f.cas;
      entry = entry;
      state = standing.state;
      topography = standing.topography;
      quantity = record { 0 = f.pounds };
      tenths = tenths;
      containment = standing.containment;
    }

abbrev pub card_from : Fields → Standing → ToxicCard
card_from f standing = card_with f standing (substance_of f) (tenths_of f)

state_in_lem : (b : ℕ) (s : State) → state_of b ≡ Some s → state_in b ≡ s
unfolding state_of state_in
state_in_lem b s e = grind arith

ground_in_lem : (b : ℕ) (g : Ground) → ground_of b ≡ Some g → ground_in b ≡ g
unfolding ground_of ground_in
ground_in_lem b g e = grind arith

pub held_in_lem : (b area wall : ℕ) (c : Containment) → held_of b area wall ≡ Some c → held_in b area wall ≡ c
unfolding held_of open_of held_in
held_in_lem b area wall c e = grind (arith, nat_tests)

-- the card of the bytes, and its ground, are those of its form
module _ (card : List ℕ) (standing : Standing) (from : Stands (fields_of card) standing) where
  pub ground_made : ground_in (byte_at card 2) ≡ standing.topography
  unfolding fields_of
  ground_made = ground_in_lem (byte_at card 2) standing.topography from.topography

  pub card_made : toxic_card card ≡ card_from (fields_of card) standing
  unfolding fields_of
  card_made =
      grind (arith, state_in_lem (byte_at card 1) standing.state from.state, ground_made, held_in_lem (byte_at card 3) (fields_of card).area (fields_of card).wall standing.containment from.held)
