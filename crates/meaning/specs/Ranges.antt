-- The ranges of a card's numbers where its meaning is no refusal.
-- Assumes nothing.
use Rattle.std.specs.Prelude.{ℕ, ◌≤◌, ◌<◌, ◌≡◌, refl, Bool, true, false, not, ◌⊎◌, Some, Result, Ok, Err}
use Rattle.scenario.specs.declared.Tenths.{Tenths}
use Rattle.std.proofs.Common.{arith, inl, inr}
use Rattle.std.proofs.lemmas.Bool.{not-false}
use Rattle.search.specs.Laws.{clash}
use Rattle.exhibits.specs.declared.Toxic.{Toxic}
use Rattle.exhibits.specs.declared.Toxic.TheVariants.{NotListed}
use Rattle.exhibits.specs.Exhibits.{toxic_of}
use Rattle.exhibits.proofs.Laws as exhibits
use Rattle.solutions.specs.Solutions.{solution_of}
use Rattle.solutions.proofs.SolutionLaws.{solution_below, solution_percent}
use Rattle.dispersion.specs.declared.Ground.{Ground}
use Rattle.dispersion.specs.declared.Ground.TheVariants.{Rural, Urban}
use Rattle.combustion.specs.Heats.{is_flammable}
use Rattle.combustion.proofs.Laws as combustion
use Rattle.release.specs.declared.Containment.{Containment}
use Rattle.release.specs.declared.Containment.TheVariants.{Open, Dike, Building, ShedWithDoors}
use Rattle.which_table.specs.declared.State.{State}
use Rattle.which_table.specs.declared.State.TheVariants.{Gas, Pressurized, Refrigerated, Liquid, Solution}
use Rattle.fields.specs.declared.Fields.{Fields}
use Rattle.refusals.specs.declared.Refusal.{Refusal}
use Rattle.form.specs.declared.Standing.{Standing}
use Rattle.form.specs.declared.Shape.{Shape}
use Rattle.form.specs.declared.Shape.TheVariants as shape
use Rattle.form.specs.Form.{held_of, shape_of}
use Rattle.form.specs.Inverse.{toxic_shape, flammable_shape}
use Rattle.form.specs.Same.{state_in, state_byte, ground_in, ground_byte_lem, held_bytes, flammable_blank}
use Rattle.ranges.specs.Ranges.{bad_pounds, bad_area, bad_wall, tenths_of, bad_tenths, is_out_of_range, bounds_if, bounds_of}
use Rattle.ranges.proofs.Laws.{pounds_within, wall_within, heat_within, area_within}
use Rattle.meaning.specs.declared.Meaning.{Meaning}
use Rattle.meaning.specs.States.{by_state}
use Rattle.meaning.specs.Reading.{bad_number, substance_of, toxic_bounded, is_listed, meaning_if, toxic_meaning, flammable_of, shaped, meaning_of}

-- a temperature or a concentration in range, as the two bytes hold it: from 0 up, or a temperature below 0
abbrev pub TenthsRanged : Fields → Type 0
TenthsRanged f = (f.heat ≤ 3_000) ⊎ ((65_036 ≤ f.heat) × (f.state ≡ 5 → ⊥))

pub record Ranged (f : Fields) : Type 0 where
  pub kind : f.kind ≤ 2
  pub state : f.state ≤ 5
  pub topography : f.topography ≤ 2
  pub containment : f.containment ≤ 3
  pub cas : f.cas < 100_000_000
  pub pounds : f.pounds ≤ 10_000_000
  pub area : f.area ≤ 1_000_000
  pub wall : f.wall ≤ 10_000
  pub heat : TenthsRanged f

-- ---- what the tests of 8, 9, 14, 15 and 16 say of a number that they let pass

-- what is listed is not missing
listed : (t : Toxic) → is_listed t ≡ true → t ≡ NotListed → ⊥
listed t e n = let z : ◌≡◌ {A = ℕ} 0 1 = cc in clash z

-- a concentration in range is at most 100 percent
tenths_within : (f : Fields) → is_listed (substance_of f) ≡ true → bad_tenths (tenths_of f) ≡ false → is_out_of_range (substance_of f) ≡ false → TenthsRanged f
tenths_within f =
    by_state f (λ x t. is_listed x ≡ true → bad_tenths t ≡ false → is_out_of_range x ≡ false → TenthsRanged f)
    (λ e l t r. inl (omega (arith, solution_percent f.cas f.heat (listed (solution_of f.cas f.heat) l) (λ o. clash (cc)))))
    (λ n l t r. either_end n (heat_within f.heat t))
  where
    either_end : (f.state ≡ 5 → ⊥) → (f.heat ≤ 3_000) ⊎ (65_036 ≤ f.heat) → TenthsRanged f
    either_end n (inl h) = inl h
    either_end n (inr h) = inr (h, n)

-- "zero if open"; else the area is in range
held_within : (c : Containment) (b area wall : ℕ) → held_of b area wall ≡ Some c → bad_area b area ≡ false → (b ≤ 3) × (area ≤ 1_000_000)
unfolding bad_area
held_within Open b area wall h e = omega (arith, held_bytes b area wall h)
held_within (Dike d) b area wall h e = let k = (held_bytes b area wall h).0 in (omega arith, area_within area (rw k at e))
held_within (Building x) b area wall h e = let k = (held_bytes b area wall h).0 in (omega arith, area_within area (rw k at e))
held_within (ShedWithDoors x) b area wall h e = let k = (held_bytes b area wall h).0 in (omega arith, area_within area (rw k at e))

-- ---- the codes

state_within : (s : State) → state_in (Some s) ≤ 5
state_within Gas = omega arith
state_within Pressurized = omega arith
state_within Refrigerated = omega arith
state_within Liquid = omega arith
state_within Solution = omega arith

ground_within : (g : Ground) → ground_in (Some g) ≤ 2
ground_within Rural = omega arith
ground_within Urban = omega arith

-- ---- a meaning that is no refusal

abbrev Sound : Result Meaning Refusal → Type 0
Sound m = (r : Refusal) → m ≡ Err r → ⊥

-- a check on the way to it lets the card pass
passed : (b : Bool) (r : Refusal) (further : Result Meaning Refusal) → Sound (meaning_if b r further) → (b ≡ false) × Sound further
passed true r further n = absurd (n r refl)
passed false r further n = (refl, n)

-- so does one of its ranges
module _ (f : Fields) (entry : Toxic) (standing : Standing) where
  within : (b : Bool) (r : Refusal) (further : Result Tenths Refusal) → Sound (toxic_bounded (bounds_if b r further) f entry standing)
      → (b ≡ false) × Sound (toxic_bounded further f entry standing)
  within true r further n = absurd (n r refl)
  within false r further n = (refl, n)

  -- all five of them
  bounded : Sound (toxic_bounded (bounds_of entry f) f entry standing)
      → (bad_pounds f.pounds ≡ false) × (bad_area f.containment f.area ≡ false) × (bad_wall f.wall ≡ false) × (bad_tenths (tenths_of f) ≡ false)
      × (is_out_of_range entry ≡ false)
  unfolding bounds_of
  bounded n =
      let p = within (bad_pounds f.pounds) _ _ n in
      let a = within (bad_area f.containment f.area) _ _ p.1 in
      let w = within (bad_wall f.wall) _ _ a.1 in
      let h = within (bad_tenths (tenths_of f)) _ _ w.1 in
      let c = within (is_out_of_range entry) _ _ h.1 in
      (p.0, a.0, w.0, h.0, c.0)

-- ---- the ranges

-- a substance that is listed has a CAS number of at most eight digits
cas_within : (f : Fields) → is_listed (substance_of f) ≡ true → f.cas < 100_000_000
cas_within f =
    by_state f (λ x t. is_listed x ≡ true → f.cas < 100_000_000)
    (λ e l. solution_below f.cas f.heat (listed (solution_of f.cas f.heat) l))
    (λ n l. exhibits.listed_below f.cas (listed (toxic_of f.cas) l))

-- by what the bytes 0 to 3 make
shaped_ranged : (f : Fields) (s : Result Shape Refusal) → shape_of f ≡ s → Sound (shaped s f) → Ranged f
unfolding toxic_meaning flammable_of
shaped_ranged f (Ok (shape.Toxic standing)) p n =
    let bytes = toxic_shape f p in
    let known = passed (not (is_listed (substance_of f))) _ _ n in
    let in_List = not-false (is_listed (substance_of f)) known.0 in
    let numbers = bounded f (substance_of f) standing known.1 in
    let place = held_within standing.containment f.containment f.area f.wall bytes.held numbers.1 in
    record {
      kind = omega (arith, bytes.kind);
      state = omega (arith, state_byte f.state bytes.state, state_within standing.state);
      topography = omega (arith, ground_byte_lem f.topography bytes.topography, ground_within standing.topography);
      containment = place.0;
      cas = cas_within f in_List;
      pounds = pounds_within f.pounds numbers.0;
      area = place.1;
      wall = wall_within f.wall numbers.2;
      heat = tenths_within f in_List numbers.3 numbers.4;
    }
shaped_ranged f (Ok shape.Flammable) p n =
    let zeros = flammable_blank f p in
    let known = passed (not (is_flammable f.cas)) _ _ n in
    record {
      kind = omega (arith, flammable_shape f p);
      state = omega arith;
      topography = omega arith;
      containment = omega arith;
      cas = combustion.listed_below f.cas (not-false (is_flammable f.cas) known.0);
      pounds = pounds_within f.pounds (passed (bad_pounds f.pounds) _ _ known.1).0;
      area = omega arith;
      wall = omega arith;
      heat = inl (omega arith);
    }
shaped_ranged f (Err r) p n = absurd (n r refl)

pub ranged : (f : Fields) (last : ℕ) → ((r : Refusal) → meaning_of f last ≡ Err r → ⊥) → Ranged f
unfolding meaning_of
ranged f last n = shaped_ranged f (shape_of f) refl (passed (bad_number f.number last) _ _ n).1
