-- What a shape tells of the bytes that it was read from, and two containments that the same byte names.
-- Assumes nothing.
use Rattle.std.specs.Prelude.{ℕ, zero, suc, ◌*◌, ◌≤◌, ◌<◌, ◌≡◌, refl, Bool, true, false, eqb, Option, Some, None, Result, Ok, Err}
use Rattle.std.proofs.Common.{arith, mul-le-mul_left, ◌∙◌, sym, ap, subst₂, eqb-true, ne_eqb}
use Rattle.search.specs.Laws.{clash}
use Rattle.dispersion.specs.declared.Ground.{Ground}
use Rattle.release.specs.declared.Containment.{Containment}
use Rattle.release.specs.declared.Containment.TheVariants.{Building, ShedWithDoors}
use Rattle.pool_area.specs.Laws.{Looser, open_open, dike_dike, building_building, shed_shed}
use Rattle.which_table.specs.declared.State.{State}
use Rattle.fields.specs.declared.Fields.{Fields}
use Rattle.refusals.specs.declared.Refusal.{Refusal}
use Rattle.refusals.specs.declared.Refusal.TheVariants as refusal
use Rattle.form.specs.declared.Standing.{Standing}
use Rattle.form.specs.declared.Shape.{Shape}
use Rattle.form.specs.declared.Shape.TheVariants as shape
use Rattle.form.specs.Form.{state_of, ground_of, open_of, held_of, heat_fits, shaped_heat, shaped_held, shaped_state, blank, shaped_blank, shape_of}

-- a choice by a test taken apart: what follows from either arm follows
pub by_test : {A P : Type 0} (n k : ℕ) {x y z : A} → (elim (eqb n k) as (λ _. A) [ true ↦ x | false ↦ y ]) ≡ z → (n ≡ k → x ≡ z → P) → (y ≡ z → P) → P
by_test {A} {P} n k {x} {y} {z} e here on = go (eqb n k) refl e
  where
    go : (t : Bool) → eqb n k ≡ t → (elim t as (λ _. A) [ true ↦ x | false ↦ y ]) ≡ z → P
    go true p q = here (eqb-true n k p) q
    go false p q = on q

-- the shape that a toxic card has
not_refused_shape : {standing : Standing} {r : Refusal} → Err r ≡ Ok (shape.Toxic standing) → ⊥
not_refused_shape e = let z : ◌≡◌ {A = ℕ} 0 1 = cc in clash z

not_flammable_shape : {standing : Standing} → ◌≡◌ {A = Result Shape Refusal} (Ok shape.Flammable) (Ok (shape.Toxic standing)) → ⊥
not_flammable_shape e = let z : ◌≡◌ {A = ℕ} 0 1 = cc in clash z

shape_is : {a b : Standing} → ◌≡◌ {A = Result Shape Refusal} (Ok (shape.Toxic a)) (Ok (shape.Toxic b)) → a ≡ b
shape_is e = cc

heat_shape : (b : Bool) {a standing : Standing} → shaped_heat b a ≡ Ok (shape.Toxic standing) → a ≡ standing
heat_shape true e = shape_is e
heat_shape false e = absurd (not_refused_shape e)

held_shape : (f : Fields) (s : State) (h : Option Containment) (g : Option Ground) {standing : Standing} → shaped_held h f s g ≡ Ok (shape.Toxic standing) → (s ≡ standing.state) × (g ≡ Some standing.topography) × (h ≡ Some standing.containment)
held_shape f s (Some c) (Some d) e =
    let same = heat_shape (heat_fits s f.heat) e in
    (ap (λ (x : Standing). x.state) same, ap (λ (x : Standing). Some x.topography) same, ap (λ (x : Standing). Some x.containment) same)
held_shape f s (Some c) None e = absurd (not_refused_shape e)
held_shape f s None g e = absurd (not_refused_shape e)

-- what a toxic shape tells of its bytes
pub record Stands (f : Fields) (standing : Standing) : Type 0 where
  pub kind : f.kind ≡ 1
  pub state : state_of f.state ≡ Some standing.state
  pub topography : ground_of f.topography ≡ Some standing.topography
  pub held : held_of f.containment f.area f.wall ≡ Some standing.containment

state_shape : (f : Fields) (x : Option State) {standing : Standing} → f.kind ≡ 1 → state_of f.state ≡ x → shaped_state x f ≡ Ok (shape.Toxic standing) → Stands f standing
state_shape f (Some s) k p e =
    let t = held_shape f s (held_of f.containment f.area f.wall) (ground_of f.topography) e in
    record { kind = k; state = p ∙ ap Some t.0; topography = t.1; held = t.2 }
state_shape f None k p e = absurd (not_refused_shape e)

blank_shape : (b : Bool) {standing : Standing} → shaped_blank b ≡ Ok (shape.Toxic standing) → ⊥
blank_shape true e = not_flammable_shape e
blank_shape false e = not_refused_shape e

pub toxic_shape : (f : Fields) {standing : Standing} → shape_of f ≡ Ok (shape.Toxic standing) → Stands f standing
unfolding shape_of
toxic_shape f {standing} e = go (eqb f.kind 1) (eqb f.kind 2) refl e
  where
    go : (a b : Bool) → eqb f.kind 1 ≡ a → (elim a as (λ _. Result Shape Refusal) [ true ↦ shaped_state (state_of f.state) f | false ↦ elim b as (λ _. Result Shape Refusal) [ true ↦ shaped_blank (blank f) | false ↦ Err refusal.Form ] ]) ≡ Ok (shape.Toxic standing) → Stands f standing
    go true b p q = state_shape f (state_of f.state) (eqb-true f.kind 1 p) refl q
    go false true p q = absurd (blank_shape (blank f) q)
    go false false p q = absurd (not_refused_shape q)

not_toxic_blank : {standing : Standing} → ◌≡◌ {A = Result Shape Refusal} (Ok (shape.Toxic standing)) (Ok shape.Flammable) → ⊥
not_toxic_blank e = not_flammable_shape (sym e)

heat_blank : (b : Bool) (a : Standing) → shaped_heat b a ≡ Ok shape.Flammable → ⊥
heat_blank true a e = not_toxic_blank e
heat_blank false a e = let z : ◌≡◌ {A = ℕ} 0 1 = cc in clash z

held_blank : (f : Fields) (s : State) (h : Option Containment) (g : Option Ground) → shaped_held h f s g ≡ Ok shape.Flammable → ⊥
held_blank f s (Some c) (Some d) e = heat_blank (heat_fits s f.heat) (record { state = s; topography = d; containment = c }) e
held_blank f s (Some c) None e = let z : ◌≡◌ {A = ℕ} 0 1 = cc in clash z
held_blank f s None g e = let z : ◌≡◌ {A = ℕ} 0 1 = cc in clash z

state_blank : (f : Fields) (x : Option State) → shaped_state x f ≡ Ok shape.Flammable → ⊥
state_blank f (Some s) e = held_blank f s (held_of f.containment f.area f.wall) (ground_of f.topography) e
state_blank f None e = let z : ◌≡◌ {A = ℕ} 0 1 = cc in clash z

pub flammable_shape : (f : Fields) → shape_of f ≡ Ok shape.Flammable → f.kind ≡ 2
unfolding shape_of
flammable_shape f e = go (eqb f.kind 1) (eqb f.kind 2) refl e
  where
    go : (a b : Bool) → eqb f.kind 2 ≡ b → (elim a as (λ _. Result Shape Refusal) [ true ↦ shaped_state (state_of f.state) f | false ↦ elim b as (λ _. Result Shape Refusal) [ true ↦ shaped_blank (blank f) | false ↦ Err refusal.Form ] ]) ≡ Ok shape.Flammable → f.kind ≡ 2
    go true b p q = absurd (state_blank f (state_of f.state) q)
    go false true p q = eqb-true f.kind 2 p
    go false false p q = let z : ◌≡◌ {A = ℕ} 0 1 = cc in clash z

-- a test that a number fails is passed over
passed_over : {A : Type 0} (n k : ℕ) (x : A) {y : A} → (n ≡ k → ⊥) → (elim (eqb n k) as (λ _. A) [ true ↦ x | false ↦ y ]) ≡ y
passed_over {A} n k x {y} other = ap (λ t. elim t as (λ _. A) [ true ↦ x | false ↦ y ]) (ne_eqb n k other)

-- a byte above 3 is no containment
pub no_held : (b area wall : ℕ) → 3 < b → held_of b area wall ≡ None
unfolding held_of
no_held b area wall h = passed_over b 1 _ (λ e. omega arith) ∙ go (eqb wall 0)
  where
    go : (t : Bool) → (elim t as (λ _. Option Containment) [ true ↦ elim (eqb b 2) as (λ _. Option Containment) [ true ↦ Some (Building (record { floor = record { 0 = 100 * area } })) | false ↦ elim (eqb b 0) as (λ _. Option Containment) [ true ↦ open_of area | false ↦ elim (eqb b 3) as (λ _. Option Containment) [ true ↦ Some (ShedWithDoors (record { floor = record { 0 = 100 * area } })) | false ↦ None ] ] ] | false ↦ None ]) ≡ None
    go true = passed_over b 2 _ (λ e. omega arith) ∙ (passed_over b 0 _ (λ e. omega arith) ∙ passed_over b 3 _ (λ e. omega arith))
    go false = refl

-- equal readings are of the same state, ground or containment
pub state_is : {a b : State} → Some a ≡ Some b → a ≡ b
state_is e = cc

pub ground_is : {a b : Ground} → Some a ≡ Some b → a ≡ b
ground_is e = cc

pub held_is : {a b : Containment} → Some a ≡ Some b → a ≡ b
held_is e = cc

-- two containments from the same byte, in the order of document 01's counterparts
pub not_held : {A : Type 0} {c : Containment} → None ≡ Some c → A
not_held e = clash (cc)

-- what is read where a field is zero, and is refused otherwise
pub where_zero : (n : ℕ) {h : Option Containment} {c : Containment} → (elim (eqb n 0) as (λ _. Option Containment) [ true ↦ h | false ↦ None ]) ≡ Some c → h ≡ Some c
where_zero n e = by_test n 0 e (λ p q. q) not_held

-- by the byte: two areas and two walls, of which a dike's and a floor are in order
pub held_looser : (b area wall more low : ℕ) → (b ≡ 1 → (area ≡ more) × (low ≤ wall)) → (b ≡ 2 → area ≤ more) → (b ≡ 3 → area ≤ more) → {c e : Containment} → held_of b area wall ≡ Some c → held_of b more low ≡ Some e → Looser c e
unfolding held_of open_of
held_looser zero area wall more low dike floor shed x y =
    subst₂ Looser (held_is (where_zero area (where_zero wall x))) (held_is (where_zero more (where_zero low y))) open_open
held_looser (suc zero) area wall more low dike floor shed x y =
    let d = dike refl in subst₂ Looser (held_is x) (held_is y) (dike_dike _ _ (λ i. record { 0 = 100 * d.0 i }) d.1)
held_looser (suc (suc zero)) area wall more low dike floor shed x y =
    subst₂ Looser (held_is (where_zero wall x)) (held_is (where_zero low y)) (building_building _ _ (mul-le-mul_left 100 (floor refl)))
held_looser (suc (suc (suc zero))) area wall more low dike floor shed x y =
    subst₂ Looser (held_is (where_zero wall x)) (held_is (where_zero low y)) (shed_shed _ _ (mul-le-mul_left 100 (shed refl)))
held_looser (suc (suc (suc (suc n)))) area wall more low dike floor shed x y =
    not_held (sym (no_held (suc (suc (suc (suc n)))) area wall (omega arith)) ∙ x)
