-- The bytes that a state, a ground and a containment are read from: what was read of a card's bytes 1 to 3, its area and its
-- wall tells them again, and a flammable card's are zero.
-- Assumes nothing.
use Rattle.std.specs.Prelude.{ℕ, ◌*◌, ◌/◌, ◌≡◌, refl, Bool, true, false, eqb, Option, Some, None, Ok}
use Rattle.std.proofs.Common.{arith, ◌∙◌, ap, eqb-true}
use Rattle.search.specs.Rising.{both}
use Rattle.search.specs.Laws.{clash, both_true}
use Rattle.dispersion.specs.declared.Ground.{Ground}
use Rattle.dispersion.specs.declared.Ground.TheVariants.{Rural, Urban}
use Rattle.release.specs.declared.Containment.{Containment}
use Rattle.release.specs.declared.Containment.TheVariants.{Open, Dike, Building, ShedWithDoors}
use Rattle.which_table.specs.declared.State.{State}
use Rattle.which_table.specs.declared.State.TheVariants.{Gas, Pressurized, Refrigerated, Liquid, Solution}
use Rattle.fields.specs.declared.Fields.{Fields}
use Rattle.form.specs.declared.Shape.TheVariants as shape
use Rattle.form.specs.Form.{state_of, ground_of, open_of, held_of, blank, shaped_blank, shape_of}
use Rattle.form.specs.Inverse.{by_test, not_held, flammable_shape}

-- the byte that a state is read from; one clause a state
abbrev pub state_in : Option State → ℕ
state_in (Some Gas) = 1
state_in (Some Pressurized) = 2
state_in (Some Refrigerated) = 3
state_in (Some Liquid) = 4
state_in (Some Solution) = 5
state_in None = 0

pub state_byte : (b : ℕ) {s : State} → state_of b ≡ Some s → b ≡ state_in (Some s)
unfolding state_of
state_byte b e =
    by_test b 1 e (λ p q. p ∙ ap state_in q)
    (λ q. by_test b 2 q (λ p q. p ∙ ap state_in q)
    (λ q. by_test b 3 q (λ p q. p ∙ ap state_in q)
    (λ q. by_test b 4 q (λ p q. p ∙ ap state_in q)
    (λ q. by_test b 5 q (λ p q. p ∙ ap state_in q)
    (λ q. clash (cc))))))

-- the byte that a ground is read from
abbrev pub ground_in : Option Ground → ℕ
ground_in (Some Rural) = 1
ground_in (Some Urban) = 2
ground_in None = 0

pub ground_byte_lem : (b : ℕ) {g : Ground} → ground_of b ≡ Some g → b ≡ ground_in (Some g)
unfolding ground_of
ground_byte_lem b e =
    by_test b 1 e (λ p q. p ∙ ap ground_in q) (λ q. by_test b 2 q (λ p q. p ∙ ap ground_in q) (λ q. clash (cc)))

-- the byte, the area and the wall that a containment is read from; one clause a containment
abbrev pub held_in : Option Containment → ℕ × ℕ × ℕ
held_in (Some Open) = (0, 0, 0)
held_in (Some (Dike d)) = (1, d.area.0 / 100, d.wall)
held_in (Some (Building x)) = (2, x.floor.0 / 100, 0)
held_in (Some (ShedWithDoors x)) = (3, x.floor.0 / 100, 0)
held_in None = (0, 0, 0)

-- a whole number of square feet from its hundredths
whole : (area : ℕ) → area ≡ 100 * area / 100
whole area = omega arith

held_told : (b area wall : ℕ) {c : Containment} → held_of b area wall ≡ Some c → ◌≡◌ {A = ℕ × ℕ × ℕ} (b, area, wall) (held_in (Some c))
unfolding held_of open_of
held_told b area wall e =
    by_test b 1 e (λ p q. (λ i. (p i, whole area i, wall)) ∙ ap held_in q)
    (λ q. by_test wall 0 q
    (λ w q. by_test b 2 q (λ p q. (λ i. (p i, whole area i, w i)) ∙ ap held_in q)
    (λ q. by_test b 0 q (λ p q. by_test area 0 q (λ a q. (λ i. (p i, a i, w i)) ∙ ap held_in q) not_held)
    (λ q. by_test b 3 q (λ p q. (λ i. (p i, whole area i, w i)) ∙ ap held_in q) not_held)))
    not_held)

pub held_bytes : (b area wall : ℕ) {c : Containment} → held_of b area wall ≡ Some c → (b ≡ (held_in (Some c)).0) × (area ≡ (held_in (Some c)).1) × (wall ≡ (held_in (Some c)).2)
held_bytes b area wall e = let r = held_told b area wall e in (λ i. (r i).0, λ i. (r i).1, λ i. (r i).2)

-- a flammable card's must-be-zero fields
pub record Blank (f : Fields) : Type 0 where
  pub state : f.state ≡ 0
  pub topography : f.topography ≡ 0
  pub containment : f.containment ≡ 0
  pub area : f.area ≡ 0
  pub wall : f.wall ≡ 0
  pub heat : f.heat ≡ 0

-- one test of `blank` after the other
zero_and : (n : ℕ) {t : Bool} → both (eqb n 0) t ≡ true → (n ≡ 0) × (t ≡ true)
zero_and n {t} e = let r = both_true (eqb n 0) t e in (eqb-true n 0 r.0, r.1)

blank_fields : (f : Fields) → blank f ≡ true → Blank f
unfolding blank
blank_fields f e =
    let s = zero_and f.state e in
    let g = zero_and f.topography s.1 in
    let c = zero_and f.containment g.1 in
    let a = zero_and f.area c.1 in
    let w = zero_and f.wall a.1 in
    record { state = s.0; topography = g.0; containment = c.0; area = a.0; wall = w.0; heat = eqb-true f.heat 0 w.1 }

blank_true : (b : Bool) → shaped_blank b ≡ Ok shape.Flammable → b ≡ true
blank_true true e = refl
blank_true false e = clash (cc)

pub flammable_blank : (f : Fields) → shape_of f ≡ Ok shape.Flammable → Blank f
unfolding shape_of
flammable_blank f e =
    by_test f.kind 1 e (λ p q. absurd (omega (arith, p, flammable_shape f e)))
    (λ q. by_test f.kind 2 q (λ p q. blank_fields f (blank_true (blank f) q)) (λ q. clash (cc)))
