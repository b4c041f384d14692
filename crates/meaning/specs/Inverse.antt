-- What a meaning tells of the fields that it was read from.
-- Assumes nothing.
use Rattle.std.specs.Prelude.{ℕ, ◌≡◌, refl, Bool, true, false, not, Some, Result, Ok, Err}
use Rattle.std.proofs.Common.{◌∙◌, sym, ap, subst}
use Rattle.search.specs.Laws.{clash}
use Rattle.exhibits.specs.declared.Toxic.{Toxic}
use Rattle.scenario.specs.declared.Tenths.{Tenths}
use Rattle.scenario.specs.declared.ToxicCard.{ToxicCard}
use Rattle.scenario.specs.Plan.{Limits}
use Rattle.combustion.specs.Heats.{is_flammable}
use Rattle.fields.specs.declared.Fields.{Fields}
use Rattle.refusals.specs.declared.Refusal.{Refusal}
use Rattle.refusals.specs.declared.Refusal.TheVariants as refusal
use Rattle.form.specs.declared.Standing.{Standing}
use Rattle.form.specs.declared.Shape.{Shape}
use Rattle.form.specs.declared.Shape.TheVariants as shape
use Rattle.form.specs.Form.{state_of, ground_of, held_of, shape_of}
use Rattle.form.specs.Inverse.{toxic_shape, flammable_shape}
use Rattle.ranges.specs.Ranges.{bad_pounds, bad_area, bad_wall, tenths_of, bad_tenths, is_out_of_range, bounds_if, bounds_of}
use Rattle.meaning.specs.declared.FlammableCard.{FlammableCard}
use Rattle.meaning.specs.declared.Meaning.{Meaning}
use Rattle.meaning.specs.declared.Meaning.TheVariants as meaning
use Rattle.meaning.specs.Reading.{bad_number, substance_of, toxic_bounded, is_listed, meaning_if, toxic_meaning, flammable_of, shaped, meaning_of, MeaningLimits}

-- what a toxic card tells of its fields
pub record ToxicFrom (f : Fields) (card : ToxicCard) : Type 0 where
  pub kind : f.kind ≡ 1
  pub cas : f.cas ≡ card.cas
  pub entry : substance_of f ≡ card.entry
  pub state : state_of f.state ≡ Some card.state
  pub topography : ground_of f.topography ≡ Some card.topography
  pub held : held_of f.containment f.area f.wall ≡ Some card.containment
  pub quantity : f.pounds ≡ card.quantity.0
  pub tenths : tenths_of f ≡ card.tenths

-- what a flammable card tells of its fields
pub record FlammableFrom (f : Fields) (card : FlammableCard) : Type 0 where
  pub kind : f.kind ≡ 2
  pub cas : f.cas ≡ card.cas
  pub quantity : f.pounds ≡ card.quantity.0

passed : (b : Bool) (r : Refusal) (m : Result Meaning Refusal) {w : Result Meaning Refusal} → meaning_if b r m ≡ w → (w ≡ Err r → ⊥) → m ≡ w
passed true r m e n = absurd (n (sym e))
passed false r m e n = e

not_refused_toxic : {card : ToxicCard} {r : Refusal} → Ok (meaning.Toxic card) ≡ Err r → ⊥
not_refused_toxic e = let z : ◌≡◌ {A = ℕ} 0 1 = cc in clash z

not_refused_flammable : {card : FlammableCard} {r : Refusal} → Ok (meaning.Flammable card) ≡ Err r → ⊥
not_refused_flammable e = let z : ◌≡◌ {A = ℕ} 0 1 = cc in clash z

not_flammable_toxic : {a : FlammableCard} {b : ToxicCard} → ◌≡◌ {A = Result Meaning Refusal} (Ok (meaning.Flammable a)) (Ok (meaning.Toxic b)) → ⊥
not_flammable_toxic e = let z : ◌≡◌ {A = ℕ} 0 1 = cc in clash z

-- the temperature, or the concentration, of numbers in range
bounds_passed : (b : Bool) (r : Refusal) (m : Result Tenths Refusal) {t : Tenths} → bounds_if b r m ≡ Ok t → m ≡ Ok t
bounds_passed true r m {t} e = let z : ◌≡◌ {A = ℕ} 0 1 = cc in clash z
bounds_passed false r m e = e

within_is : {a b : Tenths} → ◌≡◌ {A = Result Tenths Refusal} (Ok a) (Ok b) → a ≡ b
within_is e = cc

bounds_tenths : (entry : Toxic) (f : Fields) {t : Tenths} → bounds_of entry f ≡ Ok t → tenths_of f ≡ t
unfolding bounds_of
bounds_tenths entry f e =
    let quantity = bounds_passed (bad_pounds f.pounds) _ _ e in
    let area = bounds_passed (bad_area f.containment f.area) _ _ quantity in
    let wall = bounds_passed (bad_wall f.wall) _ _ area in
    let heat = bounds_passed (bad_tenths (tenths_of f)) _ _ wall in
    within_is (bounds_passed (is_out_of_range entry) _ _ heat)

toxic_is : {a b : ToxicCard} → ◌≡◌ {A = Result Meaning Refusal} (Ok (meaning.Toxic a)) (Ok (meaning.Toxic b)) → a ≡ b
toxic_is e = cc

-- a toxic card tells how its vessel stands, its substance and its numbers
record Told (f : Fields) (x : Toxic) (standing : Standing) (card : ToxicCard) : Type 0 where
  cas : f.cas ≡ card.cas
  entry : x ≡ card.entry
  state : standing.state ≡ card.state
  topography : standing.topography ≡ card.topography
  containment : standing.containment ≡ card.containment
  quantity : f.pounds ≡ card.quantity.0
  tenths : tenths_of f ≡ card.tenths

told : (b : Result Tenths Refusal) (f : Fields) (entry : Toxic) (standing : Standing) {card : ToxicCard} → bounds_of entry f ≡ b → toxic_bounded b f entry standing ≡ Ok (meaning.Toxic card) → Told f entry standing card
told (Ok t) f entry standing {card} h e =
    let made : ToxicCard = record { cas = f.cas; entry = entry; state = standing.state; topography = standing.topography; quantity = record { 0 = f.pounds }; tenths = t; containment = standing.containment } in
    let same : made ≡ card = toxic_is e in
    record {
      cas = ap (λ (c : ToxicCard). c.cas) same;
      entry = ap (λ (c : ToxicCard). c.entry) same;
      state = ap (λ (c : ToxicCard). c.state) same;
      topography = ap (λ (c : ToxicCard). c.topography) same;
      containment = ap (λ (c : ToxicCard). c.containment) same;
      quantity = ap (λ (c : ToxicCard). c.quantity.0) same;
      tenths = bounds_tenths entry f h ∙ ap (λ (c : ToxicCard). c.tenths) same;
    }
told (Err r) f entry standing h e = absurd (not_refused_toxic (sym e))

-- a toxic meaning tells its fields
flammable_passed : (f : Fields) {w : Result Meaning Refusal} → flammable_of f ≡ w → (w ≡ Err refusal.Unlisted → ⊥) → (w ≡ Err refusal.Quantity → ⊥) → Ok (meaning.Flammable (record { cas = f.cas; quantity = record { 0 = f.pounds } })) ≡ w
unfolding flammable_of
flammable_passed f {w} e m n =
    let last : Result Meaning Refusal = Ok (meaning.Flammable (record { cas = f.cas; quantity = record { 0 = f.pounds } })) in
    passed (bad_pounds f.pounds) refusal.Quantity last
    (passed (not (is_flammable f.cas)) refusal.Unlisted (meaning_if (bad_pounds f.pounds) refusal.Quantity last) e m)
    n

toxic_passed : (f : Fields) (x : Toxic) (standing : Standing) {w : Result Meaning Refusal} → toxic_meaning x f standing ≡ w → (w ≡ Err refusal.Unlisted → ⊥) → toxic_bounded (bounds_of x f) f x standing ≡ w
unfolding toxic_meaning
toxic_passed f x standing e n =
    passed (not (is_listed x)) refusal.Unlisted (toxic_bounded (bounds_of x f) f x standing) e n

flammable_not_toxic : (f : Fields) {card : ToxicCard} → flammable_of f ≡ Ok (meaning.Toxic card) → ⊥
flammable_not_toxic f {card} e = not_flammable_toxic (flammable_passed f e not_refused_toxic not_refused_toxic)

toxic_shaped : (f : Fields) (s : Result Shape Refusal) {card : ToxicCard} → shape_of f ≡ s → shaped s f ≡ Ok (meaning.Toxic card) → ToxicFrom f card
toxic_shaped f (Ok (shape.Toxic standing)) p e =
    let t = told (bounds_of (substance_of f) f) f (substance_of f) standing refl (toxic_passed f (substance_of f) standing e not_refused_toxic) in
    let g = toxic_shape f p in
    record {
      kind = g.kind;
      cas = t.cas;
      entry = t.entry;
      state = g.state ∙ ap Some t.state;
      topography = g.topography ∙ ap Some t.topography;
      held = g.held ∙ ap Some t.containment;
      quantity = t.quantity;
      tenths = t.tenths;
    }
toxic_shaped f (Ok shape.Flammable) p e = absurd (flammable_not_toxic f e)
toxic_shaped f (Err r) p e = absurd (not_refused_toxic (sym e))

pub toxic_from : (f : Fields) (last : ℕ) {card : ToxicCard} → meaning_of f last ≡ Ok (meaning.Toxic card) → ToxicFrom f card
unfolding meaning_of
toxic_from f last e =
    toxic_shaped f (shape_of f) refl
    (passed (bad_number f.number last) refusal.Number (shaped (shape_of f) f) e not_refused_toxic)

-- a flammable meaning tells its fields
flammable_is : {a b : FlammableCard} → ◌≡◌ {A = Result Meaning Refusal} (Ok (meaning.Flammable a)) (Ok (meaning.Flammable b)) → a ≡ b
flammable_is e = cc

toxic_not_flammable : (b : Result Tenths Refusal) (f : Fields) (entry : Toxic) (standing : Standing) {card : FlammableCard} → toxic_bounded b f entry standing ≡ Ok (meaning.Flammable card) → ⊥
toxic_not_flammable (Ok t) f entry standing e = not_flammable_toxic (sym e)
toxic_not_flammable (Err r) f entry standing e = not_refused_flammable (sym e)

flammable_shaped : (f : Fields) (s : Result Shape Refusal) {card : FlammableCard} → shape_of f ≡ s → shaped s f ≡ Ok (meaning.Flammable card) → FlammableFrom f card
flammable_shaped f (Ok (shape.Toxic standing)) p e =
    absurd (toxic_not_flammable (bounds_of (substance_of f) f) f (substance_of f) standing (toxic_passed f (substance_of f) standing e not_refused_flammable))
flammable_shaped f (Ok shape.Flammable) p e =
    let same = flammable_is (flammable_passed f e not_refused_flammable not_refused_flammable) in
    record {
      kind = flammable_shape f p;
      cas = ap (λ (c : FlammableCard). c.cas) same;
      quantity = ap (λ (c : FlammableCard). c.quantity.0) same;
    }
flammable_shaped f (Err r) p e = absurd (not_refused_flammable (sym e))

pub flammable_from : (f : Fields) (last : ℕ) {card : FlammableCard} → meaning_of f last ≡ Ok (meaning.Flammable card) → FlammableFrom f card
unfolding meaning_of
flammable_from f last e =
    flammable_shaped f (shape_of f) refl
    (passed (bad_number f.number last) refusal.Number (shaped (shape_of f) f) e not_refused_flammable)

-- a toxic meaning keeps the limits that its reading established
pub card_limits : (m : Result Meaning Refusal) (card : ToxicCard) → MeaningLimits m → m ≡ Ok (meaning.Toxic card) → Limits card
card_limits m card l e = subst MeaningLimits e l
