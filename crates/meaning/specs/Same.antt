-- The fields of a card that has a meaning, told again by the meaning and the card's number: two cards with one meaning and one
-- number have the same fields.
-- Assumes nothing.
use Rattle.std.specs.Prelude.{ℕ, ◌-◌, ◌^◌, ◌<◌, ◌≡◌, refl, Bool, true, false, ltb, ℤ, pos, negsuc, Some, Result, Ok, Err}
use Rattle.std.proofs.Common.{arith}
use Rattle.search.specs.Laws.{clash}
use Rattle.scenario.specs.declared.Tenths.{Tenths}
use Rattle.scenario.specs.declared.Tenths.TheVariants.{Temperature, Concentration}
use Rattle.scenario.specs.declared.ToxicCard.{ToxicCard}
use Rattle.fields.specs.declared.Fields.{Fields}
use Rattle.refusals.specs.declared.Refusal.{Refusal}
use Rattle.refusals.specs.declared.Refusal.TheVariants as refusal
use Rattle.form.specs.declared.Shape.{Shape}
use Rattle.form.specs.declared.Shape.TheVariants as shape
use Rattle.form.specs.Form.{shape_of}
use Rattle.form.specs.Inverse.{toxic_shape}
use Rattle.form.specs.Same.{state_in, state_byte, ground_in, ground_byte_lem, held_in, held_bytes, flammable_blank}
use Rattle.ranges.specs.Ranges.{signed, tenths_of}
use Rattle.meaning.specs.declared.FlammableCard.{FlammableCard}
use Rattle.meaning.specs.declared.Meaning.{Meaning}
use Rattle.meaning.specs.declared.Meaning.TheVariants as meaning
use Rattle.meaning.specs.Reading.{bad_number, meaning_if, shaped, meaning_of}
use Rattle.meaning.specs.States.{by_state}
use Rattle.meaning.specs.Inverse.{toxic_from, flammable_from}

-- the two bytes that a temperature is read from
abbrev pub heat_in : ℤ → ℕ
heat_in (pos n) = n
heat_in (negsuc n) = 65_535 - n

heat_bytes : (heat : ℕ) → heat < 2 ^ 16 → heat ≡ heat_in (signed heat)
unfolding signed
heat_bytes heat h = go (ltb heat 32_768)
  where
    go : (t : Bool) → heat ≡ heat_in (elim t as (λ _. ℤ) [ true ↦ pos heat | false ↦ negsuc (65_535 - heat) ])
    go true = refl
    go false = omega arith

-- the two bytes that a temperature or a concentration is read from
abbrev pub tenths_in : Tenths → ℕ
tenths_in (Temperature t) = heat_in t
tenths_in (Concentration c) = c

tenths_bytes : (f : Fields) → f.heat < 2 ^ 16 → f.heat ≡ tenths_in (tenths_of f)
tenths_bytes f h = by_state f (λ x t. f.heat ≡ tenths_in t) (λ e. refl) (λ n. heat_bytes f.heat h)

-- the fields one by one in their order, and that a card is its fields: what `cc` below is told of records
abbrev made : (kind state topography containment cas pounds area wall heat number : ℕ) → Fields
made kind state topography containment cas pounds area wall heat number =
    record {
      kind = kind;
      state = state;
      topography = topography;
      containment = containment;
      cas = cas;
      pounds = pounds;
      area = area;
      wall = wall;
      heat = heat;
      number = number;
    }

made_of : (f : Fields) → f ≡ made f.kind f.state f.topography f.containment f.cas f.pounds f.area f.wall f.heat f.number
made_of f = refl

-- the fields that a toxic and a flammable card with this number are read from
unfoldable pub toxic_fields : ToxicCard → ℕ → Fields
toxic_fields card number =
    let h = held_in (Some card.containment) in
    made 1 (state_in (Some card.state)) (ground_in (Some card.topography)) h.0
    card.cas card.quantity.0 h.1 h.2 (tenths_in card.tenths) number

unfoldable pub flammable_fields : FlammableCard → ℕ → Fields
flammable_fields card number = made 2 0 0 0 card.cas card.quantity.0 0 0 0 number

pub toxic_fields_lem : (f : Fields) (last : ℕ) {card : ToxicCard} → f.heat < 2 ^ 16 → meaning_of f last ≡ Ok (meaning.Toxic card) → f ≡ toxic_fields card f.number
unfolding toxic_fields
toxic_fields_lem f last h e =
    let t = toxic_from f last e in
    let c = held_bytes f.containment f.area f.wall t.held in
    cc (made_of f, state_byte f.state t.state, ground_byte_lem f.topography t.topography, tenths_bytes f h)

-- a flammable meaning comes of a flammable shape
flammable_shaped : (f : Fields) (last : ℕ) {card : FlammableCard} → meaning_of f last ≡ Ok (meaning.Flammable card) → shape_of f ≡ Ok shape.Flammable
unfolding meaning_of
flammable_shaped f last {card} e = go (bad_number f.number last) (shape_of f) refl e
  where
    go : (b : Bool) (s : Result Shape Refusal) → shape_of f ≡ s → meaning_if b refusal.Number (shaped s f) ≡ Ok (meaning.Flammable card) → shape_of f ≡ Ok shape.Flammable
    go true s p q = clash (cc)
    go false (Ok (shape.Toxic standing)) p q =
        absurd (omega (arith, (toxic_shape f p).kind, (flammable_from f last e).kind))
    go false (Ok shape.Flammable) p q = p
    go false (Err r) p q = clash (cc)

pub flammable_fields_lem : (f : Fields) (last : ℕ) {card : FlammableCard} → meaning_of f last ≡ Ok (meaning.Flammable card) → f ≡ flammable_fields card f.number
unfolding flammable_fields
flammable_fields_lem f last e =
    let t = flammable_from f last e in
    let b = flammable_blank f (flammable_shaped f last e) in
    cc (made_of f)

-- one meaning and one number, one set of fields
pub same_fields : (f g : Fields) (last other : ℕ) {m : Result Meaning Refusal} → f.heat < 2 ^ 16 → g.heat < 2 ^ 16 → meaning_of f last ≡ m → meaning_of g other ≡ m → ((r : Refusal) → m ≡ Err r → ⊥) → f.number ≡ g.number → f ≡ g
same_fields f g last other {m = Ok (meaning.Toxic card)} hf hg p q not_refused n = cc (toxic_fields_lem f last hf p, toxic_fields_lem g other hg q)
same_fields f g last other {m = Ok (meaning.Flammable card)} hf hg p q not_refused n = cc (flammable_fields_lem f last p, flammable_fields_lem g other q)
same_fields f g last other {m = Err r} hf hg p q not_refused n = absurd (not_refused r refl)
