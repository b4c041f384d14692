-- The counterpart of a card, from the bytes, and the law on two cards: a counterpart never answers less.
-- Assumes nothing.
use Rattle.std.specs.Prelude.{ℕ, ◌≤◌, ◌≡◌, refl, List, ◌⊎◌, Option, Some, None, Ok}
use Rattle.std.proofs.Common.{arith, ◌∙◌, sym, ap, inl, inr, ⊎_elim}
use Rattle.std.proofs.lemmas.Bool.Decides.{nat_tests}
use Rattle.search.specs.Laws.{clash}
use Rattle.dispersion.specs.Tables.{reading_of}
use Rattle.dispersion.proofs.Laws.{reading_mono}
use Rattle.blast.specs.Blast.{ring_of}
use Rattle.blast.proofs.Laws.{fuller_no_smaller}
use Rattle.scenario.specs.declared.ToxicCard.{ToxicCard}
use Rattle.scenario.specs.declared.Scenario.{Scenario}
use Rattle.scenario.specs.Plan.{plan_of}
use Rattle.scenario.specs.Order.{Fuller, plan_faster}
use Rattle.fields.specs.declared.Fields.{Fields}
use Rattle.buffer.specs.Numbers.{byte_at}
use Rattle.fields.specs.Layout.{fields_of}
use Rattle.meaning.specs.declared.FlammableCard.{FlammableCard}
use Rattle.seasons.specs.declared.Season.{Season}
use Rattle.seasons.specs.Seasons.{season_of}
use Rattle.meaning.specs.declared.Meaning.{Meaning}
use Rattle.meaning.specs.declared.Meaning.TheVariants as meaning
use Rattle.form.specs.Form.{state_of, ground_of, held_of}
use Rattle.form.specs.Inverse.{state_is, ground_is, held_looser}
use Rattle.meaning.specs.Reading.{bad_number, meaning_of}
use Rattle.meaning.specs.States.{same_entry, same_tenths}
use Rattle.meaning.specs.Inverse.{ToxicFrom, FlammableFrom, toxic_from, flammable_from}
use Rattle.card.specs.declared.Class.TheVariants as class
use Rattle.card.specs.declared.Answer.{Answer}
use Rattle.card.specs.Stock.{stock_of}
use Rattle.card.specs.Answers.{planned_answer, answer_by, answer_of}
use Rattle.card.specs.Number.{stocked}
use Rattle.ordering.specs.Order.{kind_of, route_in, table_in, route_of, table_of, Counterpart}

-- what a toxic answer was read from
record ToxicAnswer (card : ToxicCard) (a : Answer) : Type 0 where
  scenario : Scenario
  plan : plan_of card ≡ Some scenario
  class : a.class ≡ class.Toxic
  route : scenario.route ≡ a.route
  table : scenario.table ≡ a.table
  reading : reading_of scenario.table card.topography scenario.rate.0 scenario.endpoint ≡ Some a.distance

toxic_answer : (card : ToxicCard) (p : Option Scenario) (n : ℕ) (season : Season) {a : Answer} → plan_of card ≡ p → planned_answer p n season card ≡ Ok a → ToxicAnswer card a
toxic_answer card (Some s) n season {a} q e =
    let t : (a.class ≡ class.Toxic) × (s.route ≡ a.route) × (s.table ≡ a.table) × (reading_of s.table card.topography s.rate.0 s.endpoint ≡ Some a.distance) = grind (arith, e) in
    record { scenario = s; plan = q; class = t.0; route = t.1; table = t.2; reading = t.3 }
toxic_answer card None n season q e = clash (cc)

-- a card that is answered is a toxic or a flammable one
record ToxicBytes (f : Fields) (a : Answer) : Type 0 where
  card : ToxicCard
  from : ToxicFrom f card
  answer : ToxicAnswer card a

record FlammableBytes (f : Fields) (a : Answer) : Type 0 where
  card : FlammableCard
  from : FlammableFrom f card
  class : a.class ≡ class.Flammable
  distance : ring_of card.cas card.quantity.0 ≡ a.distance

answered_from : (f : Fields) (last : ℕ) (m : Meaning) (season : Season) {a : Answer} → meaning_of f last ≡ Ok m → answer_by m season f.number ≡ Ok a → ToxicBytes f a ⊎ FlammableBytes f a
answered_from f last (meaning.Toxic card) season p e =
    inl (record { card = card; from = toxic_from f last p; answer = toxic_answer card (plan_of card) f.number season refl e })
answered_from f last (meaning.Flammable card) season p e =
    inr (record { card = card; from = flammable_from f last p; class = grind (arith, e); distance = grind (arith, e) })

from_bytes : (x : List ℕ) (last : ℕ) {a : Answer} → answer_of x last ≡ Ok a → ToxicBytes (fields_of x) a ⊎ FlammableBytes (fields_of x) a
from_bytes x last e =
    let s = stocked x last e in
    answered_from (fields_of x) last s.meaning (season_of x) s.means s.answered

-- an answered card has the same answer as a first card: its number is above 0
pub answer_first : (x : List ℕ) (last : ℕ) {a : Answer} → answer_of x last ≡ Ok a → answer_of x 0 ≡ Ok a
unfolding answer_of stock_of meaning_of bad_number
answer_first x last e = grind (arith, nat_tests, e)

pub route_is : (x : List ℕ) (last : ℕ) {a : Answer} → answer_of x last ≡ Ok a → route_of x ≡ a.route
unfolding route_of
route_is x last e = ap route_in (answer_first x last e)

pub table_is : (x : List ℕ) (last : ℕ) {a : Answer} → answer_of x last ≡ Ok a → table_of x ≡ a.table
unfolding table_of
table_is x last e = ap table_in (answer_first x last e)

-- two toxic cards: the second is the fuller
fuller : {x y : List ℕ} {a b : ToxicCard} → Counterpart x y → ToxicFrom (fields_of x) a → ToxicFrom (fields_of y) b → Fuller a b
unfolding fields_of
fuller {x} {y} {a} {b} s p q =
    let f : Fields = fields_of x in
    let g : Fields = fields_of y in
    record {
      cas = sym p.cas ∙ (s.cas ∙ q.cas);
      entry = sym p.entry ∙ (same_entry f g s.cas s.state s.temperature ∙ q.entry);
      state = state_is (sym p.state ∙ (ap state_of s.state ∙ q.state));
      topography = ground_is (sym p.topography ∙ (ap ground_of s.topography ∙ q.topography));
      tenths = sym p.tenths ∙ (same_tenths f g s.cas s.state s.temperature ∙ q.tenths);
      quantity = rw (← p.quantity, ← q.quantity) s.quantity;
      containment =
          held_looser f.containment f.area f.wall g.area g.wall (λ e. (s.dike_area e, s.wall e)) s.floor s.shed_floor p.held
          (ap (λ k. held_of k g.area g.wall) s.containment ∙ q.held);
    }

toxic_ordered : {x y : List ℕ} {a b : Answer} → Counterpart x y → (v : ToxicBytes (fields_of x) a) (w : ToxicBytes (fields_of y) b) → a.route ≡ b.route → a.table ≡ b.table → a.distance.0 ≤ b.distance.0
toxic_ordered {x} {y} {a} {b} s v w r t =
    let p = v.answer in
    let q = w.answer in
    let f = fuller s v.from w.from in
    let h = plan_faster v.card w.card f p.plan q.plan (p.route ∙ (r ∙ sym q.route)) in
    let u = p.scenario in
    let far : reading_of u.table v.card.topography q.scenario.rate.0 u.endpoint ≡ Some b.distance =
    cc (q.reading, q.table, p.table, t, f.topography, h.endpoint) in
    reading_mono u.table v.card.topography u.endpoint u.rate.0 q.scenario.rate.0 a.distance b.distance h.rate p.reading far

flammable_ordered : {x y : List ℕ} {a b : Answer} → Counterpart x y → (v : FlammableBytes (fields_of x) a) (w : FlammableBytes (fields_of y) b) → a.distance.0 ≤ b.distance.0
unfolding fields_of
flammable_ordered {x} {y} {a} {b} s v w =
    let h : v.card.quantity.0 ≤ w.card.quantity.0 = rw (← v.from.quantity, ← w.from.quantity) s.quantity in
    let far : ring_of v.card.cas w.card.quantity.0 ≡ b.distance = cc (v.from.cas, s.cas, w.from.cas, w.distance) in
    rw (← v.distance, ← far) (fuller_no_smaller v.card.cas v.card.quantity.0 w.card.quantity.0 h)

-- The law on two cards: a counterpart by the same route and table is of the same class and never answers less.
pub record NoLess (a b : Answer) : Type 0 where
  pub class : a.class ≡ b.class
  pub distance : a.distance.0 ≤ b.distance.0

ordered : {x y : List ℕ} {a b : Answer} → Counterpart x y → a.route ≡ b.route → a.table ≡ b.table → ToxicBytes (fields_of x) a ⊎ FlammableBytes (fields_of x) a → ToxicBytes (fields_of y) b ⊎ FlammableBytes (fields_of y) b → NoLess a b
unfolding fields_of
ordered s r t (inl v) (inl w) =
    record { class = v.answer.class ∙ sym w.answer.class; distance = toxic_ordered s v w r t }
ordered s r t (inr v) (inr w) = record { class = v.class ∙ sym w.class; distance = flammable_ordered s v w }
ordered s r t (inl v) (inr w) = absurd (omega (arith, v.from.kind, s.kind, w.from.kind))
ordered s r t (inr v) (inl w) = absurd (omega (arith, v.from.kind, s.kind, w.from.kind))

pub cards_ordered : (x y : List ℕ) (last next : ℕ) {a b : Answer} → Counterpart x y → answer_of x last ≡ Ok a → answer_of y next ≡ Ok b → NoLess a b
cards_ordered x y last next c p q =
    ordered c
    (sym (route_is x last p) ∙ (c.route ∙ route_is y next q))
    (sym (table_is x last p) ∙ (c.table ∙ table_is y next q))
    (from_bytes x last p)
    (from_bytes y next q)

-- the class of an answered card is its kind
pub class_is : (x : List ℕ) (last : ℕ) {a : Answer} → answer_of x last ≡ Ok a → byte_at x 0 ≡ kind_of a.class
unfolding fields_of
class_is x last {a} e =
    ⊎_elim (λ (t : ToxicBytes (fields_of x) a). t.from.kind ∙ ap kind_of (sym t.answer.class)) (λ (t : FlammableBytes (fields_of x) a). t.from.kind ∙ ap kind_of (sym t.class)) (from_bytes x last e)
