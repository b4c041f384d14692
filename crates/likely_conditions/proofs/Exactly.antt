-- Demand 1 of the call for a likely scenario, proved: it gives exactly the first refusal whose condition holds, and tells a scenario exactly
-- when none does.
-- Assumes nothing.
use Rattle.std.specs.Prelude.{Option, Result, Ok, Err}
use Rattle.std.specs.Option.{is_none}
use Rattle.scenario.specs.declared.Scenario.{Scenario}
use Prim.Native.Nat.{ℕ, zero, suc}
use Rattle.std.proofs.Common.{arith, ◌∙◌, subst, inl, inr}
use Rattle.std.specs.Prelude.{◌≡◌, Bool, List, ◌⊎◌}
use Rattle.std.proofs.lemmas.Bool.Decides.{nat_tests}
use Rattle.std.proofs.Math.Path.{refl, sym, ap}
use Rattle.std.proofs.Math.Bool.{true, false}
use Rattle.search.specs.Places.{among}
use Rattle.exhibits.specs.Lines.{endpoint_of}
use Rattle.scenario.specs.declared.ToxicCard.{ToxicCard}
use Rattle.scenario.specs.Plan.{plan_of}
use Rattle.fields.specs.Layout.{fields_of}
use Rattle.refusals.specs.declared.Refusal.{Refusal}
use Rattle.refusals.specs.declared.Refusal.TheVariants as refusal
use Rattle.form.specs.declared.Standing.{Standing}
use Rattle.form.specs.declared.Shape.{Shape}
use Rattle.form.specs.declared.Shape.TheVariants as shape
use Rattle.form.specs.Form.{shape_of}
use Rattle.form.specs.Inverse.{toxic_shape, flammable_shape}
use Rattle.conditions.specs.Conditions.{unlisted, bad_form, mismatched, toxic_card, Condition}
use Rattle.conditions.specs.First.{Verdict, passed, refused, pick, first_of, first_here, first_elsewhere}
use Rattle.conditions.proofs.Form.{form_is}
use Rattle.conditions.proofs.Vessel.{card_from, card_made}
use Rattle.conditions.proofs.Cards.{form_refused, up_to_meaning, toxic_verdict}
use Rattle.conditions.proofs.Tables.{Passes, Refuses, exactly_by}
use Rattle.likely_scenario.specs.declared.LikelyScenario.{LikelyScenario}
use Rattle.likely_scenario.specs.LikelyScenario.{planned_likely, meant_likely, shaped_likely, card_likely, likely_of}
use Rattle.likely_conditions.specs.Conditions.{not_toxic_form, beyond_likely, of_likely, likely_conditions_at}
use Rattle.likely_conditions.specs.Claim.{LikelyExactly}
use Rattle.likely_conditions.proofs.Beyond.{reading_unanswered, EndsAt, endpoint_is}

-- a scenario, or a refusal
abbrev verdict_of : Result LikelyScenario Refusal → Verdict
verdict_of (Ok s) = passed
verdict_of (Err r) = refused r

-- ---- 10 and 11

module _ (rate minutes : ℕ) where
  plan_verdict : (p : Option Scenario) (card : ToxicCard) → EndsAt (endpoint_of card.entry) p → verdict_of (planned_likely p card rate minutes) ≡ pick (is_none p) refusal.Mismatch (pick (beyond_likely card rate minutes) refusal.Beyond passed)
  unfolding beyond_likely
  plan_verdict p card e = grind (arith, reading_unanswered, e)

-- ---- 6

-- every shape but a toxic one is sent back
abbrev is_sent_back : Result Shape Refusal → Bool
is_sent_back (Ok (shape.Toxic standing)) = false
is_sent_back (Ok shape.Flammable) = true
is_sent_back (Err r) = true

-- 6 holds exactly of those
form_line : (card : List ℕ) → not_toxic_form card ≡ is_sent_back (shape_of (fields_of card))
unfolding not_toxic_form bad_form unlisted among fields_of
form_line card =
    grind (arith, nat_tests, form_is card, toxic_shape (fields_of card), flammable_shape (fields_of card))

-- ---- the card, and what is supplied

module _ (card : List ℕ) (rate minutes : ℕ) where
  -- what 10 and 11 come to, by whether 10 holds: a card of 24 bytes has no days, so that 21 is not among what is asked
  abbrev last_lines : Bool → Verdict
  last_lines b = pick b refusal.Mismatch (pick (beyond_likely (toxic_card card) rate minutes) refusal.Beyond passed)

  -- what all lines behind 6 come to
  abbrev behind_form : Verdict
  behind_form = up_to_meaning card (last_lines (mismatched card))

  toxic_card_verdict : (standing : Standing) → shape_of (fields_of card) ≡ Ok (shape.Toxic standing) → verdict_of (shaped_likely (Ok (shape.Toxic standing)) (fields_of card) rate minutes) ≡ behind_form
  toxic_card_verdict standing e =
      let made : ToxicCard = card_from (fields_of card) standing in
      toxic_verdict (λ m. verdict_of (meant_likely m rate minutes)) (λ r. refl) card standing last_lines e
      (grind (arith, plan_verdict rate minutes (plan_of made) made (endpoint_is made), card_made card standing (toxic_shape (fields_of card) e)))

  card_verdict : verdict_of (card_likely card rate minutes) ≡ pick (not_toxic_form card) refusal.Form behind_form
  card_verdict = grind (arith, form_line card, form_refused (fields_of card), toxic_card_verdict)

  -- the call comes to the first of the conditions that holds
  likely_verdict : verdict_of (likely_of card rate minutes) ≡ first_of (of_likely card rate minutes)
  unfolding likely_of of_likely first_of
  likely_verdict = grind (arith, card_verdict)

  -- ---- by place

  abbrev table : ℕ → List Condition
  table = likely_conditions_at card rate minutes

  at_first : first_of (table 0) ≡ verdict_of (likely_of card rate minutes)
  unfolding likely_conditions_at
  at_first = first_here (of_likely card rate minutes) ∙ sym likely_verdict

  abbrev Told : Type 0
  Told = (s : LikelyScenario) × (likely_of card rate minutes ≡ Ok s)

  abbrev SentBack : Refusal → ℕ → Type 0
  SentBack r place = (likely_of card rate minutes ≡ Err r) × (place ≡ 0)

  passes : Told → Passes table
  unfolding likely_conditions_at
  passes t zero = at_first ∙ ap verdict_of t.1
  passes t (suc p) = grind (arith, nat_tests, first_elsewhere (of_likely card rate minutes))

  refuses : (r : Refusal) (place : ℕ) → SentBack r place → Refuses table r place
  refuses r place t =
      subst (Refuses table r) (sym t.1) (at_first ∙ ap verdict_of t.0, λ p h. absurd (omega arith))

  -- it tells a scenario or refuses
  ends : (a : Result LikelyScenario Refusal) → likely_of card rate minutes ≡ a → Told ⊎ ((r : Refusal) × (place : ℕ) × SentBack r place)
  ends (Ok s) e = inl (s, e)
  ends (Err r) e = inr (r, 0, (e, refl))

pub likely_exactly : LikelyExactly
likely_exactly card rate minutes =
    exactly_by (likely_conditions_at card rate minutes) (SentBack card rate minutes) (Told card rate minutes)
    (ends card rate minutes (likely_of card rate minutes) refl)
    (passes card rate minutes)
    (refuses card rate minutes)
