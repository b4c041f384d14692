-- What a card comes to is the first of its conditions that holds.
-- Assumes nothing.
use Rattle.std.specs.Prelude.{is_none, ℕ, ◌≡◌, refl, Bool, false, List, drop, Option, Result, Ok, Err}
use Rattle.card.specs.declared.Answer.{Answer}
use Rattle.scenario.specs.declared.Scenario.{Scenario}
use Rattle.std.proofs.lemmas.Bool.Decides.{nat_tests}
use Rattle.std.proofs.Common.{arith}
use Rattle.std.proofs.Math.Bool.{true, not}
use Rattle.search.specs.Places.{among}
use Rattle.exhibits.specs.declared.Toxic.{Toxic}
use Rattle.scenario.specs.declared.Tenths.{Tenths}
use Rattle.combustion.specs.Heats.{is_flammable}
use Rattle.scenario.specs.declared.ToxicCard.{ToxicCard}
use Rattle.scenario.specs.Plan.{plan_of}
use Rattle.fields.specs.declared.Fields.{Fields}
use Rattle.buffer.specs.Numbers.{byte_at}
use Rattle.fields.specs.Layout.{fields_of}
use Rattle.seasons.specs.declared.Season.{Season}
use Rattle.seasons.specs.Seasons.{season_of, bad_season}
use Rattle.refusals.specs.declared.Refusal.{Refusal}
use Rattle.refusals.specs.declared.Refusal.TheVariants as refusal
use Rattle.form.specs.declared.Standing.{Standing}
use Rattle.form.specs.declared.Shape.TheVariants as shape
use Rattle.ranges.specs.Ranges.{bad_pounds, bad_area, bad_wall, bad_heat, signed, tenths_of, bad_tenths, is_out_of_range, bounds_if, bounds_of}
use Rattle.meaning.specs.declared.Meaning.{Meaning}
use Rattle.meaning.specs.declared.Meaning.TheVariants as meaning
use Rattle.form.specs.Form.{shape_of}
use Rattle.meaning.specs.Reading.{substance_of, is_listed, meaning_if, toxic_bounded, toxic_meaning, flammable_of, meaning_of}
use Rattle.form.specs.Inverse.{Stands, toxic_shape, flammable_shape}
use Rattle.form.specs.Same.{flammable_blank}
use Rattle.card.specs.Stock.{in_season, stock_of}
use Rattle.card.specs.Answers.{planned_answer, answer_by, answer_for, answer_of}
use Rattle.conditions.specs.Conditions.{of_flammable, bad_cas, bad_temperature, bad_concentration, mismatched, beyond_plan, beyond, of_card}
use Rattle.conditions.specs.First.{Verdict, passed, refused, pick, first_of}
use Rattle.conditions.proofs.Form.{form_is}
use Rattle.conditions.proofs.Substances.{pure_listed, pure_in_range, solution_listed, solution_range}
use Rattle.conditions.proofs.Mismatch.{mismatch_none, mismatch_is}
use Rattle.conditions.proofs.Vessel.{card_from, card_made, ground_made}
use Rattle.conditions.proofs.Beyond.{reading_beyond}

-- an answer, or a refusal
abbrev pub verdict_of : Result Answer Refusal → Verdict
verdict_of (Ok a) = passed
verdict_of (Err r) = refused r

-- what the lines behind 6 come to, where the form is sound
abbrev behind_form : List ℕ → Verdict
behind_form card = first_of (drop 2 (of_card card 0))

-- ---- a check is a line of the table: where the same test decides both, and what comes behind them is the same

-- of any call, by what it makes of a meaning, where it passes a refusal on
module _ (told : Result Meaning Refusal → Verdict) (refusing : (r : Refusal) → told (Err r) ≡ refused r) where
  -- a check of a meaning
  meaning_line : (b : Bool) (r : Refusal) (further : Result Meaning Refusal) {v : Verdict} → (b ≡ false → told further ≡ v) → told (meaning_if b r further) ≡ pick b r v
  meaning_line b r further h = grind (arith, refusing, h)

  -- a check of a toxic card's ranges; the line may say its test in other words
  bounds_line : (f : Fields) (x : Toxic) (standing : Standing) (b t : Bool) (r : Refusal) (further : Result Tenths Refusal) {v : Verdict} → b ≡ t → (b ≡ false → told (toxic_bounded further f x standing) ≡ v) → told (toxic_bounded (bounds_if b r further) f x standing) ≡ pick t r v
  bounds_line f x standing b t r further e h = grind (arith, refusing, h)

-- a line whose test fails is passed over
unmet : (b : Bool) (r : Refusal) {v w : Verdict} → b ≡ false → v ≡ w → v ≡ pick b r w
unmet b r e h = grind arith

-- a form is refused for its form
pub form_refused : (f : Fields) {r : Refusal} → shape_of f ≡ Err r → refusal.Form ≡ r
unfolding shape_of
form_refused f {r} e = grind arith

-- 11 of a toxic card
beyond_toxic : (card : List ℕ) (standing : Standing) → Stands (fields_of card) standing → beyond card ≡ beyond_plan (plan_of (card_from (fields_of card) standing)) standing.topography
unfolding beyond fields_of
beyond_toxic card standing from =
    grind (arith, nat_tests, from.kind, card_made card standing from, ground_made card standing from)

-- 7, 15 and 16 of a toxic card, by byte 1
module _ (card : List ℕ) where
  listed_is : byte_at card 0 ≡ 1 → bad_cas card ≡ not (is_listed (substance_of (fields_of card)))
  unfolding fields_of substance_of bad_cas
  listed_is e = grind (arith, nat_tests, solution_listed card, pure_listed card)

  heat_is : bad_tenths (tenths_of (fields_of card)) ≡ bad_temperature card
  unfolding fields_of tenths_of
  heat_is = grind (arith, nat_tests)

  concentration_is : is_listed (substance_of (fields_of card)) ≡ true → is_out_of_range (substance_of (fields_of card)) ≡ bad_concentration card
  unfolding fields_of substance_of
  concentration_is h =
      grind (arith, nat_tests, solution_range (fields_of card).cas (fields_of card).heat, pure_in_range (fields_of card).cas)

-- ---- a toxic card, of any call

-- what 7 to 9 and 14 to 16 come to, all that a card's meaning asks, in front of a verdict
abbrev pub up_to_meaning : List ℕ → Verdict → Verdict
up_to_meaning card further =
    pick (bad_cas card) refusal.Unlisted
    (pick (bad_pounds (fields_of card).pounds) refusal.Quantity
    (pick (bad_area (byte_at card 3) (fields_of card).area) refusal.Area
    (pick (bad_wall (fields_of card).wall) refusal.Wall
    (pick (bad_temperature card) refusal.Temperature
    (pick (bad_concentration card) refusal.Concentration further)))))

-- What any call makes of a toxic card whose form is sound: these in turn, and behind them what it makes of the card in meaning, which
-- goes by whether 10 holds. What else a call asks of a card, and in which turn, is its own.
pub toxic_verdict : (told : Result Meaning Refusal → Verdict) (refusing : (r : Refusal) → told (Err r) ≡ refused r) (card : List ℕ) (standing : Standing) (further : Bool → Verdict) → shape_of (fields_of card) ≡ Ok (shape.Toxic standing) → told (Ok (meaning.Toxic (card_from (fields_of card) standing))) ≡ further (is_none (plan_of (card_from (fields_of card) standing))) → told (toxic_meaning (substance_of (fields_of card)) (fields_of card) standing) ≡ up_to_meaning card (further (mismatched card))
unfolding toxic_meaning bounds_of fields_of
toxic_verdict told refusing card standing further e h =
    let from = toxic_shape (fields_of card) e in
    grind (arith, refusing, listed_is card from.kind, heat_is card, concentration_is card, mismatch_is card standing from, h)

-- ---- the register's call

-- what the register's call makes of a meaning, with the season that the card has
abbrev verdict_for : List ℕ → Result Meaning Refusal → Verdict
verdict_for card m = verdict_of (answer_for (in_season m (season_of card)) (fields_of card).number)

-- ---- a flammable card

flammable_verdict : (card : List ℕ) → shape_of (fields_of card) ≡ Ok shape.Flammable → verdict_for card (flammable_of (fields_of card)) ≡ behind_form card
unfolding flammable_of fields_of of_flammable is_flammable of_card first_of bad_cas beyond bad_area bad_wall bad_heat signed among
flammable_verdict card e =
    let b = flammable_blank (fields_of card) e in
    grind (arith, nat_tests, flammable_shape (fields_of card) e, b, mismatch_none card 0 b.state refl)

-- ---- a toxic card

-- 21 comes before all that is asked of a meaning
season_verdict : (card : List ℕ) (m : Meaning) → verdict_for card (Ok m) ≡ pick (bad_season (season_of card)) refusal.Day (verdict_of (answer_by m (season_of card) (fields_of card).number))
season_verdict card m = grind arith

plan_verdict : (n : ℕ) (season : Season) (p : Option Scenario) (card : ToxicCard) → verdict_of (planned_answer p n season card) ≡ pick (is_none p) refusal.Mismatch (pick (beyond_plan p card.topography) refusal.Beyond passed)
plan_verdict n season p card = grind (arith, reading_beyond)

toxic_card_verdict : (card : List ℕ) (standing : Standing) → shape_of (fields_of card) ≡ Ok (shape.Toxic standing) → verdict_for card (toxic_meaning (substance_of (fields_of card)) (fields_of card) standing) ≡ behind_form card
unfolding of_card first_of
toxic_card_verdict card standing e =
    let made : ToxicCard = card_from (fields_of card) standing in
    let behind : Bool → Verdict = λ b. pick (bad_season (season_of card)) refusal.Day (pick b refusal.Mismatch (pick (beyond card) refusal.Beyond passed)) in
    toxic_verdict (verdict_for card) (λ r. refl) card standing behind e
    (grind (
      arith,
      season_verdict card (meaning.Toxic made),
      plan_verdict (fields_of card).number (season_of card) (plan_of made) made,
      beyond_toxic card standing (toxic_shape (fields_of card) e),
    ))

-- ---- any card

-- a card is refused by the first of its conditions that holds, and answered where none does
pub card_verdict : (card : List ℕ) (last : ℕ) → verdict_of (answer_of card last) ≡ first_of (of_card card last)
unfolding answer_of stock_of meaning_of of_card first_of
card_verdict card last =
    grind (arith, form_is card, form_refused (fields_of card), toxic_card_verdict card, flammable_verdict card)
