-- Request A8, proved: no reported rate is below the exact one, and none is off by more than the request says.
-- Assumes nothing.
use Rattle.std.specs.Prelude.{ℕ, ◌+◌, ◌*◌, ◌≤◌, ◌<◌, ◌^◌, ◌≡◌, Bool, false, List, get_or, Option, Some, None, Result, Ok, Err}
use Rattle.refusals.specs.declared.Refusal.{Refusal}
use Rattle.std.proofs.Common.{arith, ◌∙◌, sym, subst, subst₂}
use Rattle.std.proofs.Math.Path.{refl}
use Rattle.search.specs.Laws.{clash}
use Rattle.exhibits.specs.declared.Plume.{Plume}
use Rattle.exhibits.specs.declared.Toxic.{Toxic}
use Rattle.exhibits.specs.declared.Toxic.TheVariants as variants
use Rattle.exhibits.specs.declared.Gas as gases
use Rattle.exhibits.specs.declared.Liquid as liquids
use Rattle.exhibits.specs.Laws.{Within}
use Rattle.exhibits.proofs.Laws.{within}
use Rattle.solutions.proofs.SolutionLaws.{solution_within}
use Rattle.release.specs.Rates.{gas_rate, pool_rate, is_building}
use Rattle.release.proofs.Laws.{product_below}
use Rattle.pool_area.specs.Pool.{pool_area}
use Rattle.pool_area.proofs.Laws.{area_limit}
use Rattle.factors.specs.Factors.{factors_of}
use Rattle.factors.proofs.Laws.{factors_within}
use Rattle.scenario.specs.declared.ToxicCard.{ToxicCard}
use Rattle.scenario.specs.declared.Scenario.{Scenario}
use Rattle.scenario.specs.Plan.{Limits, vapor_of, pool_of, gas_plan, column_in, liquid_plan, plan_for, plan_of}
use Rattle.buffer.specs.Numbers.{byte_at, eight_at, two_bytes, four_bytes}
use Rattle.buffer.proofs.Laws.{eight_in, read_eight}
use Rattle.fields.specs.declared.Fields.{Fields}
use Rattle.fields.specs.Layout.{fields_of}
use Rattle.seasons.specs.declared.Season.{Season}
use Rattle.seasons.specs.Seasons.{season_of}
use Rattle.meaning.specs.declared.Meaning.{Meaning}
use Rattle.meaning.specs.declared.Meaning.TheVariants as meaning
use Rattle.meaning.specs.Reading.{meaning_of}
use Rattle.meaning.specs.States.{by_state}
use Rattle.meaning.specs.Ranges.{ranged}
use Rattle.meaning.specs.Inverse.{toxic_from}
use Rattle.card.specs.declared.Answer.{Answer}
use Rattle.card.specs.Answers.{planned_answer, answer_by, answer_of}
use Rattle.card.specs.Number.{stocked}
use Rattle.encode.specs.Bytes.{answer_bytes}
use Rattle.encode.specs.Laws.{length_answer}
use Rattle.cards.specs.Register.{buffer_of}
use Rattle.ordering.proofs.Order.{answer_first}
use Rattle.ordering.specs.Claim.{card_at}
use Rattle.promises.specs.Buffer.{buffer_answer}
use Rattle.rate_gap.specs.Fractions.{◌over◌, Defined, ◌equals◌}
use Rattle.rate_gap.specs.Exact.{Chain, blast, gas_over, pool_over, gas_chain, liquid_chain, toxic_chain, chain_in, chain_of, route_in, exact_in}
use Rattle.rate_gap.proofs.Rounding.{area_rounded, gas_equals, gas_defined, pool_defined, slack_defined, pool_at_least, pool_below}
use Rattle.rate_gap.specs.Claim.{slack_in, Near, RatesNear}

-- a rate that its answer's eight bytes hold, beside the chain of its card
record Reported (chain : Chain) (route rate : ℕ) : Type 0 where
  near : Near chain route (rate over 1_000)
  fits : rate < 2 ^ 64

-- a rate that equals the exact one, on another route than 2
not_off : (chain : Chain) (route rate : ℕ) → route ≡ route_in chain → (route ≡ 2 → ⊥) → Defined (exact_in chain) → Defined (slack_in chain) → rate over 1_000 equals exact_in chain → Near chain route (rate over 1_000)
not_off chain route rate r n e s h =
    record {
      same_route = r;
      exact_defined = e;
      slack_defined = s;
      at_least = omega (arith, h);
      on_route_1 = λ _. h;
      on_route_3 = λ _. h;
      on_route_2 = λ q. absurd (n q);
    }

-- ---- of a scenario

abbrev NearTo : Chain → Scenario → Type 0
NearTo chain s = Reported chain s.route s.rate.0

-- the same of what is planned, where something is
abbrev Says : Chain → Option Scenario → Type 0
Says chain (Some s) = NearTo chain s
Says chain None = Unit {0}

-- document 01's limits keep a rate within eight bytes
gas_below_limit : (pounds : ℕ) (inside : Bool) → pounds ≤ 10_000_000 → gas_rate pounds inside < 2 ^ 64
gas_below_limit pounds inside h = grind arith

pool_below_limit : (lf tcf area : ℕ) (shed : Bool) → lf ≤ 1_000_000 → tcf ≤ 1_000 → area ≤ 2_600_000_000 → pool_rate lf tcf area shed < 2 ^ 64
unfolding pool_rate
pool_below_limit lf tcf area shed l t a = grind (arith, product_below lf tcf area l t a)

module _ (card : ToxicCard) (limits : Limits card) where
  vapor_near : (endpoint : ℕ) (plume : Plume) → NearTo (gas_over card) (vapor_of card endpoint plume)
  unfolding vapor_of
  vapor_near endpoint plume =
      let inside = is_building card.containment in
      record {
        near =
            not_off (gas_over card) 1 (gas_rate card.quantity.0 inside) refl (λ e. omega arith)
            (gas_defined card.quantity.0 inside) (omega arith) (gas_equals card.quantity.0 inside);
        fits = gas_below_limit card.quantity.0 inside limits.quantity;
      }

  pool_near : (df lf tcf : ℕ) (shed : Bool) (endpoint : ℕ) (plume : Plume) → df ≤ 200 → lf ≤ 1_000_000 → tcf ≤ 1_000
      → NearTo (pool_over card df lf tcf shed) (pool_of card df lf tcf shed endpoint plume)
  unfolding pool_of
  pool_near df lf tcf shed endpoint plume d l t =
      let r = area_rounded card.quantity.0 df card.containment in
      record {
        near =
            record {
              same_route = refl;
              exact_defined = pool_defined lf tcf _ _ r shed;
              slack_defined = slack_defined lf tcf shed;
              at_least = pool_at_least lf tcf _ _ r shed;
              on_route_1 = λ e. absurd (omega arith);
              on_route_3 = λ e. absurd (omega arith);
              on_route_2 = λ _. pool_below lf tcf _ _ r shed;
            };
        fits = pool_below_limit lf tcf (pool_area card.quantity.0 df card.containment) shed l t (area_limit df card.containment limits.quantity d);
      }

  gas_says : (g : gases.Gas) → Within (variants.OfGas g) → Says (gas_chain card.state card g) (gas_plan card.state card g)
  gas_says g w =
      grind (arith, vapor_near g.endpoint g.plume, pool_near g.df g.lfb 100 false g.endpoint g.plume w.df_limit w.lfb_limit (omega arith))

  liquid_says : (l : liquids.Liquid) → Within (variants.OfLiquid l) → Says (liquid_chain (factors_of l (column_in card.tenths)) card l) (liquid_plan card.state card l)
  liquid_says l w =
      grind (
        arith,
        factors_within l (column_in card.tenths) w,
        λ (lf tcf : ℕ) (a : lf ≤ 1_000_000) (b : tcf ≤ 1_000). pool_near l.df lf tcf (is_building card.containment) l.endpoint l.plume w.df_limit a b,
      )

  entry_says : (x : Toxic) → Within x → Says (toxic_chain x card) (plan_for x card)
  entry_says (variants.OfGas g) w = gas_says g w
  entry_says (variants.OfLiquid l) w = liquid_says l w
  entry_says (variants.OfSolution s) w =
      pool_near s.df s.lfa 100 (is_building card.containment) s.endpoint s.plume w.df_limit w.lfa_limit (omega arith)
  entry_says _ w = tt

-- ---- of an answer

abbrev SaysOf : Chain → Result Answer Refusal → Type 0
SaysOf chain (Ok a) = Reported chain a.route a.rate.0
SaysOf chain (Err r) = Unit {0}

plan_says : (p : Option Scenario) (n : ℕ) (season : Season) (card : ToxicCard) (chain : Chain) → Says chain p → SaysOf chain (planned_answer p n season card)
plan_says p n season card chain m = grind (arith, m)

-- a toxic card that was read is within document 01's limits
limits_of : (f : Fields) (last : ℕ) (card : ToxicCard) → meaning_of f last ≡ Ok (meaning.Toxic card) → Limits card
limits_of f last card e =
    let from = toxic_from f last e in
    let range = ranged f last (λ r q. clash (cc)) in
    record {
      quantity = rw (← from.quantity) range.pounds;
      entry =
          subst Within from.entry
          (by_state f (λ x t. Within x) (λ _. solution_within f.cas f.heat) (λ _. within f.cas));
    }

meaning_says : (f : Fields) (last : ℕ) (m : Meaning) (season : Season) (n : ℕ) → meaning_of f last ≡ Ok m → SaysOf (chain_in (Ok m)) (answer_by m season n)
unfolding plan_of
meaning_says f last (meaning.Toxic card) season n e =
    let limits = limits_of f last card e in
    plan_says (plan_of card) n season card (toxic_chain card.entry card) (entry_says card limits card.entry limits.entry)
meaning_says f last (meaning.Flammable card) season n e =
    record { near = not_off blast 3 0 refl (λ q. omega arith) (omega arith) (omega arith) refl; fits = omega arith }

answer_near : (card : List ℕ) (last : ℕ) {a : Answer} → answer_of card last ≡ Ok a → Reported (chain_of card) a.route a.rate.0
unfolding chain_of
answer_near card last e =
    let s = stocked card 0 (answer_first card last e) in
    subst₂ (λ m x. SaysOf (chain_in m) x) (sym s.means) s.answered
    (meaning_says (fields_of card) 0 s.meaning (season_of card) (fields_of card).number s.means)

-- ---- of a register

-- what stands in the answer buffer for a card: its route and its rate
module _ (a : Answer) (bytes : List ℕ) (at : ℕ) (same : (j : ℕ) → j < 16 → get_or bytes (at + j) 0 ≡ get_or (answer_bytes a) j 0) where
  route_reported : byte_at bytes (at + 4) ≡ a.route
  unfolding two_bytes four_bytes answer_bytes
  route_reported = same 4 (omega arith)

  rate_reported : a.rate.0 < 2 ^ 64 → eight_at bytes (at + 6) ≡ a.rate.0
  unfolding two_bytes four_bytes answer_bytes
  rate_reported h =
      eight_in (answer_bytes a) bytes at (λ j k. same j (omega (arith, length_answer a))) 6 (omega (arith, length_answer a))
      ∙ read_eight a.rate.0 (two_bytes a.distance.0) h

pub rates_near : RatesNear
rates_near register buffer l e i h =
    let t = buffer_answer register buffer l e i h in
    let n = answer_near (card_at register i) t.1 t.2 in
    subst₂ (λ (route rate : ℕ). Near (chain_of (card_at register i)) route (rate over 1_000))
    (sym (route_reported t.0 (buffer_of register buffer) (16 * i) t.3))
    (sym (rate_reported t.0 (buffer_of register buffer) (16 * i) t.3 n.fits))
    n.near
