-- A fuller or less walled vessel never has the lower rate on the same route.
-- Assumes nothing.
use Rattle.std.specs.Prelude.{ℕ, ◌≤◌, ◌≡◌, Bool, true, false, ◌⊎◌, Option, Some, None}
use Rattle.std.proofs.Common.{arith, ◌∙◌, sym, ap, inl, inr}
use Rattle.std.proofs.Math.Path.{refl, subst}
use Rattle.exhibits.specs.declared.Plume.{Plume}
use Rattle.exhibits.specs.declared.Toxic.{Toxic}
use Rattle.exhibits.specs.declared.Toxic.TheVariants as variants
use Rattle.exhibits.specs.declared.Gas as gases
use Rattle.exhibits.specs.declared.Liquid as liquids
use Rattle.release.specs.declared.Containment.{Containment}
use Rattle.release.specs.declared.Containment.TheVariants.{Open, Dike, Building, ShedWithDoors}
use Rattle.release.specs.Rates.{gas_rate, is_building}
use Rattle.pool_area.specs.Pool.{beyond_dike}
use Rattle.release.proofs.Laws.{gas_mono, pool_mono}
use Rattle.pool_area.specs.Laws.{Looser, open_open, dike_dike, building_building, shed_shed}
use Rattle.pool_area.proofs.Laws.{area_mono}
use Rattle.which_table.specs.declared.State.{State}
use Rattle.which_table.specs.declared.State.TheVariants.{Gas, Pressurized, Refrigerated, Liquid, Solution}
use Rattle.scenario.specs.declared.ToxicCard.{ToxicCard}
use Rattle.scenario.specs.declared.Scenario.{Scenario}
use Rattle.factors.specs.Factors.{factors_of}
use Rattle.scenario.specs.Plan.{vapor_of, pool_of, undiked, pooled, gas_plan, column_in, factored, liquid_plan, plan_for, plan_of}

-- the second card holds the same substance in the same way, at least as much of it, and no better contained
pub record Fuller (a b : ToxicCard) : Type 0 where
  pub cas : a.cas ≡ b.cas
  pub entry : a.entry ≡ b.entry
  pub state : a.state ≡ b.state
  pub topography : a.topography ≡ b.topography
  pub tenths : a.tenths ≡ b.tenths
  pub quantity : a.quantity.0 ≤ b.quantity.0
  pub containment : Looser a.containment b.containment

-- what the order says of two scenarios: no lower rate, read at the same endpoint
pub record Faster (s t : Scenario) : Type 0 where
  pub rate : s.rate.0 ≤ t.rate.0
  pub endpoint : s.endpoint ≡ t.endpoint

same_kind : {c e : Containment} → Looser c e → is_building c ≡ is_building e
same_kind open_open = refl
same_kind (dike_dike d e a w) = refl
same_kind (building_building b e f) = refl
same_kind (shed_shed s e f) = refl

planned_is : {s t : Scenario} → ◌≡◌ {A = (Option Scenario)} (Some s) (Some t) → s ≡ t
planned_is e = cc

not_planned : {s : Scenario} → ◌≡◌ {A = (Option Scenario)} None (Some s) → ⊥
not_planned e = let z : ◌≡◌ {A = ℕ} 0 1 = cc in omega arith

undiked_is : (c : Containment) {s t : Scenario} → undiked c s ≡ Some t → s ≡ t
undiked_is Open e = planned_is e
undiked_is (Dike d) e = absurd (not_planned e)
undiked_is (Building b) e = planned_is e
undiked_is (ShedWithDoors d) e = planned_is e

pooled_is : (b : Bool) {p v t : Scenario} → pooled b p v ≡ Some t → (p ≡ t) ⊎ (v ≡ t)
pooled_is true e = inl (planned_is e)
pooled_is false e = inr (planned_is e)

-- both scenarios are those that two equations name
named : {p q s t : Scenario} → p ≡ s → q ≡ t → Faster p q → Faster s t
named {p} {q} {s} {t} e g h = subst (λ x. Faster x t) e (subst (λ y. Faster p y) g h)

-- two refrigerated cards on the same route: both pools or both vapors
cold : {p v q w s t : Scenario} → (p ≡ s) ⊎ (v ≡ s) → (q ≡ t) ⊎ (w ≡ t) → s.route ≡ t.route → p.route ≡ 2 → q.route ≡ 2 → v.route ≡ 1 → w.route ≡ 1 → Faster p q → Faster v w → Faster s t
cold (inl x) (inl y) r a b c d h k = named x y h
cold (inr x) (inr y) r a b c d h k = named x y k
cold {p} {v} {q} {w} {s} {t} (inl x) (inr y) r a b c d h k =
    let z : ◌≡◌ {A = ℕ} 2 1 = sym a ∙ (ap (λ (n : Scenario). n.route) x ∙ (r ∙ (sym (ap (λ (n : Scenario). n.route) y) ∙ d))) in
    absurd (omega arith)
cold {p} {v} {q} {w} {s} {t} (inr x) (inl y) r a b c d h k =
    let z : ◌≡◌ {A = ℕ} 1 2 = sym c ∙ (ap (λ (n : Scenario). n.route) x ∙ (r ∙ (sym (ap (λ (n : Scenario). n.route) y) ∙ b))) in
    absurd (omega arith)

vapor_route : (card : ToxicCard) (endpoint : ℕ) (plume : Plume) → (vapor_of card endpoint plume).route ≡ 1
unfolding vapor_of
vapor_route card endpoint plume = refl

pool_route : (card : ToxicCard) (df lf tcf : ℕ) (shed : Bool) (endpoint : ℕ) (plume : Plume) → (pool_of card df lf tcf shed endpoint plume).route ≡ 2
unfolding pool_of
pool_route card df lf tcf shed endpoint plume = refl

module _ (a b : ToxicCard) (f : Fuller a b) where
  vapor_faster : (endpoint : ℕ) (plume : Plume) → Faster (vapor_of a endpoint plume) (vapor_of b endpoint plume)
  unfolding vapor_of
  vapor_faster endpoint plume =
      record {
        rate =
            subst (λ k. gas_rate a.quantity.0 (is_building a.containment) ≤ gas_rate b.quantity.0 k)
            (same_kind f.containment)
            (gas_mono (is_building a.containment) f.quantity);
        endpoint = refl;
      }

  pool_faster : (df lf tcf : ℕ) (shed : Bool) (endpoint : ℕ) (plume : Plume) → Faster (pool_of a df lf tcf shed endpoint plume) (pool_of b df lf tcf shed endpoint plume)
  unfolding pool_of
  pool_faster df lf tcf shed endpoint plume =
      record { rate = pool_mono lf tcf shed (area_mono df f.quantity f.containment); endpoint = refl }

  -- the same with the shed factor of their containments
  shed_faster : (df lf tcf endpoint : ℕ) (plume : Plume) → Faster (pool_of a df lf tcf (is_building a.containment) endpoint plume) (pool_of b df lf tcf (is_building b.containment) endpoint plume)
  shed_faster df lf tcf endpoint plume =
      subst (λ k. Faster (pool_of a df lf tcf (is_building a.containment) endpoint plume) (pool_of b df lf tcf k endpoint plume))
      (same_kind f.containment)
      (pool_faster df lf tcf (is_building a.containment) endpoint plume)

  gas_faster : (st : State) (g : gases.Gas) {s t : Scenario} → gas_plan st a g ≡ Some s → gas_plan st b g ≡ Some t → s.route ≡ t.route → Faster s t
  gas_faster Gas g d e r =
      named (undiked_is a.containment d) (undiked_is b.containment e) (vapor_faster g.endpoint g.plume)
  gas_faster Pressurized g d e r =
      named (undiked_is a.containment d) (undiked_is b.containment e) (vapor_faster g.endpoint g.plume)
  gas_faster Refrigerated g d e r =
      cold (pooled_is (beyond_dike a.quantity.0 g.df a.containment) d) (pooled_is (beyond_dike b.quantity.0 g.df b.containment) e) r
      (pool_route a g.df g.lfb 100 false g.endpoint g.plume)
      (pool_route b g.df g.lfb 100 false g.endpoint g.plume)
      (vapor_route a g.endpoint g.plume)
      (vapor_route b g.endpoint g.plume)
      (pool_faster g.df g.lfb 100 false g.endpoint g.plume)
      (vapor_faster g.endpoint g.plume)
  gas_faster Liquid g d e r = absurd (not_planned d)
  gas_faster Solution g d e r = absurd (not_planned d)

  liquid_faster : (st : State) (l : liquids.Liquid) {s t : Scenario} → liquid_plan st a l ≡ Some s → liquid_plan st b l ≡ Some t → Faster s t
  liquid_faster Gas l d e = absurd (not_planned d)
  liquid_faster Pressurized l d e = absurd (not_planned d)
  liquid_faster Refrigerated l d e = absurd (not_planned d)
  liquid_faster Solution l d e = absurd (not_planned d)
  liquid_faster Liquid l {s} {t} d e = go (factors_of l (column_in a.tenths)) d (subst (λ x. factored (factors_of l (column_in x)) b l ≡ Some t) (sym f.tenths) e)
    where
      go : (x : Option (ℕ × ℕ)) → factored x a l ≡ Some s → factored x b l ≡ Some t → Faster s t
      go (Some (lf, tcf)) p q =
          named (planned_is p) (planned_is q) (shed_faster l.df lf tcf l.endpoint l.plume)
      go None p q = absurd (not_planned p)

  entry_faster : (x : Toxic) (st : State) {s t : Scenario} → a.state ≡ st → b.state ≡ st → plan_for x a ≡ Some s → plan_for x b ≡ Some t → s.route ≡ t.route → Faster s t
  entry_faster (variants.OfGas g) st {s} {t} m n d e r =
      gas_faster st g (subst (λ x. gas_plan x a g ≡ Some s) m d) (subst (λ x. gas_plan x b g ≡ Some t) n e) r
  entry_faster (variants.OfLiquid l) st {s} {t} m n d e r =
      liquid_faster st l (subst (λ x. liquid_plan x a l ≡ Some s) m d) (subst (λ x. liquid_plan x b l ≡ Some t) n e)
  entry_faster (variants.OfSolution x) st m n d e r =
      named (planned_is d) (planned_is e) (shed_faster x.df x.lfa 100 x.endpoint x.plume)
  entry_faster variants.OutOfRange st m n d e r = absurd (not_planned d)
  entry_faster variants.NotListed st m n d e r = absurd (not_planned d)

  -- the law that the two-card law of the layer above is built from
  pub plan_faster : {s t : Scenario} → plan_of a ≡ Some s → plan_of b ≡ Some t → s.route ≡ t.route → Faster s t
  unfolding plan_of
  plan_faster {s} {t} d e r =
      entry_faster a.entry a.state refl (sym f.state) d (subst (λ x. plan_for x b ≡ Some t) (sym f.entry) e) r
