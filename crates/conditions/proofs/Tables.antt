-- A call that tells what a table of conditions comes to goes exactly by it: one general law for every table and every call.
-- Assumes nothing.
use Rattle.std.specs.Prelude.{ℕ, ◌<◌, ◌≡◌, List, ◌⊎◌}
use Rattle.std.proofs.Common.{arith, subst, ⊎_elim}
use Rattle.refusals.specs.declared.Refusal.{Refusal}
use Rattle.conditions.specs.Conditions.{Condition}
use Rattle.conditions.specs.First.{passed, refused, first_of, Names, none_holds, first_leads, names_one}
use Rattle.conditions.specs.Claim.{Holds, First, ExactlyBy}

-- what a table comes to: it passes at every place, or refuses at one and passes at those before it
abbrev pub Passes : (ℕ → List Condition) → Type 0
Passes table = (p : ℕ) → first_of (table p) ≡ passed

abbrev pub Refuses : (ℕ → List Condition) → Refusal → ℕ → Type 0
Refuses table r place = (first_of (table place) ≡ refused r) × ((p : ℕ) → p < place → first_of (table p) ≡ passed)

module _ (table : ℕ → List Condition) where
  -- where it passes, no condition holds
  passes_none : Passes table → (place line : ℕ) → Holds table line place → ⊥
  passes_none t place line = none_holds (table place) (t place) line

  -- where it refuses, that is the first
  refuses_first : (r : Refusal) (place : ℕ) → Refuses table r place → First table r place
  refuses_first r place t =
      let l = first_leads (table place) r t.0 in
      record {
        line = l.line;
        names = l.names;
        holds = l.holds;
        above = l.above;
        earlier = λ p i h. none_holds (table p) (t.1 p h) i;
      }

  -- there is one first: neither place, and neither line, is before the other
  same_place : {r s : Refusal} {p q : ℕ} → First table r p → First table s q → p ≡ q
  same_place {r} {s} {p} {q} x y =
      let h : p < q → ⊥ = λ l. y.earlier p x.line l x.holds in
      let k : q < p → ⊥ = λ l. x.earlier q y.line l y.holds in
      omega arith

  same_line : {r s : Refusal} {p : ℕ} (x : First table r p) (y : First table s p) → x.line ≡ y.line
  same_line x y =
      let h : x.line < y.line → ⊥ = λ l. y.above x.line l x.holds in
      let k : y.line < x.line → ⊥ = λ l. x.above y.line l y.holds in
      omega arith

  same_refusal : {r s : Refusal} {p : ℕ} (x : First table r p) (y : First table s p) → r ≡ s
  same_refusal {r} {s} {p} x y =
      names_one (table p) y.line r s (subst (λ i. Names (table p) i r) (same_line x y) x.names) y.names

  -- a call that is accepted only where the table passes, refused only where the table refuses so, and always one of the two
  pub exactly_by : (Refused : Refusal → ℕ → Type 0) (Accepted : Type 0)
      → Accepted ⊎ ((r : Refusal) × (place : ℕ) × Refused r place)
      → (Accepted → Passes table)
      → ((r : Refusal) (place : ℕ) → Refused r place → Refuses table r place)
      → ExactlyBy table Refused Accepted
  exactly_by Refused Accepted ends passes refuses = (
    λ r place. (λ e. refuses_first r place (refuses r place e), given r place),
    (λ a. passes_none (passes a), taken),
  )
    where
      given : (r : Refusal) (place : ℕ) → First table r place → Refused r place
      given r place x =
          ⊎_elim
          (λ a. absurd (passes_none (passes a) place x.line x.holds))
          (λ (o : (s : Refusal) × (q : ℕ) × Refused s q).
          let y : First table o.0 o.1 = refuses_first o.0 o.1 (refuses o.0 o.1 o.2) in
          let p : o.1 ≡ place = same_place y x in
          let t : Refused o.0 place = subst (Refused o.0) p o.2 in
          subst (λ s. Refused s place) (same_refusal (subst (First table o.0) p y) x) t)
          ends

      taken : ((place line : ℕ) → Holds table line place → ⊥) → Accepted
      taken none =
          ⊎_elim
          (λ a. a)
          (λ (o : (s : Refusal) × (q : ℕ) × Refused s q).
          let y : First table o.0 o.1 = refuses_first o.0 o.1 (refuses o.0 o.1 o.2) in
          absurd (none o.1 y.line y.holds))
          ends
