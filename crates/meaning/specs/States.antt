-- What the exhibits say of a toxic card, and what its bytes 18 and 19 are, by its state: the laws that others use instead of the
-- two definitions' text.
-- Assumes nothing.
use Rattle.std.specs.Prelude.{◌≡◌, refl, Bool, eqb}
use Rattle.std.proofs.Math.Bool.{true, false}
use Rattle.std.proofs.Common.{eqb-true}
use Rattle.std.proofs.lemmas.Bool.{eqb-false}
use Rattle.exhibits.specs.declared.Toxic.{Toxic}
use Rattle.exhibits.specs.Exhibits.{toxic_of}
use Rattle.solutions.specs.Solutions.{solution_of}
use Rattle.scenario.specs.declared.Tenths.{Tenths}
use Rattle.scenario.specs.declared.Tenths.TheVariants.{Temperature, Concentration}
use Rattle.fields.specs.declared.Fields.{Fields}
use Rattle.ranges.specs.Ranges.{signed, tenths_of}
use Rattle.meaning.specs.Reading.{substance_of}

-- what holds of a solution of Exhibit B-3 with its concentration, and of a substance of B-1 or B-2 with its temperature, holds in
-- every state
pub by_state : (f : Fields) (P : Toxic → Tenths → Type 0) → (f.state ≡ 5 → P (solution_of f.cas f.heat) (Concentration f.heat))
    → ((f.state ≡ 5 → ⊥) → P (toxic_of f.cas) (Temperature (signed f.heat))) → P (substance_of f) (tenths_of f)
unfolding substance_of tenths_of
by_state f P solution other = go (eqb f.state 5) refl
  where
    go : (b : Bool) → eqb f.state 5 ≡ b
        → P (elim b as (λ _. Toxic) [ true ↦ solution_of f.cas f.heat | false ↦ toxic_of f.cas ]) (elim b as (λ _. Tenths) [ true ↦ Concentration f.heat | false ↦ Temperature (signed f.heat) ])
    go true e = solution (eqb-true f.state 5 e)
    go false e = other (eqb-false f.state 5 e)

-- two cards with one CAS number, one state and the same bytes 18 and 19 have the same of both
module _ (f g : Fields) (cas : f.cas ≡ g.cas) (state : f.state ≡ g.state) (heat : f.heat ≡ g.heat) where
  pub same_entry : substance_of f ≡ substance_of g
  unfolding substance_of
  same_entry = λ i.
      elim (eqb (state i) 5) as (λ _. Toxic) [ true ↦ solution_of (cas i) (heat i) | false ↦ toxic_of (cas i) ]

  pub same_tenths : tenths_of f ≡ tenths_of g
  unfolding tenths_of
  same_tenths = λ i.
      elim (eqb (state i) 5) as (λ _. Tenths) [ true ↦ Concentration (heat i) | false ↦ Temperature (signed (heat i)) ]
