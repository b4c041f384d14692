-- The paper's words (`Claim.antt`) leave one answer: two leaders of a class that both keep them are the same.
-- Assumes nothing.
use Rattle.std.specs.Prelude.{ℕ, ◌<◌, ◌≡◌, List, Option, Some, None}
use Rattle.farthest.specs.declared.Leader.{Leader}
use Rattle.farthest.specs.Farthest.{leader}
use Rattle.std.proofs.Common.{arith, ◌∙◌, sym, ap}
use Rattle.std.proofs.Math.Path.{refl, ap₂}
use Rattle.units.specs.declared.Miles.{Miles}
use Rattle.buffer.specs.Numbers.{four_at}
use Rattle.card.specs.declared.Class.{Class}
use Rattle.ordering.specs.Claim.{card_at}
use Rattle.prefix.specs.Claim.{LeaderOfFirst, FarthestOfFirst}

module _ (c : Class) (register : List ℕ) (k : ℕ) where
  module _ (n m : ℕ) (d e : Miles) (p : FarthestOfFirst c register k (Some (leader n d))) (q : FarthestOfFirst c register k (Some (leader m e))) where
    one : LeaderOfFirst c register k n d
    one = p.leads n d refl

    other : LeaderOfFirst c register k m e
    other = q.leads m e refl

    -- each is as far as the other
    same_miles : d.0 ≡ e.0
    unfolding one other
    same_miles =
        let a = p.largest other.place other.among in
        let b = q.largest one.place one.among in
        omega (arith, one.far, other.far, a, b)

    -- so neither stands before the other
    same_place : one.place ≡ other.place
    unfolding one other
    same_place =
        let h : one.place < other.place → ⊥ = λ l. omega (arith, same_miles, one.far, other.earlier one.place l one.among) in
        let k : other.place < one.place → ⊥ = λ l. omega (arith, same_miles, other.far, one.earlier other.place l other.among) in
        omega arith

    same_card : Some (leader n d) ≡ Some (leader m e)
    unfolding one other
    same_card =
        ap₂ (λ i (far : Miles). Some (leader i far))
        (sym one.numbered ∙ (ap (λ i. four_at (card_at register i) 20) same_place ∙ other.numbered))
        (ap (λ i. record { 0 = i }) same_miles)

  pub only_one : (f g : Option Leader) → FarthestOfFirst c register k f → FarthestOfFirst c register k g → f ≡ g
  only_one None None p q = refl
  only_one None (Some lead) p q = let l = q.leads lead.number lead.distance refl in absurd (p.none.0 refl l.place l.among)
  only_one (Some lead) None p q = let l = p.leads lead.number lead.distance refl in absurd (q.none.0 refl l.place l.among)
  only_one (Some lead) (Some other) p q = same_card lead.number other.number lead.distance other.distance p q
