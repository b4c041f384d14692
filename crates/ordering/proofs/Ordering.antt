-- Demand 3, proved: a planner who compares two accepted registers never sees a ring shrink for a fuller tank.
-- Assumes nothing.
use Rattle.std.specs.Prelude.{ℕ, ◌≡◌, List, length}
use Rattle.std.proofs.Common.{◌∙◌, sym, ap, subst₂}
use Rattle.card.specs.declared.Class.{Class}
use Rattle.card.specs.declared.Class.TheVariants as class
use Rattle.card.specs.declared.Answer.{Answer}
use Rattle.ordering.specs.Order.{kind_of}
use Rattle.ordering.proofs.Order.{cards_ordered, class_is}
use Rattle.farthest.specs.declared.Leaders.{Leaders}
use Rattle.farthest.specs.Farthest.{At, Matched, NoFarther, farthest_of, leaders_of}
use Rattle.farthest.proofs.Laws.{no_farther, leaders_toxic, leaders_flammable}
use Rattle.ordering.specs.Claim.{card_at, Accepts, farthest_in, Covered, RingsOrdered}
use Rattle.ordering.proofs.Found.{found, from_card, to_card}

-- a class's farthest card in a result is that of the answers
pub in_result : (c : Class) (xs : List Answer) {l : Leaders} → leaders_of xs ≡ l → farthest_of c xs ≡ farthest_in c l
in_result class.Toxic xs e = sym (leaders_toxic xs) ∙ ap (λ (l : Leaders). l.toxic) e
in_result class.Flammable xs e = sym (leaders_flammable xs) ∙ ap (λ (l : Leaders). l.flammable) e

module _ (c : Class) (first second buffer other : List ℕ) (l m : Leaders) (p : Accepts first buffer l) (q : Accepts second other m) (h : Covered c first second) where
  -- a card of the class has, in the second register, an answer of the class at least as far
  matched : (i : ℕ) (a : Answer) → At (found first (length buffer) p).list i a → a.class ≡ c → Matched c a.distance.0 (found second (length other) q).list
  matched i a w k =
      let x = from_card first (length buffer) p i a w in
      let y = h i x.0 (class_is (card_at first i) x.1 x.2 ∙ ap kind_of k) in
      let z = to_card second (length other) q y.0 y.1 in
      let n = cards_ordered (card_at first i) (card_at second y.0) x.1 z.2 y.2 x.2 z.3 in
      (y.0, z.0, z.1, sym n.class ∙ k, n.distance)

  ordered : NoFarther (farthest_in c l) (farthest_in c m)
  ordered =
      subst₂ NoFarther
      (in_result c (found first (length buffer) p).list (found first (length buffer) p).leads)
      (in_result c (found second (length other) q).list (found second (length other) q).leads)
      (no_farther c (found first (length buffer) p).list (found second (length other) q).list matched)

pub rings_ordered : RingsOrdered
rings_ordered c first second buffer other l m p q h = ordered c first second buffer other l m p q h
