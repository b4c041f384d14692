-- The leads of cards that stand one behind the other are those of the two parts, merged.
-- Assumes nothing.
use Rattle.std.specs.Prelude.{◌≡◌, refl, Bool, true, false, List, [], ◌∷◌, ◌++◌, ltb, Option, Some, None}
use Rattle.std.proofs.Common.{arith, ◌∙◌, sym, ap, ap₂, ltb-true, ltb-false, lt-ltb, le-ltb}
use Rattle.card.specs.declared.Class.{Class}
use Rattle.card.specs.declared.Class.TheVariants as class
use Rattle.card.specs.declared.Answer.{Answer}
use Rattle.farthest.specs.declared.Leader.{Leader}
use Rattle.farthest.specs.Farthest.{leader, pick, farther, in_class, lead_in, farthest_from, farthest_of, leaders_of}
use Rattle.farthest.proofs.Laws.{from_append, leaders_toxic, leaders_flammable}
use Rattle.edit_walk.specs.Parts.{merged_lead, merged}

-- of three leads it makes no difference which two are merged first
merged_three : (l a m : Leader) → merged_lead (merged_lead (Some l) (Some a)) (Some m) ≡ merged_lead (Some l) (merged_lead (Some a) (Some m))
merged_three l a m = go (ltb l.distance.0 a.distance.0) (ltb a.distance.0 m.distance.0) refl refl
  where
    go : (s t : Bool) → ltb l.distance.0 a.distance.0 ≡ s → ltb a.distance.0 m.distance.0 ≡ t
        → merged_lead (pick s (Some a) (Some l)) (Some m) ≡ merged_lead (Some l) (pick t (Some m) (Some a))
    go true true p q =
        let x = ltb-true l.distance.0 a.distance.0 p in
        let y = ltb-true a.distance.0 m.distance.0 q in
        ap (λ b. pick b (Some m) (Some a)) q ∙ sym (ap (λ b. pick b (Some m) (Some l)) (lt-ltb l.distance.0 m.distance.0 (omega (arith, x, y))))
    go true false p q = ap (λ b. pick b (Some m) (Some a)) q ∙ sym (ap (λ b. pick b (Some a) (Some l)) p)
    go false true p q = refl
    go false false p q =
        let x = ltb-false l.distance.0 a.distance.0 p in
        let y = ltb-false a.distance.0 m.distance.0 q in
        ap (λ b. pick b (Some m) (Some l)) (le-ltb l.distance.0 m.distance.0 (omega (arith, x, y))) ∙ sym (ap (λ b. pick b (Some a) (Some l)) p)

-- a card more in front of a part
merged_farther : (f : Option Leader) (a : Answer) (g : Option Leader) → merged_lead (farther f a) g ≡ merged_lead f (merged_lead (farther None a) g)
merged_farther f a None = alone f
  where
    alone : (f : Option Leader) → farther f a ≡ merged_lead f (Some (leader a.number a.distance))
    alone None = refl
    alone (Some l) = refl
merged_farther None a (Some m) = go (ltb a.distance.0 m.distance.0)
  where
    go : (b : Bool) → pick b (Some m) (Some (leader a.number a.distance)) ≡ merged_lead None (pick b (Some m) (Some (leader a.number a.distance)))
    go true = refl
    go false = refl
merged_farther (Some l) a (Some m) = merged_three l (leader a.number a.distance) m

none_front : (g : Option Leader) → merged_lead None g ≡ g
none_front None = refl
none_front (Some m) = refl

merged_in : (c k : Class) (f : Option Leader) (a : Answer) (g : Option Leader) → merged_lead (in_class c k f (farther f a)) g ≡ merged_lead f (merged_lead (in_class c k None (farther None a)) g)
merged_in class.Toxic class.Toxic f a g = merged_farther f a g
merged_in class.Flammable class.Flammable f a g = merged_farther f a g
merged_in class.Toxic class.Flammable f a g = ap (merged_lead f) (sym (none_front g))
merged_in class.Flammable class.Toxic f a g = ap (merged_lead f) (sym (none_front g))

behind_lead : (c : Class) (f : Option Leader) (ys : List Answer) → farthest_from c f ys ≡ merged_lead f (farthest_from c None ys)
unfolding farthest_from
behind_lead c f [] = refl
behind_lead c f (a ∷ ys) =
    behind_lead c (lead_in c f a) ys
    ∙ (merged_in c a.class f a (farthest_from c None ys)
    ∙ ap (merged_lead f) (sym (behind_lead c (lead_in c None a) ys)))

module _ (xs ys : List Answer) where
  in_parts : (c : Class) → farthest_of c (xs ++ ys) ≡ merged_lead (farthest_of c xs) (farthest_of c ys)
  unfolding farthest_of
  in_parts c = from_append c xs ys None ∙ behind_lead c (farthest_of c xs) ys

  pub leaders_in_parts : leaders_of (xs ++ ys) ≡ merged (leaders_of xs) (leaders_of ys)
  unfolding merged
  leaders_in_parts =
      ap₂ (λ f g. record { toxic = f; flammable = g })
      (leaders_toxic (xs ++ ys) ∙ (in_parts class.Toxic ∙ ap₂ merged_lead (sym (leaders_toxic xs)) (sym (leaders_toxic ys))))
      (leaders_flammable (xs ++ ys) ∙ (in_parts class.Flammable ∙ ap₂ merged_lead (sym (leaders_flammable xs)) (sym (leaders_flammable ys))))
