-- The days that the year's walk keeps: the day of a class is the first day of some card that is as far as the lead, and no card that is
-- as far has an earlier one.
-- Assumes nothing.
use Rattle.std.specs.Prelude.{ℕ, zero, suc, ◌≤◌, ◌<◌, ◌≡◌, refl, ltb, eqb, min, Bool, true, false, List, [], ◌∷◌, ◌⊎◌, Option, Some, None}
use Rattle.std.proofs.Common.{arith, ◌∙◌, sym, ap, subst, inl, inr, ⊎_elim, le_refl, ltb-true, ltb-false}
use Rattle.std.proofs.lemmas.Bool.{eqb-true, eqb-false, cases_lt}
use Rattle.seasons.specs.Seasons.{first_day}
use Rattle.card.specs.declared.Class.{Class}
use Rattle.card.specs.declared.Class.TheVariants as class
use Rattle.card.specs.declared.Answer.{Answer}
use Rattle.farthest.specs.declared.Leader.{Leader}
use Rattle.farthest.specs.Farthest.{leader, pick, farther, in_class, lead_in, farthest_from, farthest_of}
use Rattle.by_day.specs.Kept.{day_after, day_in}
use Rattle.by_day.proofs.Standing.{Stands}

-- the day of a class after the cards of a list, from the lead and the day before them
abbrev pub day_from : Class → Option Leader → ℕ → List Answer → ℕ
day_from c lead day [] = day
day_from c lead day (a ∷ xs) = day_from c (lead_in c lead a) (day_in c a.class lead day a) xs

-- among the cards seen one of the class is this far and has this first day, no other is farther, and none that is as far has an earlier one
pub record Earliest (c : Class) (Seen : Answer → Type 0) (far day : ℕ) : Type 0 where
  pub card : Answer
  pub seen : Seen card
  pub of_class : card.class ≡ c
  pub as_far : card.distance.0 ≡ far
  pub its_day : day ≡ first_day card.season
  pub others : (a : Answer) → Seen a → a.class ≡ c → (a.distance.0 ≤ far) × (a.distance.0 ≡ far → day ≤ first_day a.season)

-- the lead and the day of a class among the cards seen: 0 where none is of the class
abbrev pub Led : Class → (Answer → Type 0) → Option Leader → ℕ → Type 0
Led c Seen None day = (day ≡ 0) × ((a : Answer) → Seen a → a.class ≡ c → ⊥)
Led c Seen (Some lead) day = Earliest c Seen lead.distance.0 day

-- it goes by the cards seen alone
same_seen : (c : Class) (Seen Other : Answer → Type 0) → ((a : Answer) → Seen a → Other a) → ((a : Answer) → Other a → Seen a) → (f : Option Leader) (day : ℕ) → Led c Seen f day → Led c Other f day
same_seen c Seen Other to back None day l = (l.0, λ a s e. l.1 a (back a s) e)
same_seen c Seen Other to back (Some lead) day l =
    record {
      card = l.card;
      seen = to l.card l.seen;
      of_class = l.of_class;
      as_far = l.as_far;
      its_day = l.its_day;
      others = λ a s e. l.others a (back a s) e;
    }

-- ---- one card more

module _ (c : Class) (Seen : Answer → Type 0) (day : ℕ) (x : Answer) where
  abbrev More : Answer → Type 0
  More a = Seen a ⊎ (a ≡ x)

  -- of another class
  passed_by : (x.class ≡ c → ⊥) → (f : Option Leader) → Led c Seen f day → Led c More f day
  passed_by other None l = (
    l.0,
    λ a s e. ⊎_elim (λ (p : Seen a). l.1 a p e) (λ (q : a ≡ x). other (ap (λ (y : Answer). y.class) (sym q) ∙ e)) s,
  )
  passed_by other (Some lead) l =
      record {
        card = l.card;
        seen = inl l.seen;
        of_class = l.of_class;
        as_far = l.as_far;
        its_day = l.its_day;
        others = λ a s e. ⊎_elim (λ (p : Seen a). l.others a p e) (λ (q : a ≡ x). absurd (other (ap (λ (y : Answer). y.class) (sym q) ∙ e))) s;
      }

  -- of the class
  module _ (same : x.class ≡ c) where
    abbrev own : ℕ
    own = first_day x.season

    abbrev Holds : ℕ → ℕ → Answer → Type 0
    Holds far d a = (a.distance.0 ≤ far) × (a.distance.0 ≡ far → d ≤ first_day a.season)

    -- what holds of the cards seen and of this one
    beside : (far d : ℕ) → ((a : Answer) → Seen a → a.class ≡ c → Holds far d a) → Holds far d x → (a : Answer) → More a → a.class ≡ c → Holds far d a
    beside far d before here a s e = ⊎_elim (λ (p : Seen a). before a p e) (λ (q : a ≡ x). subst (Holds far d) (sym q) here) s

    -- it is the farthest
    takes : ((a : Answer) → Seen a → a.class ≡ c → a.distance.0 < x.distance.0) → Earliest c More x.distance.0 own
    takes nearer =
        record {
          card = x;
          seen = inr refl;
          of_class = same;
          as_far = refl;
          its_day = refl;
          others = beside x.distance.0 own (λ a s e. let z = nearer a s e in (omega arith, λ q. absurd (omega arith))) (le_refl x.distance.0, λ q. le_refl own);
        }

    module _ (lead : Leader) (l : Earliest c Seen lead.distance.0 day) where
      -- it is nearer than the lead
      stays : x.distance.0 < lead.distance.0 → Earliest c More lead.distance.0 day
      stays h =
          record {
            card = l.card;
            seen = inl l.seen;
            of_class = l.of_class;
            as_far = l.as_far;
            its_day = l.its_day;
            others = beside lead.distance.0 day l.others (omega arith, λ q. absurd (omega arith));
          }

      -- it is as far: the earlier of the two days
      ties : x.distance.0 ≡ lead.distance.0 → Earliest c More lead.distance.0 (min day own)
      ties h = ⊎_elim later sooner (cases_lt own day)
        where
          either_way : (a : Answer) → More a → a.class ≡ c → Holds lead.distance.0 (min day own) a
          either_way = beside lead.distance.0 (min day own) (λ a s e. let z = l.others a s e in (z.0, λ q. let y = z.1 q in omega arith)) (omega arith, λ q. omega arith)

          later : own < day → Earliest c More lead.distance.0 (min day own)
          later k = record { card = x; seen = inr refl; of_class = same; as_far = h; its_day = omega arith; others = either_way }

          sooner : day ≤ own → Earliest c More lead.distance.0 (min day own)
          sooner k =
              let d = l.its_day in
              record {
                card = l.card;
                seen = inl l.seen;
                of_class = l.of_class;
                as_far = l.as_far;
                its_day = omega arith;
                others = either_way;
              }

    one_more : (f : Option Leader) → Led c Seen f day → Led c More (farther f x) (day_after f day x)
    unfolding day_after
    one_more None l = takes (λ a s e. absurd (l.1 a s e))
    one_more (Some lead) l =
        go (ltb lead.distance.0 x.distance.0) (ltb x.distance.0 lead.distance.0) (eqb x.distance.0 lead.distance.0) refl refl refl
      where
        go : (t u v : Bool) → ltb lead.distance.0 x.distance.0 ≡ t → ltb x.distance.0 lead.distance.0 ≡ u → eqb x.distance.0 lead.distance.0 ≡ v
            → Led c More (pick t (Some (leader x.number x.distance)) (Some lead)) (elim u [ true ↦ day | false ↦ elim v [ true ↦ min day (first_day x.season) | false ↦ first_day x.season ] ])
        go true true v p q r = absurd (omega (arith, ltb-true lead.distance.0 x.distance.0 p, ltb-true x.distance.0 lead.distance.0 q))
        go true false true p q r = absurd (omega (arith, ltb-true lead.distance.0 x.distance.0 p, eqb-true x.distance.0 lead.distance.0 r))
        go true false false p q r =
            let h = ltb-true lead.distance.0 x.distance.0 p in takes (λ a s e. let z = l.others a s e in omega (arith, z.0, h))
        go false true v p q r = stays lead l (ltb-true x.distance.0 lead.distance.0 q)
        go false false true p q r = ties lead l (eqb-true x.distance.0 lead.distance.0 r)
        go false false false p q r =
            absurd (eqb-false x.distance.0 lead.distance.0 r (omega (arith, ltb-false lead.distance.0 x.distance.0 p, ltb-false x.distance.0 lead.distance.0 q)))

apart : class.Toxic ≡ class.Flammable → ⊥
apart e = let z : ◌≡◌ {A = ℕ} 0 1 = cc in omega arith

step : (c : Class) (Seen : Answer → Type 0) (f : Option Leader) (day : ℕ) (x : Answer) → Led c Seen f day → Led c (λ a. Seen a ⊎ (a ≡ x)) (lead_in c f x) (day_in c x.class f day x)
step c Seen f day x l = go c x.class refl l
  where
    go : (k m : Class) → x.class ≡ m → Led k Seen f day → Led k (λ a. Seen a ⊎ (a ≡ x)) (in_class k m f (farther f x)) (day_in k m f day x)
    go class.Toxic class.Toxic e h = one_more class.Toxic Seen day x e f h
    go class.Flammable class.Flammable e h = one_more class.Flammable Seen day x e f h
    go class.Toxic class.Flammable e h = passed_by class.Toxic Seen day x (λ k. apart (sym k ∙ e)) f h
    go class.Flammable class.Toxic e h = passed_by class.Flammable Seen day x (λ k. apart (sym e ∙ k)) f h

-- ---- the cards of a list

led_from : (c : Class) (xs : List Answer) (Seen : Answer → Type 0) (f : Option Leader) (day : ℕ) → Led c Seen f day → Led c (λ a. Seen a ⊎ Stands xs a) (farthest_from c f xs) (day_from c f day xs)
unfolding farthest_from
led_from c [] Seen f day l = same_seen c Seen (λ a. Seen a ⊎ Stands [] a) (λ a s. inl s) (λ a s. ⊎_elim (λ (p : Seen a). p) (λ (q : Stands [] a). absurd q.1) s) f day l
led_from c (x ∷ xs) Seen f day l =
    same_seen c (λ a. (Seen a ⊎ (a ≡ x)) ⊎ Stands xs a) (λ a. Seen a ⊎ Stands (x ∷ xs) a) to back
    (farthest_from c (lead_in c f x) xs) (day_from c (lead_in c f x) (day_in c x.class f day x) xs)
    (led_from c xs (λ a. Seen a ⊎ (a ≡ x)) (lead_in c f x) (day_in c x.class f day x) (step c Seen f day x l))
  where
    to : (a : Answer) → (Seen a ⊎ (a ≡ x)) ⊎ Stands xs a → Seen a ⊎ Stands (x ∷ xs) a
    to a (inl (inl s)) = inl s
    to a (inl (inr q)) = inr (0, q)
    to a (inr w) = inr (suc w.0, w.1)

    back : (a : Answer) → Seen a ⊎ Stands (x ∷ xs) a → (Seen a ⊎ (a ≡ x)) ⊎ Stands xs a
    back a (inl s) = inl (inl s)
    back a (inr (zero, q)) = inl (inr q)
    back a (inr (suc i, q)) = inr (i, q)

-- of all cards, from none on
pub led_all : (c : Class) (xs : List Answer) → Led c (Stands xs) (farthest_of c xs) (day_from c None 0 xs)
unfolding farthest_of
led_all c xs =
    same_seen c (λ a. ⊥ ⊎ Stands xs a) (Stands xs) (λ a s. ⊎_elim (λ (p : ⊥). absurd p) (λ (q : Stands xs a). q) s) (λ a s. inr s)
    (farthest_from c None xs) (day_from c None 0 xs)
    (led_from c xs (λ a. ⊥) None 0 (refl, λ a s e. s))
