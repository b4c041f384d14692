-- What callers use of the farthest card instead of its text. Each holds of any list of answers.
-- Assumes nothing.
use Rattle.std.specs.Prelude.{ℕ, zero, suc, ◌≤◌, ◌<◌, ◌≡◌, refl, List, [], ◌∷◌, ◌++◌, Bool, true, false, ◌⊎◌, ◌↔◌, ltb, length, get_or, Option, Some, None}
use Rattle.farthest.specs.declared.Leader.{Leader}
use Rattle.farthest.specs.Farthest.{leader}
use Rattle.std.proofs.Common.{le_of_suc-le-suc, not-suc-le-zero, le_refl, arith, sym, ap, subst, ◌∙◌, inl, inr, ltb-true, ltb-false}
use Rattle.units.specs.declared.Miles.{Miles}
use Rattle.card.specs.declared.Class.{Class}
use Rattle.card.specs.declared.Class.TheVariants as class
use Rattle.card.specs.declared.Answer.{Answer}
use Rattle.farthest.specs.declared.Leaders.{Leaders}
use Rattle.farthest.specs.Farthest.{pick, farther, in_class, lead_in, farthest_from, farthest_of}
use Rattle.farthest.specs.Farthest.{no_leaders, leaders_after, leaders_from, leaders_of}
use Rattle.farthest.specs.Farthest.{At, Reaches, Nearer, NoFarther, NoCard, Leads, Matched}

-- ---- one card

-- the lead as it becomes: it stays, and then reaches a card of the class; or the card takes it from a nearer one
abbrev Kept : Class → Option Leader → Answer → Option Leader → Type 0
Kept c f a g = (g ≡ f) × (a.class ≡ c → Reaches f a.distance.0)

abbrev Taken : Class → Option Leader → Answer → Option Leader → Type 0
Taken c f a g = (g ≡ Some (leader a.number a.distance)) × (a.class ≡ c) × Nearer f a.distance.0

apart : class.Toxic ≡ class.Flammable → ⊥
apart e = let z : ◌≡◌ {A = ℕ} 0 1 = cc in omega arith

farther_step : (c : Class) (f : Option Leader) (a : Answer) → a.class ≡ c → Kept c f a (farther f a) ⊎ Taken c f a (farther f a)
farther_step c None a e = inr (refl, e, tt)
farther_step c (Some lead) a e = go (ltb lead.distance.0 a.distance.0) refl
  where
    go : (t : Bool) → ltb lead.distance.0 a.distance.0 ≡ t
        → Kept c (Some lead) a (pick t (Some (leader a.number a.distance)) (Some lead))
        ⊎ Taken c (Some lead) a (pick t (Some (leader a.number a.distance)) (Some lead))
    go true h = inr (refl, e, ltb-true lead.distance.0 a.distance.0 h)
    go false h = inl (refl, λ same. ltb-false lead.distance.0 a.distance.0 h)

lead_step : (c : Class) (f : Option Leader) (a : Answer) → Kept c f a (lead_in c f a) ⊎ Taken c f a (lead_in c f a)
lead_step c f a = go c a.class refl
  where
    go : (c k : Class) → a.class ≡ k → Kept c f a (in_class c k f (farther f a)) ⊎ Taken c f a (in_class c k f (farther f a))
    go class.Toxic class.Toxic e = farther_step class.Toxic f a e
    go class.Flammable class.Flammable e = farther_step class.Flammable f a e
    go class.Toxic class.Flammable e = inl (refl, λ same. absurd (apart (sym same ∙ e)))
    go class.Flammable class.Toxic e = inl (refl, λ same. absurd (apart (sym e ∙ same)))

-- ---- nearer and reached

reached_nearer : (f : Option Leader) (m n : ℕ) → Reaches f m → Nearer f n → m < n
reached_nearer None m n r h = absurd r
reached_nearer (Some lead) m n r h = omega arith

nearer_on : (f : Option Leader) (m n : ℕ) → Nearer f m → m ≤ n → Nearer f n
nearer_on None m n h l = tt
nearer_on (Some lead) m n h l = omega arith

further : (f : Option Leader) (m n : ℕ) → m ≤ n → Reaches f n → Reaches f m
further None m n l r = r
further (Some lead) m n l r = omega arith

-- ---- 1: it reaches every card of its class

lead_keeps : (c : Class) (f : Option Leader) (a : Answer) (n : ℕ) → Reaches f n → Reaches (lead_in c f a) n
lead_keeps c f a n r = go (lead_step c f a)
  where
    go : Kept c f a (lead_in c f a) ⊎ Taken c f a (lead_in c f a) → Reaches (lead_in c f a) n
    go (inl kept) = subst (λ (g : Option Leader). Reaches g n) (sym kept.0) r
    go (inr taken) =
        let below = reached_nearer f n a.distance.0 r taken.2 in
        subst (λ (g : Option Leader). Reaches g n) (sym taken.0) (omega (arith, below))

lead_reaches : (c : Class) (f : Option Leader) (a : Answer) → a.class ≡ c → Reaches (lead_in c f a) a.distance.0
lead_reaches c f a e = go (lead_step c f a)
  where
    go : Kept c f a (lead_in c f a) ⊎ Taken c f a (lead_in c f a) → Reaches (lead_in c f a) a.distance.0
    go (inl kept) = subst (λ (g : Option Leader). Reaches g a.distance.0) (sym kept.0) (kept.1 e)
    go (inr taken) = subst (λ (g : Option Leader). Reaches g a.distance.0) (sym taken.0) (le_refl a.distance.0)

from_keeps : (c : Class) (xs : List Answer) (f : Option Leader) (n : ℕ) → Reaches f n → Reaches (farthest_from c f xs) n
unfolding farthest_from
from_keeps c [] f n r = r
from_keeps c (x ∷ xs) f n r = from_keeps c xs (lead_in c f x) n (lead_keeps c f x n r)

from_reaches : (c : Class) (xs : List Answer) (f : Option Leader) (i : ℕ) (a : Answer) → At xs i a → a.class ≡ c → Reaches (farthest_from c f xs) a.distance.0
unfolding farthest_from
from_reaches c [] f i a h e = absurd h
from_reaches c (x ∷ xs) f zero a h e =
    from_keeps c xs (lead_in c f x) a.distance.0
    (subst (λ (b : Answer). Reaches (lead_in c f x) b.distance.0) (sym h) (lead_reaches c f x (ap (λ (b : Answer). b.class) (sym h) ∙ e)))
from_reaches c (x ∷ xs) f (suc i) a h e = from_reaches c xs (lead_in c f x) i a h e

-- the farthest card of a class is at least as far as every card of the class
pub reaches : (c : Class) (xs : List Answer) (i : ℕ) (a : Answer) → At xs i a → a.class ≡ c → Reaches (farthest_of c xs) a.distance.0
unfolding farthest_of
reaches c xs i a h e = from_reaches c xs None i a h e

-- ---- 2: it is one of them, and the first so far

-- a lead that began at f is f, or a card of the list that leads it and goes beyond f
abbrev Since : Class → Option Leader → List Answer → ℕ → Miles → Type 0
Since c f xs n d = (f ≡ Some (leader n d)) ⊎ (Leads c xs n d × Nearer f d.0)

module _ (c : Class) (f : Option Leader) (x : Answer) (xs : List Answer) (n : ℕ) (d : Miles) where
  -- the first card of the list has the lead that is kept to the end
  here : lead_in c f x ≡ Some (leader n d) → Kept c f x (lead_in c f x) ⊎ Taken c f x (lead_in c f x) → Since c f (x ∷ xs) n d
  here e (inl kept) = inl (sym kept.0 ∙ e)
  here e (inr taken) =
      let same : Some (leader x.number x.distance) ≡ Some (leader n d) = sym taken.0 ∙ e in
      let lead : leader x.number x.distance ≡ leader n d = cc in
      let far : x.distance ≡ d = ap (λ (l : Leader). l.distance) lead in
      inr (
        (
          0,
          x,
          record {
            stands = refl;
            of_class = taken.1;
            numbered = ap (λ (l : Leader). l.number) lead;
            far = far;
            first = λ j b l. absurd (not-suc-le-zero l);
          },
        ),
        subst (λ (m : Miles). Nearer f m.0) far taken.2,
      )

  -- a later card leads: the first card is nearer, and so is f
  before : Kept c f x (lead_in c f x) ⊎ Taken c f x (lead_in c f x) → Nearer (lead_in c f x) d.0 → (x.class ≡ c → x.distance.0 < d.0) × Nearer f d.0
  before (inl kept) h =
      let near : Nearer f d.0 = subst (λ (g : Option Leader). Nearer g d.0) kept.0 h in
      ((λ e. reached_nearer f x.distance.0 d.0 (kept.1 e) near), near)
  before (inr taken) h =
      let near : x.distance.0 < d.0 = subst (λ (g : Option Leader). Nearer g d.0) taken.0 h in
      ((λ e. near), nearer_on f x.distance.0 d.0 taken.2 (omega arith))

  later : Leads c xs n d → Nearer (lead_in c f x) d.0 → Since c f (x ∷ xs) n d
  later (i, a, leads) h =
      let both = before (lead_step c f x) h in
      inr (
        (
          suc i,
          a,
          record {
            stands = leads.stands;
            of_class = leads.of_class;
            numbered = leads.numbered;
            far = leads.far;
            first = earlier both.0;
          },
        ),
        both.1,
      )
    where
      earlier : (x.class ≡ c → x.distance.0 < d.0) → (j : ℕ) (b : Answer) → j < suc i → At (x ∷ xs) j b → b.class ≡ c → b.distance.0 < d.0
      earlier near zero b l h e = subst (λ (y : Answer). y.distance.0 < d.0) (sym h) (near (ap (λ (y : Answer). y.class) (sym h) ∙ e))
      earlier near (suc j) b l h e = leads.first j b (le_of_suc-le-suc l) h e

from_leads : (c : Class) (xs : List Answer) (f : Option Leader) (n : ℕ) (d : Miles) → farthest_from c f xs ≡ Some (leader n d) → Since c f xs n d
unfolding farthest_from
from_leads c [] f n d e = inl e
from_leads c (x ∷ xs) f n d e = go (from_leads c xs (lead_in c f x) n d e)
  where
    go : Since c (lead_in c f x) xs n d → Since c f (x ∷ xs) n d
    go (inl same) = here c f x xs n d same (lead_step c f x)
    go (inr (leads, near)) = later c f x xs n d leads near

-- the farthest card of a class is a card of the class, and every earlier one of the class is nearer
pub leads : (c : Class) (xs : List Answer) (n : ℕ) (d : Miles) → farthest_of c xs ≡ Some (leader n d) → Leads c xs n d
unfolding farthest_of
leads c xs n d e = go (from_leads c xs None n d e)
  where
    go : Since c None xs n d → Leads c xs n d
    go (inl never) = let z : ◌≡◌ {A = ℕ} 0 1 = cc in absurd (omega arith)
    go (inr found) = found.0

-- ---- 3: none exactly when the class has no card

pub none_only : (c : Class) (xs : List Answer) → farthest_of c xs ≡ None → NoCard c xs
none_only c xs e i a h same = subst (λ (f : Option Leader). Reaches f a.distance.0) e (reaches c xs i a h same)

pub none_if : (c : Class) (xs : List Answer) → NoCard c xs → farthest_of c xs ≡ None
none_if c xs empty = go (farthest_of c xs) refl
  where
    go : (f : Option Leader) → farthest_of c xs ≡ f → f ≡ None
    go None e = refl
    go (Some lead) e = let found = leads c xs lead.number lead.distance e in absurd (empty found.0 found.1 found.2.stands found.2.of_class)

pub none_iff : (c : Class) (xs : List Answer) → (farthest_of c xs ≡ None) ↔ NoCard c xs
none_iff c xs = (none_only c xs, none_if c xs)

-- ---- 4: one list after another

pub from_append : (c : Class) (xs ys : List Answer) (f : Option Leader) → farthest_from c f (xs ++ ys) ≡ farthest_from c (farthest_from c f xs) ys
unfolding farthest_from
from_append c [] ys f = refl
from_append c (x ∷ xs) ys f = from_append c xs ys (lead_in c f x)

pub leaders_append : (xs ys : List Answer) (l : Leaders) → leaders_from l (xs ++ ys) ≡ leaders_from (leaders_from l xs) ys
unfolding leaders_from
leaders_append [] ys l = refl
leaders_append (x ∷ xs) ys l = leaders_append xs ys (leaders_after l x)

-- ---- both classes side by side

pub leaders_end : (l : Leaders) → leaders_from l [] ≡ l
unfolding leaders_from
leaders_end l = refl

pub leaders_step : (l : Leaders) (x : Answer) (xs : List Answer) → leaders_from l (x ∷ xs) ≡ leaders_from (leaders_after l x) xs
unfolding leaders_from
leaders_step l x xs = refl

pub leaders_start : (xs : List Answer) → leaders_of xs ≡ leaders_from no_leaders xs
unfolding leaders_of
leaders_start xs = refl

pub leaders_from_lem : (xs : List Answer) (l : Leaders)
    → leaders_from l xs ≡ record { toxic = farthest_from class.Toxic l.toxic xs; flammable = farthest_from class.Flammable l.flammable xs }
unfolding leaders_from leaders_after farthest_from
leaders_from_lem [] l = refl
leaders_from_lem (x ∷ xs) l = leaders_from_lem xs (leaders_after l x)

pub leaders_toxic : (xs : List Answer) → (leaders_of xs).toxic ≡ farthest_of class.Toxic xs
unfolding leaders_of farthest_of
leaders_toxic xs = ap (λ (l : Leaders). l.toxic) (leaders_from_lem xs no_leaders)

pub leaders_flammable : (xs : List Answer) → (leaders_of xs).flammable ≡ farthest_of class.Flammable xs
unfolding leaders_of farthest_of
leaders_flammable xs = ap (λ (l : Leaders). l.flammable) (leaders_from_lem xs no_leaders)

-- ---- two lists

-- where each card of the class has a counterpart that is at least as far, the farthest card is no farther
pub no_farther : (c : Class) (xs ys : List Answer)
    → ((i : ℕ) (a : Answer) → At xs i a → a.class ≡ c → Matched c a.distance.0 ys) → NoFarther (farthest_of c xs) (farthest_of c ys)
no_farther c xs ys counterpart = go (farthest_of c xs) refl
  where
    go : (f : Option Leader) → farthest_of c xs ≡ f → NoFarther f (farthest_of c ys)
    go None e = tt
    go (Some lead) e =
        let found = leads c xs lead.number lead.distance e in
        let a = found.1 in
        let other = counterpart found.0 a found.2.stands found.2.of_class in
        let b = other.1 in
        let far : a.distance.0 ≡ lead.distance.0 = ap (λ (m : Miles). m.0) found.2.far in
        further (farthest_of c ys) lead.distance.0 b.distance.0 (omega (arith, other.4, far)) (reaches c ys other.0 b other.2 other.3)

-- ---- places by number

pub at_get_or_lem : (xs : List Answer) (i : ℕ) (d : Answer) → i < length xs → At xs i (get_or xs i d)
at_get_or_lem [] i d h = absurd (not-suc-le-zero h)
at_get_or_lem (x ∷ xs) zero d h = refl
at_get_or_lem (x ∷ xs) (suc i) d h = at_get_or_lem xs i d (le_of_suc-le-suc h)

pub at_place : (xs : List Answer) (i : ℕ) (a d : Answer) → At xs i a → (i < length xs) × (get_or xs i d ≡ a)
at_place [] i a d h = absurd h
at_place (x ∷ xs) zero a d h = (omega arith, sym h)
at_place (x ∷ xs) (suc i) a d h = let rest = at_place xs i a d h in (omega (arith, rest.0), rest.1)

-- the same, where the counterpart of each place is given as a place of the other list
pub no_farther_at : (c : Class) (d : Answer) (xs ys : List Answer) (to : ℕ → ℕ)
    → ((i : ℕ) → i < length xs → (get_or xs i d).class ≡ c
    → (to i < length ys) × ((get_or ys (to i) d).class ≡ c) × ((get_or xs i d).distance.0 ≤ (get_or ys (to i) d).distance.0))
    → NoFarther (farthest_of c xs) (farthest_of c ys)
no_farther_at c d xs ys to given =
    no_farther c xs ys
    (λ i a h e.
    let place = at_place xs i a d h in
    let other = given i place.0 (ap (λ (b : Answer). b.class) place.1 ∙ e) in (
      to i,
      get_or ys (to i) d,
      at_get_or_lem ys (to i) d other.0,
      other.1,
      subst (λ (b : Answer). b.distance.0 ≤ (get_or ys (to i) d).distance.0) place.1 other.2,
    ))
