-- The farthest card of a class among the answers of a register, and what it is to be no farther.
-- Assumes nothing.
use Rattle.std.specs.Prelude.{ℕ, zero, suc, ◌≤◌, ◌<◌, ◌≡◌, List, [], ◌∷◌, Bool, true, false, ltb, Option, Some, None}
use Rattle.farthest.specs.declared.Leader.{Leader}
use Rattle.units.specs.declared.Miles.{Miles}
use Rattle.card.specs.declared.Class.{Class}
use Rattle.card.specs.declared.Class.TheVariants as class
use Rattle.card.specs.declared.Answer.{Answer}
use Rattle.farthest.specs.declared.Leaders.{Leaders}

-- a card that leads its class, by its number and its distance
abbrev pub leader : ℕ → Miles → Leader
leader n d = record { number = n; distance = d }

-- the first if the test holds, else the second
abbrev pub pick : Bool → Option Leader → Option Leader → Option Leader
pick true f g = f
pick false f g = g

-- "the card with the largest distance, the earlier on a tie": a card takes the lead by a larger distance alone.
-- "Distances are compared in hundredths of a mile"
abbrev pub farther : Option Leader → Answer → Option Leader
farther None a = Some (leader a.number a.distance)
farther (Some lead) a = pick (ltb lead.distance.0 a.distance.0) (Some (leader a.number a.distance)) (Some lead)

-- the second where the classes are the same, else the first
abbrev pub in_class : Class → Class → Option Leader → Option Leader → Option Leader
in_class class.Toxic class.Toxic kept changed = changed
in_class class.Flammable class.Flammable kept changed = changed
in_class class.Toxic class.Flammable kept changed = kept
in_class class.Flammable class.Toxic kept changed = kept

-- "In each class": a card of the other class changes nothing
abbrev pub lead_in : Class → Option Leader → Answer → Option Leader
lead_in c f a = in_class c a.class f (farther f a)

-- the lead of a class after the cards of a list, from the lead before them
unfoldable pub farthest_from : Class → Option Leader → List Answer → Option Leader
farthest_from c f [] = f
farthest_from c f (a ∷ xs) = farthest_from c (lead_in c f a) xs

-- "In each class the card with the largest distance, the earlier on a tie; none if the class has no card."
unfoldable pub farthest_of : Class → List Answer → Option Leader
farthest_of c xs = farthest_from c None xs

-- "A class is kind 1 or kind 2.": the leads of both, before the first card
abbrev pub no_leaders : Leaders
no_leaders = record { toxic = None; flammable = None }

-- the leads of both after one more card
unfoldable pub leaders_after : Leaders → Answer → Leaders
leaders_after l a = record { toxic = lead_in class.Toxic l.toxic a; flammable = lead_in class.Flammable l.flammable a }

-- and after the cards of a list
unfoldable pub leaders_from : Leaders → List Answer → Leaders
leaders_from l [] = l
leaders_from l (a ∷ xs) = leaders_from (leaders_after l a) xs

-- "An accepted call's result gives both classes' farthest, each none or a card number and a distance."
unfoldable pub leaders_of : List Answer → Leaders
leaders_of xs = leaders_from no_leaders xs

-- the answer that stands at a place of a list, counted from 0; past its end there is none
abbrev pub At : List Answer → ℕ → Answer → Type 0
At [] i a = ⊥
At (x ∷ xs) zero a = a ≡ x
At (x ∷ xs) (suc i) a = At xs i a

-- a farthest card at least this far; "none" reaches nothing
abbrev pub Reaches : Option Leader → ℕ → Type 0
Reaches None n = ⊥
Reaches (Some lead) n = n ≤ lead.distance.0

-- a farthest card, if there is one, nearer than this
abbrev pub Nearer : Option Leader → ℕ → Type 0
Nearer None n = Unit
Nearer (Some lead) n = lead.distance.0 < n

-- one farthest card is no farther than another: "none" is below everything, and a card's distance is reached by the other.
-- "where the first register has a farthest card of the class and the counterparts are there, the second has one too"
abbrev pub NoFarther : Option Leader → Option Leader → Type 0
NoFarther None g = Unit
NoFarther (Some lead) g = Reaches g lead.distance.0

-- no card of a list is of the class
abbrev pub NoCard : Class → List Answer → Type 0
NoCard c xs = (i : ℕ) (a : Answer) → At xs i a → a.class ≡ c → ⊥

-- the card at place i is of the class, has this number and distance, and every earlier card of the class is nearer
pub record LeadsAt (c : Class) (xs : List Answer) (n : ℕ) (d : Miles) (i : ℕ) (a : Answer) : Type 0 where
  pub stands : At xs i a
  pub of_class : a.class ≡ c
  pub numbered : a.number ≡ n
  pub far : a.distance ≡ d
  pub first : (j : ℕ) (b : Answer) → j < i → At xs j b → b.class ≡ c → b.distance.0 < d.0

-- a card of the list leads it
abbrev pub Leads : Class → List Answer → ℕ → Miles → Type 0
Leads c xs n d = (i : ℕ) × (a : Answer) × LeadsAt c xs n d i a

-- a card of the class stands in the list and is at least this far
abbrev pub Matched : Class → ℕ → List Answer → Type 0
Matched c n bs = (j : ℕ) × (b : Answer) × At bs j b × (b.class ≡ c) × (n ≤ b.distance.0)
