-- Demand 1, "accepts or gives exactly the numbered refusal whose condition holds": what it says of any call and any table of
-- conditions, and of the register call for any bytes and any answer buffer. The theorem is `refused_exactly` of `Exactly`; the
-- calls of comma lines have theirs in `line_conditions`.
-- Assumes nothing.
use Rattle.std.specs.Prelude.{ℕ, ◌<◌, ◌≡◌, refl, true, List, [], ◌∷◌, map, ◌↔◌, Ok, Err}
use Rattle.refusals.specs.Numbers.{refused_at}
use Rattle.refusals.specs.declared.Refusal.{Refusal}
use Rattle.refusals.specs.Numbers.{number_of}
use Rattle.farthest.specs.declared.Leaders.{Leaders}
use Rattle.cards.specs.Register.{outcome_of}
use Rattle.conditions.specs.Conditions.{Condition, condition, only, of_register, of_card, at_last, conditions_at}
use Rattle.conditions.specs.First.{holds_in, Names}

-- A table has a list of conditions at each place. The condition in a line of it holds at a place; lines and places are counted
-- from 0.
abbrev pub Holds : (ℕ → List Condition) → ℕ → ℕ → Type 0
Holds table line place = holds_in (table place) line ≡ true

-- a refusal's condition holds at a place, no condition in a line above it holds there, and none holds at an earlier place
pub record First (table : ℕ → List Condition) (r : Refusal) (place : ℕ) : Type 0 where
  pub line : ℕ
  pub names : Names (table place) line r
  pub holds : Holds table line place
  pub above : (i : ℕ) → i < line → Holds table i place → ⊥
  pub earlier : (p i : ℕ) → p < place → Holds table i p → ⊥

-- Demand 1 of any call: it gives a refusal at a place exactly when its condition is the first that holds, and accepts exactly
-- when no condition holds anywhere.
abbrev pub ExactlyBy : (ℕ → List Condition) → (Refusal → ℕ → Type 0) → Type 0 → Type 0
ExactlyBy table Refused Accepted =
    ((r : Refusal) (place : ℕ) → Refused r place ↔ First table r place)
    × (Accepted ↔ ((place line : ℕ) → Holds table line place → ⊥))

-- Demand 1 of the register call. 1 to 4 stand above a card's conditions and at place 0 alone, so they come before every card. A wrong
-- stored distance stands at place 0 as well and below them, but its condition is that no card's holds: so it comes behind every card.
abbrev pub RefusedExactly : Type 0
RefusedExactly =
    (bytes : List ℕ) (room : ℕ)
    → ExactlyBy (conditions_at bytes room)
    (λ r place. outcome_of bytes room ≡ Err (refused_at r place))
    ((l : Leaders) × (outcome_of bytes room ≡ Ok l))

-- the number of a line's refusal
abbrev pub number_in : Condition → ℕ
number_in (condition r b) = number_of r

-- The lines stand in the order of document 01's numbers, with 14, 15 and 16 "where 9 was", behind it and above 10, 21 between them and
-- 10, and 3 once more at the end.
pub numbered : (bytes : List ℕ) (room place : ℕ) → map number_in (conditions_at bytes room place) ≡ 1 ∷ 2 ∷ 3 ∷ 4 ∷ 5 ∷ 6 ∷ 7 ∷ 8 ∷ 9 ∷ 14 ∷ 15 ∷ 16 ∷ 21 ∷ 10 ∷ 11 ∷ 3 ∷ []
unfolding conditions_at only of_register of_card at_last
numbered bytes room place = refl
