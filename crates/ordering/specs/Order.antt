-- The counterpart of a card, from the bytes, and the law on two cards: a counterpart never answers less.
-- Assumes nothing.
use Rattle.std.specs.Prelude.{ℕ, ◌≤◌, ◌≡◌, List, Result, Ok, Err}
use Rattle.card.specs.declared.Answer.{Answer}
use Rattle.refusals.specs.declared.Refusal.{Refusal}
use Rattle.buffer.specs.Numbers.{byte_at, two_at, four_at}
use Rattle.card.specs.declared.Class.{Class}
use Rattle.card.specs.declared.Class.TheVariants as class
use Rattle.card.specs.Answers.{answer_of}

-- "A class is kind 1 or kind 2."
abbrev pub kind_of : Class → ℕ
kind_of class.Toxic = 1
kind_of class.Flammable = 2

-- "Route and table are the numbers that demand 2 gives a card": those of its answer as a first card; 0 where it has none
abbrev pub route_in : Result Answer Refusal → ℕ
route_in (Ok a) = a.route
route_in (Err r) = 0

abbrev pub table_in : Result Answer Refusal → ℕ
table_in (Ok a) = a.table
table_in (Err r) = 0

unfoldable pub route_of : List ℕ → ℕ
route_of card = route_in (answer_of card 0)

unfoldable pub table_of : List ℕ → ℕ
table_of card = table_in (answer_of card 0)

-- A counterpart, document 01's own term (demand 3), from the bytes of two cards, field by field: "Substance means kind and
-- CAS number, quantity the pounds, temperature bytes 18 and 19, kind of containment byte 3. Area and wall matter in a dike,
-- the floor in a building." Bytes 18 and 19 are in state 5 the concentration: document 02's "Ring ordering needs equal
-- concentration" is the same equation. A5: "Ring ordering compares 3 with 3 only", and a counterpart has at least the floor.
pub record Counterpart (x y : List ℕ) : Type 0 where
  pub kind : byte_at x 0 ≡ byte_at y 0
  pub cas : four_at x 4 ≡ four_at y 4
  pub state : byte_at x 1 ≡ byte_at y 1
  pub topography : byte_at x 2 ≡ byte_at y 2
  pub temperature : two_at x 18 ≡ two_at y 18
  pub containment : byte_at x 3 ≡ byte_at y 3
  pub quantity : four_at x 8 ≤ four_at y 8
  pub dike_area : byte_at x 3 ≡ 1 → four_at x 12 ≡ four_at y 12
  pub wall : byte_at x 3 ≡ 1 → two_at y 16 ≤ two_at x 16
  pub floor : byte_at x 3 ≡ 2 → four_at x 12 ≤ four_at y 12
  pub shed_floor : byte_at x 3 ≡ 3 → four_at x 12 ≤ four_at y 12
  pub route : route_of x ≡ route_of y
  pub table : table_of x ≡ table_of y
