-- Demand 3, in the words of document 01: what it says of two registers. The theorem is `rings_ordered` of `Ordering`.
-- Assumes nothing.
use Rattle.std.specs.Prelude.{ℕ, ◌<◌, ◌≡◌, List, [], length, get_or, Option, Ok}
use Rattle.farthest.specs.declared.Leader.{Leader}
use Rattle.buffer.specs.Numbers.{byte_at}
use Rattle.card.specs.declared.Class.{Class}
use Rattle.card.specs.declared.Class.TheVariants as class
use Rattle.ordering.specs.Order.{kind_of, Counterpart}
use Rattle.farthest.specs.declared.Leaders.{Leaders}
use Rattle.farthest.specs.Farthest.{NoFarther}
use Rattle.header.specs.Header.{count_of, cards_in}
use Rattle.cards.specs.Register.{outcome_of}

-- "Demand 3 reads its cards from the bytes handed in": the bytes of the card at a place, as the register's version lays them
abbrev pub card_at : List ℕ → ℕ → List ℕ
card_at register i = get_or (cards_in register) i []

-- "A register is accepted if the call that fills the answer buffer gives no refusal for it with some answer buffer; its
-- farthest distances are those in that call's result": what the call answers for these bytes and this buffer
abbrev pub Accepts : List ℕ → List ℕ → Leaders → Type 0
Accepts register buffer leaders = outcome_of register (length buffer) ≡ Ok leaders

-- "A class is kind 1 or kind 2.": the farthest card of a class in a call's result
abbrev pub farthest_in : Class → Leaders → Option Leader
farthest_in class.Toxic leaders = leaders.toxic
farthest_in class.Flammable leaders = leaders.flammable

-- every card of the class in the first register has a counterpart in the second. Places and numbers do not matter, several
-- cards may share one counterpart, and further cards change nothing.
abbrev pub Covered : Class → List ℕ → List ℕ → Type 0
Covered c first second =
    (i : ℕ) → i < count_of first → byte_at (card_at first i) 0 ≡ kind_of c
    → (j : ℕ) × (j < count_of second) × Counterpart (card_at first i) (card_at second j)

-- Demand 3: for any two accepted registers and each class, where every card of the class in the first has a counterpart in
-- the second, the second's farthest distance is at least the first's; and where the first has a farthest card of the class,
-- so has the second.
abbrev pub RingsOrdered : Type 0
RingsOrdered =
    (c : Class) (first second buffer other : List ℕ) (l m : Leaders)
    → Accepts first buffer l → Accepts second other m
    → Covered c first second
    → NoFarther (farthest_in c l) (farthest_in c m)
