-- "one strict way of writing lines, without them and with an empty remark": no spaces, no leading zeros.
-- Assumes nothing.
use Rattle.std.specs.Prelude.{ℕ, ◌-◌, ◌/◌, List, [], ◌∷◌, ◌++◌, map, true, false, ltb, eqb}
use Rattle.pieces.specs.Pieces.{closed}
use Rattle.decimal.specs.Decimal.{digits, padded}
use Rattle.fields.specs.declared.Fields.{Fields}

-- "7782-50-5, the last groups two digits and one"
unfoldable pub cas_text : ℕ → List ℕ
cas_text cas = digits (cas / 1_000) ++ (45 ∷ (padded 2 (cas / 10) ++ (45 ∷ padded 1 cas)))

-- "temperature in tenths": from the two bytes that a card has, with a minus (45) below zero
unfoldable pub heat_text : ℕ → List ℕ
heat_text heat = elim (ltb heat 32_768) [ true ↦ digits heat | false ↦ 45 ∷ digits (65_536 - heat) ]

-- "Its concentration, unsigned tenths of a percent by weight, takes the temperature's place (in a comma line too)": in state 5
-- the two bytes are written as they are
unfoldable pub tenths_text : ℕ → ℕ → List ℕ
tenths_text state heat = elim (eqb state 5) [ true ↦ digits heat | false ↦ heat_text heat ]

-- the ten numbers of a card
unfoldable pub field_texts : Fields → List (List ℕ)
field_texts f =
    digits f.kind
    ∷ digits f.state
    ∷ digits f.topography
    ∷ digits f.containment
    ∷ cas_text f.cas
    ∷ digits f.pounds
    ∷ digits f.area
    ∷ digits f.wall
    ∷ tenths_text f.state f.heat
    ∷ digits f.number
    ∷ []

-- the strict line of a card: a comma behind each number, and nothing behind the last comma, the empty remark
unfoldable pub strict_line : Fields → List ℕ
strict_line f = closed 44 (field_texts f)

-- the strict text of some cards: "Every line ends in a line feed"
unfoldable pub strict_lines : List Fields → List ℕ
strict_lines xs = closed 10 (map strict_line xs)
