-- A card's line of a listing as text: a list of bytes in ASCII, where the space is 32 and the line feed 10.
-- Assumes nothing.
use Rattle.std.specs.Prelude.{ℕ, List, [], ◌∷◌, ◌++◌}
use Rattle.card.specs.declared.Answer.{Answer}
use Rattle.decimal.specs.Decimal.{digits, fixed}

-- a text with a space behind it
abbrev pub spaced : List ℕ → List ℕ
spaced text = text ++ (32 ∷ [])

-- "Every line ends in a line feed."
abbrev pub ended : List ℕ → List ℕ
ended text = text ++ (10 ∷ [])

-- "miles (two decimals)", at the end of a line
unfoldable pub miles_text : ℕ → List ℕ
miles_text miles = ended (fixed 2 miles)

-- "pounds per minute (three decimals) and miles (two decimals)"
unfoldable pub rates_text : ℕ → ℕ → List ℕ
rates_text rate miles = spaced (fixed 3 rate) ++ miles_text miles

-- "card number, route, table"
unfoldable pub numbers_text : ℕ → ℕ → ℕ → List ℕ
numbers_text number route table = spaced (digits number) ++ (spaced (digits route) ++ spaced (digits table))

-- "card number, route, table, pounds per minute (three decimals) and miles (two decimals)"
unfoldable pub card_line : Answer → List ℕ
card_line a = numbers_text a.number a.route a.table ++ rates_text a.rate.0 a.distance.0
