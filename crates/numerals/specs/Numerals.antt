-- Which field of a comma line is well formed, and what number it is. A field is a list of bytes in ASCII: the space is 32, the
-- hyphen and the minus are 45, and the digit d is 48 + d.
-- Assumes nothing.
use Rattle.std.specs.Prelude.{ℕ, ◌-◌, ◌≤◌, List, [], ◌∷◌, ◌++◌, Bool, true, false, leb, eqb, length, take, drop, Option, Some, None}
use Rattle.search.specs.Rising.{both}
use Rattle.search.specs.Places.{every}
use Rattle.buffer.specs.Numbers.{byte_at}
use Rattle.decimal.specs.Decimal.{read_from}
use Rattle.spaces.specs.Spaces.{bare}
use Rattle.numerals.specs.declared.Form.{Form}
use Rattle.numerals.specs.declared.Form.TheVariants.{Decimal, Cas, Temperature}

-- ---- "decimal"

abbrev pub is_digit : ℕ → Bool
is_digit b = both (leb 48 b) (leb b 57)

-- the number where it is well formed
abbrev pub numbered : Bool → ℕ → Option ℕ
numbered true n = Some n
numbered false n = None

-- digits read on from a number: nothing but digits, and not "too wide for its bytes". That goes by value, so that leading zeros
-- never make a number too wide.
unfoldable pub read_on : ℕ → ℕ → List ℕ → Option ℕ
read_on most so_far digits =
    numbered (both (every is_digit digits) (leb (read_from so_far digits) most)) (read_from so_far digits)

-- a decimal number of at most `most`: at least one digit, "leading zeros" among them
unfoldable pub number_in : ℕ → List ℕ → Option ℕ
number_in most [] = None
number_in most (b ∷ rest) = read_on most 0 (b ∷ rest)

-- ---- "CAS number with hyphens (7782-50-5, the last groups two digits and one)"

-- a first group of one byte or more, a hyphen, two bytes, a hyphen, one byte
unfoldable pub hyphened : List ℕ → Bool
hyphened text =
    both (leb 6 (length text)) (both (eqb (byte_at text (length text - 5)) 45) (eqb (byte_at text (length text - 2)) 45))

-- the three groups without their hyphens
unfoldable pub unhyphened : List ℕ → List ℕ
unhyphened text =
    take (length text - 5) text ++ (take 2 (drop (length text - 4) text) ++ drop (length text - 1) text)

-- the number of the digits without hyphens. No check digit is tested.
unfoldable pub cas_in : List ℕ → Option ℕ
cas_in text = elim (hyphened text) [ true ↦ read_on 4_294_967_295 0 (unhyphened text) | false ↦ None ]

-- ---- "temperature in tenths"

-- a number below zero in two bytes, two's complement; "a minus zero is not well formed"
abbrev pub minus : Option ℕ → Option ℕ
minus (Some n) = elim (eqb n 0) [ true ↦ None | false ↦ Some (65_536 - n) ]
minus None = None

-- the two bytes of the temperature as one number, still unsigned, as a card holds it: from -32,768 to 32,767
unfoldable pub heat_in : List ℕ → Option ℕ
heat_in [] = None
heat_in (b ∷ rest) = elim (eqb b 45) [ true ↦ minus (number_in 32_768 rest) | false ↦ number_in 32_767 (b ∷ rest) ]

-- ---- a field by what it is to hold

-- "decimal but for .. CAS number with hyphens .., temperature in tenths": a decimal number of at most so much, or one of the two
abbrev pub value_of : Form → List ℕ → Option ℕ
value_of (Decimal most) text = number_in most text
value_of Cas text = cas_in text
value_of Temperature text = heat_in text

-- the number of a field, with spaces around it or none
unfoldable pub value_in : Form → List ℕ → Option ℕ
value_in f field = value_of f (bare field)

-- the largest number that it may be
abbrev pub most_of : Form → ℕ
most_of (Decimal most) = most
most_of Cas = 4_294_967_295
most_of Temperature = 65_535

abbrev pub Within : ℕ → Option ℕ → Type 0
Within most (Some n) = n ≤ most
Within most None = Unit {0}
