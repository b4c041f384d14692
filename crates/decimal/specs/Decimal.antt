-- How the listing writes a number as text. A text is a list of bytes in ASCII: the digit d is 48 + d, and the dot is 46.
-- Assumes nothing.
use Rattle.std.specs.Prelude.{ℕ, zero, suc, ◌+◌, ◌-◌, ◌*◌, ◌/◌, ◌%◌, ◌^◌, ◌≤◌, ◌<◌, List, [], ◌∷◌, ◌++◌, true, false, ltb}

-- the last `count` digits of n, with zeros in front where n has fewer
unfoldable pub padded : ℕ → ℕ → List ℕ
padded zero n = []
padded (suc count) n = padded count (n / 10) ++ ((48 + n % 10) ∷ [])

-- the digits of n, where `steps` bounds how many there are
unfoldable pub digits_within : ℕ → ℕ → List ℕ
digits_within zero n = []
digits_within (suc steps) n = elim (ltb n 10) [ true ↦ (48 + n) ∷ [] | false ↦ digits_within steps (n / 10) ++ ((48 + n % 10) ∷ []) ]

-- a number in decimal without leading zeros; 0 is the one digit 0. n has at most n + 1 digits, so the bound is never met
unfoldable pub digits : ℕ → List ℕ
unfolding digits_within
digits n = digits_within (suc n) n

-- n of the units of which 10 ^ places make a whole: the wholes, a dot, and exactly `places` digits of what is left.
-- "pounds per minute (three decimals) and miles (two decimals)"
unfoldable pub fixed : ℕ → ℕ → List ℕ
unfolding digits padded
fixed places n = digits (n / 10 ^ places) ++ (46 ∷ padded places (n % 10 ^ places))

-- what a text of digits says when it is read from the left, `so_far` being what was read before it
unfoldable pub read_from : ℕ → List ℕ → ℕ
read_from so_far [] = so_far
read_from so_far (b ∷ rest) = read_from (so_far * 10 + (b - 48)) rest

-- every byte is one of the ten digits
abbrev pub AllDigits : List ℕ → Type 0
AllDigits [] = Unit
AllDigits (b ∷ rest) = (48 ≤ b) × (b < 58) × AllDigits rest
