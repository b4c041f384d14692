-- Digits in any base up to sixteen, in ASCII: 0 to 9 are 48 to 57, and the letters a to f, which stand behind 9, are 97 to 102.
-- Assumes nothing.
use Rattle.std.specs.Prelude.{ℕ, zero, suc, ◌+◌, ◌-◌, ◌*◌, ◌/◌, ◌%◌, List, [], ◌∷◌, ◌++◌, true, false, ltb}

-- the digit of a number below sixteen, in lower case
unfoldable pub digit : ℕ → ℕ
digit d = elim (ltb d 10) [ true ↦ 48 + d | false ↦ 87 + d ]

-- the last `count` digits of n in a base, the highest first, with zeros in front where n has fewer
unfoldable pub digits_in : ℕ → ℕ → ℕ → List ℕ
digits_in base zero n = []
digits_in base (suc count) n = digits_in base count (n / base) ++ (digit (n % base) ∷ [])

-- what a digit says
unfoldable pub digit_read : ℕ → ℕ
digit_read b = elim (ltb b 58) [ true ↦ b - 48 | false ↦ b - 87 ]

-- what a text of digits in a base says when it is read from the left, `so_far` being what was read before it
unfoldable pub read_in : ℕ → ℕ → List ℕ → ℕ
read_in base so_far [] = so_far
read_in base so_far (b ∷ rest) = read_in base (so_far * base + digit_read b) rest
