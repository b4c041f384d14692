-- "Big-endian": what a reader makes of one, two, four and eight bytes, and the bytes that a number is written as. A byte past
-- the end reads 0, so that every list of bytes has a number at every place.
-- Assumes nothing.
use Rattle.std.specs.Prelude.{ℕ, ◌+◌, ◌*◌, ◌/◌, ◌%◌, List, [], ◌∷◌, ◌++◌, get_or}

-- ---- read

abbrev pub byte_at : List ℕ → ℕ → ℕ
byte_at bytes i = get_or bytes i 0

-- "Big-endian."
abbrev pub two_at : List ℕ → ℕ → ℕ
two_at bytes i = byte_at bytes i * 256 + byte_at bytes (i + 1)

abbrev pub four_at : List ℕ → ℕ → ℕ
four_at bytes i = two_at bytes i * 65_536 + two_at bytes (i + 2)

abbrev pub eight_at : List ℕ → ℕ → ℕ
eight_at bytes i = four_at bytes i * 4_294_967_296 + four_at bytes (i + 4)

-- ---- written

-- "Big-endian": the higher byte first
unfoldable pub two_bytes : ℕ → List ℕ
two_bytes n = (n / 256 % 256) ∷ (n % 256) ∷ []

-- "Big-endian": the higher half first
unfoldable pub four_bytes : ℕ → List ℕ
four_bytes n = two_bytes (n / 65_536) ++ two_bytes (n % 65_536)

-- "Big-endian": the higher half first, as with four
unfoldable pub eight_bytes : ℕ → List ℕ
eight_bytes n = four_bytes (n / 4_294_967_296) ++ four_bytes (n % 4_294_967_296)
