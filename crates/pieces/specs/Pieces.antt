-- A text between separators, as lines are between line feeds, and fields between commas: its pieces, and pieces put together
-- to a text again.
-- Assumes nothing.
use Rattle.std.specs.Prelude.{ℕ, ◌≡◌, List, [], ◌∷◌, ◌++◌, true, false, eqb}

-- a byte in front of the first piece; a piece of its own where there is none
abbrev pub in_front : ℕ → List (List ℕ) → List (List ℕ)
in_front b [] = (b ∷ []) ∷ []
in_front b (piece ∷ rest) = (b ∷ piece) ∷ rest

-- the pieces of a text between separators x. What stands behind the last separator is a piece; where nothing stands there,
-- `last` says whether that counts as an empty piece (fields) or as none (lines, whose last line feed ends the last line).
unfoldable pub pieces : ℕ → List (List ℕ) → List ℕ → List (List ℕ)
pieces x last [] = last
pieces x last (b ∷ rest) = elim (eqb b x) [ true ↦ [] ∷ pieces x last rest | false ↦ in_front b (pieces x last rest) ]

-- a text of pieces, with a separator behind each
unfoldable pub closed : ℕ → List (List ℕ) → List ℕ
closed x [] = []
closed x (piece ∷ rest) = piece ++ (x ∷ closed x rest)

-- the bytes before the first separator; all of them where there is none
unfoldable pub before : ℕ → List ℕ → List ℕ
before x [] = []
before x (b ∷ rest) = elim (eqb b x) [ true ↦ [] | false ↦ b ∷ before x rest ]

-- the separator stands nowhere in a piece
abbrev pub Without : ℕ → List ℕ → Type 0
Without x [] = Unit {0}
Without x (b ∷ rest) = (b ≡ x → ⊥) × Without x rest

-- nor in any of several
abbrev pub EachWithout : ℕ → List (List ℕ) → Type 0
EachWithout x [] = Unit {0}
EachWithout x (piece ∷ rest) = Without x piece × EachWithout x rest
