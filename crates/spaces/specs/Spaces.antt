-- "allows spaces around a field": a field without them. The space is 32.
-- Assumes nothing.
use Rattle.std.specs.Prelude.{ℕ, List, [], ◌∷◌, true, false, eqb}

-- without the spaces in front
unfoldable pub skip : List ℕ → List ℕ
skip [] = []
skip (b ∷ rest) = elim (eqb b 32) [ true ↦ skip rest | false ↦ b ∷ rest ]

-- a byte in front of what is left of the bytes behind it; a space with nothing behind it goes too
abbrev pub keep : ℕ → List ℕ → List ℕ
keep b [] = elim (eqb b 32) [ true ↦ [] | false ↦ b ∷ [] ]
keep b (c ∷ rest) = b ∷ (c ∷ rest)

-- without the spaces behind
unfoldable pub chop : List ℕ → List ℕ
chop [] = []
chop (b ∷ rest) = keep b (chop rest)

-- without the spaces around it; those inside stay
unfoldable pub bare : List ℕ → List ℕ
bare field = chop (skip field)
