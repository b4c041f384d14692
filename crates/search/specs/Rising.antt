-- The one search of the register: the first place of a rising list whose entry is at least a number.
-- Assumes nothing.
use Rattle.std.specs.Prelude.{ℕ, zero, suc, List, [], ◌∷◌, Bool, true, false, leb}

-- the place, counted from 0, of the first entry that is at least x; the length where there is none
unfoldable pub first_at_least : ℕ → List ℕ → ℕ
first_at_least x [] = 0
first_at_least x (a ∷ rest) = elim (leb x a) [ true ↦ 0 | false ↦ suc (first_at_least x rest) ]

-- both tests pass
abbrev pub both : Bool → Bool → Bool
both true t = t
both false t = false

-- a and the entries behind it never fall: a test that computes
abbrev pub rises_from : ℕ → List ℕ → Bool
rises_from a [] = true
rises_from a (b ∷ rest) = both (leb a b) (rises_from b rest)

-- the entries never fall: a test that computes
abbrev pub rises : List ℕ → Bool
rises entries = rises_from 0 entries
