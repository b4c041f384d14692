-- A number looked up in a list: whether it stands there, and the line of a printed table that has it.
-- Assumes nothing.
use Rattle.std.specs.Prelude.{ℕ, List, [], ◌∷◌, Bool, true, false, eqb}
use Rattle.search.specs.Rising.{both}

-- one of two tests passes
abbrev pub either : Bool → Bool → Bool
either true t = true
either false t = t

-- x is one of the entries
unfoldable pub among : ℕ → List ℕ → Bool
among x [] = false
among x (a ∷ rest) = either (eqb x a) (among x rest)

-- a test passes at each line: a test that computes
abbrev pub every : {A : Type 0} → (A → Bool) → List A → Bool
every ok [] = true
every ok (a ∷ rest) = both (ok a) (every ok rest)

-- the value of the first line that has the key x; other where no line has it
unfoldable pub look_up : {A B : Type 0} → (A → ℕ) → (A → B) → ℕ → List A → B → B
look_up key value x [] other = other
look_up key value x (a ∷ rest) other = elim (eqb x (key a)) [ true ↦ value a | false ↦ look_up key value x rest other ]
