-- The end of a CAS number, as the code writes it behind the first hyphen. It serves the proofs; what the text of a CAS number is stands
-- in `comma/specs/Strict.antt`.
-- Assumes nothing.
use Rattle.std.specs.Prelude.{ℕ, ◌/◌, List, [], ◌∷◌, ◌++◌}
use Rattle.decimal.specs.Decimal.{padded}

-- what stands behind the first hyphen of a CAS number, and the comma
unfoldable pub cas_end : ℕ → List ℕ
cas_end cas = padded 2 (cas / 10) ++ (45 ∷ (padded 1 cas ++ (44 ∷ [])))
