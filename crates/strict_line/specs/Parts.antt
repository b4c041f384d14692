-- The parts of a strict line, as the code writes them one after the other. They serve the proofs; what a strict line is stands in
-- `comma/specs/Strict.antt`.
-- Assumes nothing.
use Rattle.std.specs.Prelude.{ℕ, List, [], ◌∷◌, ◌++◌}
use Rattle.decimal.specs.Decimal.{digits}
use Rattle.pieces.specs.Pieces.{closed}
use Rattle.fields.specs.declared.Fields.{Fields}
use Rattle.comma.specs.Strict.{cas_text, tenths_text}

unfoldable pub codes_text : Fields → List ℕ
codes_text f = closed 44 (digits f.kind ∷ digits f.state ∷ digits f.topography ∷ digits f.containment ∷ [])

unfoldable pub amounts_text : Fields → List ℕ
amounts_text f = closed 44 (cas_text f.cas ∷ digits f.pounds ∷ digits f.area ∷ [])

-- with the line feed at the end
unfoldable pub lasts_text : Fields → List ℕ
lasts_text f = closed 44 (digits f.wall ∷ tenths_text f.state f.heat ∷ digits f.number ∷ []) ++ (10 ∷ [])
