-- The parts of a card as the code writes them. They serve the proofs; a card's bytes stand in `comma/specs/Text.antt`.
-- Assumes nothing.
use Rattle.std.specs.Prelude.{ℕ, List, [], ◌∷◌, ◌++◌}
use Rattle.buffer.specs.Numbers.{two_bytes, four_bytes}
use Rattle.fields.specs.declared.Fields.{Fields}

-- bytes 0 to 3; then CAS number, pounds and area; then wall, temperature and number
unfoldable pub code_bytes : Fields → List ℕ
code_bytes f = f.kind ∷ f.state ∷ f.topography ∷ f.containment ∷ []

unfoldable pub amount_bytes : Fields → List ℕ
amount_bytes f = four_bytes f.cas ++ (four_bytes f.pounds ++ four_bytes f.area)

unfoldable pub last_bytes : Fields → List ℕ
last_bytes f = two_bytes f.wall ++ (two_bytes f.heat ++ four_bytes f.number)
