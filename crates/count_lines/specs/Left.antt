-- The lines that are left of a text, as they go.
-- Assumes nothing.
use Rattle.std.specs.Prelude.{ℕ, List}
use Rattle.comma.specs.Text.{lines_of}
use Rattle.count_lines.specs.declared.Lines.{Lines}

abbrev pub lines_left : Lines → List (List ℕ)
lines_left s = lines_of s.rest.now
