-- The stages of the code over a line, as they go: the first field of what is left of it, and how what a stage answers agrees with
-- the definition in `Line.antt`. They serve the proofs.
-- Assumes nothing.
use Rattle.std.specs.Prelude.{ℕ, ◌+◌, ◌≡◌, List, true, false, ltb, length, drop, Option, Some, None}
use Rattle.comma.specs.declared.Amounts.{Amounts}
use Rattle.pieces.specs.Pieces.{before}
use Rattle.numerals.specs.declared.Form.{Form}
use Rattle.numerals.specs.Numerals.{value_in}
use Rattle.comma.specs.declared.Codes.{Codes}
use Rattle.comma.specs.Line.{fields_in, lasts_in, amounts_in, codes_in}

abbrev pub placed : Option ℕ → List ℕ → Option (ℕ × List ℕ)
placed (Some n) behind = Some (n, behind)
placed None behind = None

-- the number of the first field of a text, where a comma ends it, and what stands behind the comma
unfoldable pub taken_in : Form → List ℕ → Option (ℕ × List ℕ)
taken_in form text =
    elim (ltb (length (before 44 text)) (length text))
    [ true ↦ placed (value_in form (before 44 text)) (drop (length (before 44 text) + 1) text) | false ↦ None ]

-- what is left of the line behind the codes
abbrev pub CodesTold : List ℕ → Codes → List ℕ → Type 0
CodesTold text codes behind = codes_in (fields_in text) ≡ amounts_in codes (fields_in behind)

-- and behind the amounts, whatever the codes are
abbrev pub AmountsTold : List ℕ → Amounts → List ℕ → Type 0
AmountsTold text amounts behind = (codes : Codes) → amounts_in codes (fields_in text) ≡ lasts_in codes amounts (fields_in behind)

abbrev pub NoAmounts : List ℕ → Type 0
NoAmounts text = (codes : Codes) → amounts_in codes (fields_in text) ≡ None
