-- The field that is taken of a text is the first of its fields.
-- Assumes nothing.
use Rattle.std.specs.Prelude.{Option, Some, None, option_and_then}
use Prim.Native.Nat.{ℕ, suc, ◌+◌, ◌≤◌, ◌<◌}
use native.Mathlib.Omega.{arith}
use Rattle.std.specs.Prelude.{◌≡◌, refl, Bool, true, false, eqb}
use Rattle.std.proofs.Common.{◌∙◌, lt-ltb, le-ltb, ⊎_elim}
use Rattle.std.proofs.Math.Path.{ap}
use mathlib.Core.List.{List, [], ◌∷◌}
use Rattle.std.proofs.Math.ListN.{length, drop}
use Rattle.search.specs.Laws.{lt_or_ge}
use Rattle.pieces.specs.Pieces.{in_front, pieces, before}
use Rattle.pieces.proofs.Laws.{pieces_more, pieces_last}
use Rattle.fields.specs.declared.Fields.{Fields}
use Rattle.numerals.specs.declared.Form.{Form}
use Rattle.numerals.specs.Numerals.{value_in}
use Rattle.comma.specs.Line.{fields_in, and, next, remark}
use Rattle.comma.specs.Stages.{placed, taken_in}

-- every line has a field
some_field : (text : List ℕ) → (field : List ℕ) × (rest : List (List ℕ)) × (fields_in text ≡ field ∷ rest)
unfolding fields_in pieces
some_field [] = ([], [], refl)
some_field (b ∷ text) = go (eqb b 44) (pieces 44 ([] ∷ []) text)
  where
    go : (t : Bool) (ps : List (List ℕ)) → (field : List ℕ) × (rest : List (List ℕ)) × ((elim t as (λ _. List (List ℕ)) [ true ↦ [] ∷ ps | false ↦ in_front b ps ]) ≡ field ∷ rest)
    go true ps = ([], ps, refl)
    go false [] = (b ∷ [], [], refl)
    go false (p ∷ ps) = (b ∷ p, ps, refl)

-- so a field with others behind it is not the last
next_some : (form : Form) (field text : List ℕ) (further : ℕ → List (List ℕ) → Option Fields) → next form (field ∷ fields_in text) further ≡ and (value_in form field) (λ n. further n (fields_in text))
next_some form field text further = rw (some_field text).2

remark_some : (field text : List ℕ) (f : Fields) → remark (field ∷ fields_in text) f ≡ None
remark_some field text f = rw (some_field text).2

module _ (text : List ℕ) where
  -- where a comma ends the field, the others stand behind the comma
  fields_more : length (before 44 text) < length text → fields_in text ≡ before 44 text ∷ fields_in (drop (length (before 44 text) + 1) text)
  unfolding fields_in
  fields_more h =
      let size = length (before 44 text) in
      let place : suc size ≡ size + 1 = omega arith in
      pieces_more 44 ([] ∷ []) text h
      ∙ ap (λ (n : ℕ). before 44 text ∷ pieces 44 ([] ∷ []) (drop n text)) place

  fields_last : length text ≤ length (before 44 text) → fields_in text ≡ text ∷ []
  unfolding fields_in
  fields_last h = pieces_last 44 text h

  -- the two ways of a field
  pub taken_ended : (form : Form) → length (before 44 text) < length text → taken_in form text ≡ placed (value_in form (before 44 text)) (drop (length (before 44 text) + 1) text)
  unfolding taken_in
  taken_ended form h = rw (lt-ltb (length (before 44 text)) (length text) h, taken_in)

  pub taken_unended : (form : Form) → length text ≤ length (before 44 text) → taken_in form text ≡ None
  unfolding taken_in
  taken_unended form h = rw (le-ltb (length (before 44 text)) (length text) h, taken_in)

  -- what comes of the fields of a text is what comes of the field that is taken and of the fields behind it
  pub taken_next : (form : Form) (further : ℕ → List (List ℕ) → Option Fields)
      → next form (fields_in text) further ≡ option_and_then (λ (p : ℕ × List ℕ). further p.0 (fields_in p.1)) (taken_in form text)
  taken_next form further = ⊎_elim ended unended (lt_or_ge (length (before 44 text)) (length text))
    where
      valued : (v : Option ℕ) (behind : List ℕ) → and v (λ m. further m (fields_in behind)) ≡ option_and_then (λ (p : ℕ × List ℕ). further p.0 (fields_in p.1)) (placed v behind)
      valued (Some m) behind = refl
      valued None behind = refl

      ended : length (before 44 text) < length text → next form (fields_in text) further ≡ option_and_then (λ (p : ℕ × List ℕ). further p.0 (fields_in p.1)) (taken_in form text)
      ended h =
          rw (fields_more h, taken_ended form h)
          (next_some form (before 44 text) (drop (length (before 44 text) + 1) text) further ∙ valued (value_in form (before 44 text)) (drop (length (before 44 text) + 1) text))

      unended : length text ≤ length (before 44 text) → next form (fields_in text) further ≡ option_and_then (λ (p : ℕ × List ℕ). further p.0 (fields_in p.1)) (taken_in form text)
      unended h = rw (fields_last h, taken_unended form h)

  -- the remark is the last field, or the line has too many
  pub remark_is : (f : Fields) → length text ≤ length (before 44 text) → remark (fields_in text) f ≡ Some f
  remark_is f h = ap (λ (fs : List (List ℕ)). remark fs f) (fields_last h)

  pub remark_not : (f : Fields) → length (before 44 text) < length text → remark (fields_in text) f ≡ None
  remark_not f h =
      ap (λ (fs : List (List ℕ)). remark fs f) (fields_more h) ∙ remark_some (before 44 text) (drop (length (before 44 text) + 1) text) f
