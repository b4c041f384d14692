-- A text of one line asks what its line asks, and a text with another line behind it asks nothing.
-- Assumes nothing.
use Rattle.std.specs.Prelude.{Option, None}
use Prim.Native.Nat.{ℕ, suc, ◌+◌, ◌≤◌, ◌<◌}
use native.Mathlib.Omega.{arith}
use mathlib.Core.Path.{◌≡◌, refl, sym, ap, ◌∙◌}
use mathlib.Core.List.{List, [], ◌∷◌}
use lib.ListN.{length, take, length-drop, drop_of_length-le}
use Rattle.pieces.specs.Pieces.{before, pieces}
use Rattle.pieces.proofs.Laws.{before_take, behind, pieces_line}
use Rattle.comma.specs.Stages.{taken_in}
use Rattle.comma.specs.Text.{lines_of}
use Rattle.question.specs.declared.Question.{Question}
use Rattle.question.specs.Question.{asked_in, one_line, question_in}

no_lines : asked_in [] ≡ question_in []
unfolding asked_in taken_in before question_in lines_of pieces
no_lines = refl

line_of_lem : (t : List ℕ) → 0 < length t → question_in t ≡ one_line (before 10 t ∷ lines_of (behind 10 t))
unfolding question_in lines_of
line_of_lem t h = ap one_line (pieces_line 10 t h)

last_line : (t : List ℕ) → length t ≤ suc (length (before 10 t)) → asked_in (before 10 t) ≡ question_in t
unfolding lines_of pieces before
last_line [] g = no_lines
last_line (x ∷ rest) g =
    let t : List ℕ = x ∷ rest in
    sym (line_of_lem t (omega arith) ∙ ap (λ ls. one_line (before 10 t ∷ lines_of ls)) (drop_of_length-le t {i = suc (length (before 10 t))} g))

other_line : (t : List ℕ) → suc (length (before 10 t)) < length t → question_in t ≡ None
unfolding lines_of
other_line t h =
    line_of_lem t (omega arith)
    ∙ ap (λ ls. one_line (before 10 t ∷ ls)) (pieces_line 10 (behind 10 t) (omega (arith, length-drop (suc (length (before 10 t))) t)))

module _ (text : List ℕ) (end : ℕ) (e : end ≡ length (before 10 text)) where
  pub two_lines : end + 1 < length text → None ≡ question_in text
  two_lines h = sym (other_line text (omega (arith, e)))

  pub one_line_lem : (r : Option Question) → length text ≤ end + 1 → r ≡ asked_in (take end text) → r ≡ question_in text
  one_line_lem r h q =
      q ∙ ap asked_in (ap (λ n. take n text) e ∙ before_take 10 text) ∙ last_line text (omega (arith, e))
