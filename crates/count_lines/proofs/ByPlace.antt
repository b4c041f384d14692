-- The first walk over a text by the places in it: what is left from a place on is a line, which ends where `pieces` says, and the lines
-- behind it.
-- Assumes nothing.
use Rattle.std.specs.Prelude.{Option, Some, None, Result, Ok, Err}
use Prim.Native.Nat.{ℕ, suc, ◌+◌, ◌-◌, ◌≤◌, ◌<◌}
use Rattle.std.proofs.Common.{arith, add-one, sym, ◌∙◌, drop_of_length-le, drop-drop}
use Rattle.std.specs.Prelude.{◌≡◌, refl}
use Rattle.std.proofs.Math.Path.{ap}
use mathlib.Core.List.{List, [], ◌∷◌}
use Rattle.std.proofs.Math.ListN.{length, take, drop, length-drop}
use Rattle.pieces.specs.Pieces.{pieces, before}
use Rattle.pieces.proofs.Laws.{before_within, before_take, pieces_line}
use Rattle.fields.specs.declared.Fields.{Fields}
use Rattle.comma.specs.Line.{line_of}
use Rattle.comma.specs.Text.{lines_of, Cards, cards, bad, joined, then, cards_from, cards_in}
use Rattle.count_lines.specs.Count.{count_from}

-- ---- one line

-- what is left of the text from a place on, the next line having the number k
abbrev pub rest : ℕ → List ℕ → ℕ → Cards
rest k text at = cards_from k (lines_of (drop at text))

module _ (text : List ℕ) (at end : ℕ) (there : at < length text) (e : end ≡ at + length (before 10 (drop at text))) where
  -- the line ends within the text
  pub line_within : end ≤ length text
  line_within = omega (arith, e, before_within 10 (drop at text), length-drop at text)

  -- it is the first of those that are left
  next_line : lines_of (drop at text) ≡ take (end - at) (drop at text) ∷ lines_of (drop (end + 1) text)
  unfolding lines_of
  next_line =
      let size = length (before 10 (drop at text)) in
      let long : end - at ≡ size = omega (arith, e) in
      let place : at + suc size ≡ end + 1 = omega (arith, e) in
      pieces_line 10 (drop at text) (omega (arith, length-drop at text))
      ∙ ap (λ (s : List ℕ). s ∷ pieces 10 [] (drop (suc size) (drop at text))) (sym (ap (λ (n : ℕ). take n (drop at text)) long ∙ before_take 10 (drop at text)))
      ∙ ap (λ (s : List ℕ). take (end - at) (drop at text) ∷ pieces 10 [] s) (drop-drop (suc size) at text ∙ ap (λ (n : ℕ). drop n text) place)

  module _ (k : ℕ) (x : Option Fields) (f : x ≡ line_of (take (end - at) (drop at text))) where
    rest_then : rest k text at ≡ then x k (rest (suc k) text (end + 1))
    unfolding cards_from
    rest_then = ap (cards_from k) next_line ∙ ap (λ (l : Option Fields). then l k (rest (suc k) text (end + 1))) (sym f)

    pub line_good : (c : Fields) → x ≡ Some c → rest k text at ≡ joined c (rest (suc k) text (end + 1))
    line_good c q = rest_then ∙ ap (λ (l : Option Fields). then l k (rest (suc k) text (end + 1))) q

    pub line_bad : x ≡ None → rest k text at ≡ bad k
    line_bad q = rest_then ∙ ap (λ (l : Option Fields). then l k (rest (suc k) text (end + 1))) q

-- behind the last line none is left
pub none_left : (k : ℕ) (text : List ℕ) (at : ℕ) → length text ≤ at → rest k text at ≡ cards []
unfolding lines_of pieces cards_from
none_left k text at h = ap (λ (s : List ℕ). cards_from k (lines_of s)) (drop_of_length-le text h)

-- ---- the first walk

pub count_start : (text : List ℕ) → count_from 0 (cards_in text) ≡ count_from 0 (rest (0 + 1) text 0)
unfolding cards_in
count_start text = refl

counted_on : (n : ℕ) (f : Fields) (c : Cards) → count_from n (joined f c) ≡ count_from (n + 1) c
counted_on n f (cards xs) = let same : n + suc (length xs) ≡ n + 1 + length xs = omega arith in ap Ok same
counted_on n f (bad k) = refl

-- `whole` is what the text comes to, and `n` lines were passed
module _ (whole : Result ℕ ℕ) (n : ℕ) (text : List ℕ) (at : ℕ) (so_far : whole ≡ count_from n (rest (n + 1) text at)) where
  module _ (end : ℕ) (there : at < length text) (e : end ≡ at + length (before 10 (drop at text))) (x : Option Fields)
      (f : x ≡ line_of (take (end - at) (drop at text))) where
    pub count_turn : (c : Fields) → x ≡ Some c → whole ≡ count_from (n + 1) (rest (n + 1 + 1) text (end + 1))
    count_turn c q =
        so_far ∙ ap (count_from n) (line_good text at end there e (n + 1) x f c q)
        ∙ counted_on n c (rest (suc (n + 1)) text (end + 1))
        ∙ ap (λ (k : ℕ). count_from (n + 1) (rest k text (end + 1))) (sym (add-one (n + 1)))

    pub count_bad : x ≡ None → Err (n + 1) ≡ whole
    count_bad q = sym (so_far ∙ ap (count_from n) (line_bad text at end there e (n + 1) x f q))

  pub count_end : length text ≤ at → Ok n ≡ whole
  count_end h =
      let same : n + 0 ≡ n = omega arith in
      sym (so_far ∙ ap (count_from n) (none_left (n + 1) text at h) ∙ ap Ok same)
