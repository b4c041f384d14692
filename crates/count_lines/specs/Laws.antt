-- The lines of a text as they are taken, and what the first walk comes to.
-- Assumes nothing.
use Rattle.std.specs.Prelude.{Option, Some, None, Result, Ok, Err}
use Prim.Native.Nat.{ℕ, suc, ◌+◌, ◌≤◌, ◌<◌}
use Rattle.std.proofs.Common.{zero-le, suc-le-suc, arith, add-one, sym, ◌∙◌}
use Rattle.std.specs.Prelude.{◌≡◌, refl, Bool, true, false, eqb}
use Rattle.std.proofs.Math.Path.{ap}
use mathlib.Core.List.{List, [], ◌∷◌}
use Rattle.std.proofs.Math.ListN.{length, take, drop}
use Rattle.pieces.specs.Pieces.{in_front, pieces, before}
use Rattle.pieces.proofs.Laws.{before_take, pieces_line}
use Rattle.fields.specs.declared.Fields.{Fields}
use Rattle.comma.specs.Line.{line_of}
use Rattle.comma.specs.Text.{lines_of, Cards, cards, bad, joined, then, cards_from, cards_in}
use Rattle.count_lines.specs.Count.{count_from}

-- ---- the lines of a text

-- its first line, and the lines behind the line feed
pub first_line : (text : List ℕ) (end : ℕ) → 0 < length text → end ≡ length (before 10 text) → lines_of text ≡ take end text ∷ lines_of (drop (end + 1) text)
unfolding lines_of
first_line text end there e =
    let size : length (before 10 text) ≡ end = sym e in
    let place : suc (length (before 10 text)) ≡ end + 1 = omega (arith, e) in
    pieces_line 10 text there
    ∙ ap (λ (s : List ℕ). s ∷ pieces 10 [] (drop (suc (length (before 10 text))) text)) (sym (before_take 10 text) ∙ ap (λ (n : ℕ). take n text) size)
    ∙ ap (λ (n : ℕ). take end text ∷ pieces 10 [] (drop n text)) place

-- an empty text has none
pub no_line : (text : List ℕ) → length text ≤ 0 → lines_of text ≡ []
unfolding lines_of pieces
no_line [] h = refl
no_line (b ∷ text) h = absurd (omega (arith, h))

-- each has a byte at least, if only its line feed
pub lines_within : (text : List ℕ) → length (lines_of text) ≤ length text
unfolding lines_of pieces
lines_within [] = zero-le
lines_within (b ∷ text) = go (eqb b 10) (pieces 10 [] text) (lines_within text)
  where
    go : (t : Bool) (ps : List (List ℕ)) → length ps ≤ length text → length (elim t as (λ _. List (List ℕ)) [ true ↦ [] ∷ ps | false ↦ in_front b ps ]) ≤ suc (length text)
    go true ps h = suc-le-suc h
    go false [] h = suc-le-suc zero-le
    go false (p ∷ ps) h = omega (arith, h)

-- ---- one line, the first of those that are left; it has the number k

module _ (k : ℕ) (left : List (List ℕ)) (line : List ℕ) (others : List (List ℕ)) (e : left ≡ line ∷ others) (x : Option Fields) (f : x ≡ line_of line) where
  left_then : cards_from k left ≡ then x k (cards_from (suc k) others)
  unfolding cards_from
  left_then = ap (cards_from k) e ∙ ap (λ (l : Option Fields). then l k (cards_from (suc k) others)) (sym f)

  pub line_good : (c : Fields) → x ≡ Some c → cards_from k left ≡ joined c (cards_from (suc k) others)
  line_good c q = left_then ∙ ap (λ (l : Option Fields). then l k (cards_from (suc k) others)) q

  pub line_bad : x ≡ None → cards_from k left ≡ bad k
  line_bad q = left_then ∙ ap (λ (l : Option Fields). then l k (cards_from (suc k) others)) q

-- behind the last line none is left
pub none_left : (k : ℕ) (left : List (List ℕ)) → left ≡ [] → cards_from k left ≡ cards []
unfolding cards_from
none_left k left e = ap (cards_from k) e

-- ---- the first walk

pub count_start : (text : List ℕ) (left : List (List ℕ)) → left ≡ lines_of text → count_from 0 (cards_in text) ≡ count_from 0 (cards_from (0 + 1) left)
unfolding cards_in
count_start text left e = ap (λ (ls : List (List ℕ)). count_from 0 (cards_from 1 ls)) (sym e)

counted_on : (n : ℕ) (f : Fields) (c : Cards) → count_from n (joined f c) ≡ count_from (n + 1) c
counted_on n f (cards xs) = let same : n + suc (length xs) ≡ n + 1 + length xs = omega arith in ap Ok same
counted_on n f (bad k) = refl

-- `whole` is what the text comes to, and `n` lines were passed
module _ (whole : Result ℕ ℕ) (n : ℕ) (left : List (List ℕ)) (so_far : whole ≡ count_from n (cards_from (n + 1) left)) where
  module _ (line : List ℕ) (others : List (List ℕ)) (e : left ≡ line ∷ others) (x : Option Fields) (f : x ≡ line_of line) where
    pub count_turn : (c : Fields) → x ≡ Some c → whole ≡ count_from (n + 1) (cards_from (n + 1 + 1) others)
    count_turn c q =
        so_far ∙ ap (count_from n) (line_good (n + 1) left line others e x f c q)
        ∙ counted_on n c (cards_from (suc (n + 1)) others)
        ∙ ap (λ (k : ℕ). count_from (n + 1) (cards_from k others)) (sym (add-one (n + 1)))

    pub count_bad : x ≡ None → Err (n + 1) ≡ whole
    count_bad q = sym (so_far ∙ ap (count_from n) (line_bad (n + 1) left line others e x f q))

  pub count_end : left ≡ [] → Ok n ≡ whole
  count_end e =
      let same : n + 0 ≡ n = omega arith in
      sym (so_far ∙ ap (count_from n) (none_left (n + 1) left e) ∙ ap Ok same)
