-- The start and one turn of each walk over the cards: what is counted, or written, is the lines of the cards passed.
-- Assumes nothing.
use Rattle.std.specs.Prelude.{ℕ, zero, suc, ◌+◌, ◌≤◌, ◌<◌, ◌≡◌, refl, List, [], ◌∷◌, ◌++◌, map, length, take, get_or}
use Rattle.std.proofs.Common.{arith, add-one, ◌∙◌, ap, sym, subst, append_assoc, length-append, take_all}
use Rattle.pieces.specs.Pieces.{closed}
use Rattle.buffer.specs.Wrote.{Wrote}
use Rattle.buffer.proofs.Laws.{joined, written_whole}
use Rattle.fields.specs.Layout.{fields_of}
use Rattle.comma.specs.Strict.{strict_line, strict_lines}

-- the line of a card, with its line feed
abbrev pub line_of : List ℕ → List ℕ
line_of card = strict_line (fields_of card) ++ (10 ∷ [])

-- the lines of the first so many cards
abbrev pub lines_to : ℕ → List (List ℕ) → List ℕ
lines_to n cards = strict_lines (map fields_of (take n cards))

-- one card more adds its line
lines_suc : (n : ℕ) (cards : List (List ℕ)) → n < length cards → lines_to (suc n) cards ≡ lines_to n cards ++ line_of (get_or cards n [])
unfolding strict_lines closed
lines_suc n [] h = absurd (omega (arith, h))
lines_suc zero (card ∷ rest) h = refl
lines_suc (suc n) (card ∷ rest) h =
    let first : List ℕ = strict_line (fields_of card) in
    ap (λ (text : List ℕ). first ++ (10 ∷ text)) (lines_suc n rest (omega (arith, h)))
    ∙ sym (append_assoc first (10 ∷ lines_to n rest) (line_of (get_or rest n [])))

lines_more : (n : ℕ) (cards : List (List ℕ)) → n < length cards → lines_to (n + 1) cards ≡ lines_to n cards ++ line_of (get_or cards n [])
lines_more n cards h = rw (add-one n) (lines_suc n cards h)

-- the lines of the first cards are no longer than those of all
lines_within : (n : ℕ) (cards : List (List ℕ)) → length (lines_to n cards) ≤ length (strict_lines (map fields_of cards))
unfolding strict_lines closed
lines_within zero cards = omega arith
lines_within (suc n) [] = omega arith
lines_within (suc n) (card ∷ rest) =
    let first : List ℕ = strict_line (fields_of card) in
    omega (
      arith,
      length-append first (10 ∷ lines_to n rest),
      length-append first (10 ∷ strict_lines (map fields_of rest)),
      lines_within n rest,
    )

module _ (cards : List (List ℕ)) where
  -- no card is passed
  pub size_start : 0 ≡ length (lines_to 0 cards)
  unfolding strict_lines closed
  size_start = refl

  pub put_start : (out : List ℕ) → Wrote out out 0 0 (lines_to 0 cards)
  unfolding strict_lines closed
  put_start out = record { place = refl; bytes = refl }

  -- all are
  pub all_passed : lines_to (length cards) cards ≡ strict_lines (map fields_of cards)
  all_passed = ap (λ (xs : List (List ℕ)). strict_lines (map fields_of xs)) (take_all (length cards) cards (omega arith))

-- the line of the next card stands in the scratch line
module _ (cards : List (List ℕ)) (i : ℕ) (h : i < length cards) (item : List ℕ) (there : item ≡ get_or cards i []) (line after : List ℕ) (size : ℕ) (w : Wrote line after 0 size (line_of item)) where
  line_there : line_of (get_or cards i []) ≡ line_of item
  line_there = ap line_of (sym there)

  more : length (lines_to (i + 1) cards) ≡ length (lines_to i cards) + size
  more = rw (lines_more i cards h, length-append) (omega (arith, w.place, ap length line_there))

  pub size_turn : (so_far : ℕ) → so_far ≡ length (lines_to i cards) → so_far + size ≡ length (lines_to (i + 1) cards)
  size_turn so_far e = omega (arith, more)

  module _ (short : size ≤ 256) (roomy : 256 ≤ length line) where
    line_is : take size after ≡ line_of (get_or cards i [])
    line_is = (written_whole w (omega arith)).0 ∙ sym line_there

    module _ (before out : List ℕ) (at : ℕ) (so_far : Wrote before out 0 at (lines_to i cards)) where
      -- it has room where the whole text has
      pub line_fits : length (strict_lines (map fields_of cards)) ≤ length before → length out ≡ length before → at + length (take size after) ≤ length out
      line_fits room kept = omega (arith, lines_within (i + 1) cards, so_far.place, more, w.place, ap length line_is, ap length line_there)

      pub put_turn : (written : List ℕ) (next : ℕ) → Wrote out written at next (take size after) → Wrote before written 0 next (lines_to (i + 1) cards)
      put_turn written next copied =
          rw (lines_more i cards h) (joined so_far (subst (Wrote out written at next) line_is copied))
