-- The cards of a register as a list of them: what their bytes are, and what is known of each.
-- Assumes nothing.
use Rattle.std.specs.Prelude.{ℕ, zero, suc, ◌+◌, ◌-◌, ◌*◌, ◌<◌, ◌≤◌, ◌≡◌, refl, List, [], ◌∷◌, ◌++◌, length, take, drop, get_or}
use Rattle.std.specs.List.{concat}
use Rattle.std.specs.Simd.{first_chunks}
use Rattle.std.proofs.Common.{arith, ◌∙◌, ap, sym, length-append, length-take-le, length-drop, take_all, drop-cons, take-append-drop, drop-drop, take_at, drop_at}
use Rattle.std.proofs.lemmas.List.Folds.{concat-append}
use native.Mathlib.Nat.{mul-suc, mul-le-mul_left}
use native.Mathlib.Numerals.{unary_clauses}
use Rattle.header.specs.declared.Layout.{Layout}
use Rattle.header.specs.InTurn.{Sized}
use Rattle.header.specs.Header.{count_of, layout_in, size_of, cards_in, Whole}

-- ---- from the bytes to the cards

-- so many cards of so many bytes each
pub chunks_count : (size n : ℕ) (bytes : List ℕ) → length (first_chunks size n bytes) ≡ n
chunks_count size zero bytes = refl
chunks_count size (suc n) bytes = ap suc (chunks_count size n (drop size bytes))

pub chunk_at : (size n : ℕ) (bytes : List ℕ) (i : ℕ) → i < n → get_or (first_chunks size n bytes) i [] ≡ take size (drop (size * i) bytes)
chunk_at size zero bytes i h = absurd (omega (arith, h))
chunk_at size (suc n) bytes zero h = simp unary_clauses refl
chunk_at size (suc n) bytes (suc i) h =
    chunk_at size n (drop size bytes) i (omega (arith, h))
    ∙ ap (take size) (drop-drop (size * i) size bytes ∙ ap (λ k. drop k bytes) (let z : size + size * i ≡ size * suc i = omega (arith, mul-suc size i) in z))

module _ (bytes : List ℕ) (l : Layout) (e : l ≡ layout_in bytes) (w : Whole bytes) where
  long : length bytes ≡ l.header + l.card * count_of bytes
  long = w.register ∙ ap (λ y. size_of y (count_of bytes)) (sym e)

  pub header_there : l.header ≤ length bytes
  header_there = omega (arith, long)

  -- what stands behind the header, as the code takes it
  pub behind_header : take (length bytes - l.header) (drop l.header bytes) ≡ drop l.header bytes
  behind_header = take_all (length bytes - l.header) (drop l.header bytes) (omega (arith, length-drop l.header bytes))

  pub cards_whole : length (take (length bytes - l.header) (drop l.header bytes)) ≡ l.card * count_of bytes
  cards_whole = ap length behind_header ∙ (let z : length (drop l.header bytes) ≡ l.card * count_of bytes = omega (arith, length-drop l.header bytes, long) in z)

  pub cards_cut_out : first_chunks l.card (count_of bytes) (take (length bytes - l.header) (drop l.header bytes)) ≡ cards_in bytes
  unfolding cards_in
  cards_cut_out =
      ap (first_chunks l.card (count_of bytes)) behind_header
      ∙ ap (λ (y : Layout). first_chunks y.card (count_of bytes) (drop y.header bytes)) e

-- each of them has as many bytes as the list was cut into
pub chunks_sized : (size n : ℕ) (bytes : List ℕ) → length bytes ≡ size * n → Sized size (first_chunks size n bytes)
chunks_sized size n bytes e i h =
    let m : i < n = omega (arith, h, chunks_count size n bytes) in
    ap length (chunk_at size n bytes i m)
    ∙ length-take-le size (drop (size * i) bytes) (omega (arith, e, length-drop (size * i) bytes, mul-suc size i, mul-le-mul_left size m))

-- how many they are
pub cards_counted : (bytes : List ℕ) → length (cards_in bytes) ≡ count_of bytes
unfolding cards_in
cards_counted bytes = chunks_count (layout_in bytes).card (count_of bytes) (drop (layout_in bytes).header bytes)

-- ---- from the cards to the bytes

-- the cards from a place on are the card there and those behind it
pub cards_more : (cards : List (List ℕ)) (i : ℕ) → i < length cards → concat (drop i cards) ≡ get_or cards i [] ++ concat (drop (suc i) cards)
cards_more cards i h = ap concat (drop-cons cards i [] h)

-- the first cards and those behind them
pub cards_cut : (cards : List (List ℕ)) (i : ℕ) → concat (take i cards) ++ concat (drop i cards) ≡ concat cards
cards_cut cards i = sym (concat-append (take i cards) (drop i cards)) ∙ ap concat (take-append-drop i cards)

pub first_bytes : (size : ℕ) (cards : List (List ℕ)) → Sized size cards → (i : ℕ) → i ≤ length cards → length (concat (take i cards)) ≡ size * i
first_bytes size cards sized zero h = simp unary_clauses refl
first_bytes size [] sized (suc i) h = absurd (omega (arith, h))
first_bytes size (c ∷ cs) sized (suc i) h =
    let one : length c ≡ size = sized 0 (omega arith) in
    let others : length (concat (take i cs)) ≡ size * i = first_bytes size cs (λ j k. sized (suc j) (omega (arith, k))) i (omega (arith, h)) in
    omega (arith, length-append c (concat (take i cs)), one, others, mul-suc size i)

module _ (size : ℕ) (cards : List (List ℕ)) (sized : Sized size cards) (i : ℕ) where
  pub behind_first : i ≤ length cards → drop (size * i) (concat cards) ≡ concat (drop i cards)
  behind_first h =
      ap (drop (size * i)) (sym (cards_cut cards i))
      ∙ drop_at (concat (take i cards)) (concat (drop i cards)) (size * i) (first_bytes size cards sized i h)

  -- the bytes of the card at a place
  pub card_bytes : i < length cards → take size (drop (size * i) (concat cards)) ≡ get_or cards i []
  card_bytes h =
      ap (take size) (behind_first (omega (arith, h)) ∙ cards_more cards i h)
      ∙ take_at (get_or cards i []) (concat (drop (suc i) cards)) size (sized i h)
