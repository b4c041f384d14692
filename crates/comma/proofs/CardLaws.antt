-- The bytes of cards and registers: they have their lengths, and reading them gives the cards that they were written from, as
-- writing the cards that were read gives the bytes.
-- Assumes nothing.
use Prim.Native.Nat.{ℕ, zero, suc, ◌+◌, ◌*◌, ◌/◌, ◌%◌, ◌^◌, ◌≤◌, ◌<◌}
use Rattle.std.proofs.Common.{add-one, arith, sym, ap, ap₂, ◌∙◌, inl, inr, length-append, length-take, length-drop, take-append-drop, drop_of_length-le, take_at, drop_at, drop-cons, get_or-take, get_or-drop, length-take-le}
use Rattle.std.specs.Prelude.{◌≡◌, ◌⊎◌, length, take, drop, map}
use Rattle.std.specs.Simd.{first_chunks}
use Rattle.std.proofs.lemmas.List.{length-map}
use Rattle.std.proofs.Math.Path.{refl}
use mathlib.Core.List.{List, [], ◌∷◌, ◌++◌, append-nil, append_assoc}
use Rattle.std.proofs.Math.ListN.{get_or-eq_default}
use Rattle.search.specs.Laws.{lt_or_ge}
use Rattle.buffer.specs.Numbers.{byte_at, two_at, four_at, two_bytes, four_bytes}
use Rattle.buffer.proofs.Laws.{read_two, read_four}
use Rattle.fields.specs.declared.Fields.{Fields}
use Rattle.fields.specs.Layout.{fields_of}
use Rattle.header.specs.declared.Layout.{Layout}
use Rattle.header.specs.Header.{version_of, count_of, first_layout, layout_of, laid, layout_in, size_of as size_in, cards_in, Whole}
use Rattle.header.proofs.Chunks.{cards_counted}
use Rattle.comma.specs.Text.{card_bytes, bytes_of, size_of, header_bytes, register_of}
use Rattle.comma.proofs.StrictLaws.{Fitting, AllFitting}
use Rattle.comma.specs.CardLaws.{AllBytes}

-- ---- lengths

-- a card has 24 bytes
pub card_length : (f : Fields) → length (card_bytes f) ≡ 24
unfolding card_bytes two_bytes four_bytes
card_length f = refl

-- so many cards have so many times 24
pub bytes_length : (xs : List Fields) → length (bytes_of xs) ≡ 24 * length xs
unfolding bytes_of
bytes_length [] = refl
bytes_length (f ∷ rest) = rw length-append (omega (arith, card_length f, bytes_length rest))

-- a header has seven
pub header_length : (count : ℕ) → length (header_bytes count) ≡ 7
unfolding header_bytes two_bytes four_bytes
header_length count = refl

-- and a register as many as its header says
pub register_length : (xs : List Fields) → length (register_of xs) ≡ size_of (length xs)
unfolding register_of
register_length xs = rw length-append (omega (arith, header_length (length xs), bytes_length xs))

-- ---- what is written is read

-- the bytes of a card are read as its fields
pub fields_read : (f : Fields) → Fitting f → fields_of (card_bytes f) ≡ f
unfolding fields_of card_bytes two_bytes four_bytes
fields_read f fits = λ i. record {
  kind = f.kind;
  state = f.state;
  topography = f.topography;
  containment = f.containment;
  cas = read_four f.cas [] fits.cas i;
  pounds = read_four f.pounds [] fits.pounds i;
  area = read_four f.area [] fits.area i;
  wall = read_two f.wall [] fits.wall i;
  heat = read_two f.heat [] fits.heat i;
  number = read_four f.number [] fits.number i;
}

-- they are the first 24 where more bytes stand behind them
pub card_front : (f : Fields) (rest : List ℕ) → take 24 (card_bytes f ++ rest) ≡ card_bytes f
card_front f rest = take_at (card_bytes f) rest 24 (card_length f)

-- and those are what is left
pub card_behind : (f : Fields) (rest : List ℕ) → drop 24 (card_bytes f ++ rest) ≡ rest
card_behind f rest = drop_at (card_bytes f) rest 24 (card_length f)

-- cards one after the other
fields_back : (xs : List Fields) → AllFitting xs → map fields_of (first_chunks 24 (length xs) (bytes_of xs)) ≡ xs
unfolding bytes_of
fields_back [] fit = refl
fields_back (f ∷ rest) fit =
    rw (card_front f (bytes_of rest), card_behind f (bytes_of rest), fields_read f fit.0, fields_back rest fit.1)

-- a version 1 register is laid out as that version says, and so is the register of some cards
first_laid : (bytes : List ℕ) → version_of bytes ≡ 1 → layout_in bytes ≡ first_layout
unfolding layout_in layout_of
first_laid bytes e = ap (λ v. laid (layout_of v)) e

register_version : (xs : List Fields) → version_of (register_of xs) ≡ 1
unfolding register_of header_bytes two_bytes four_bytes
register_version xs = refl

pub register_count : (xs : List Fields) → length xs ≤ 2_000 → count_of (register_of xs) ≡ length xs
unfolding register_of header_bytes two_bytes four_bytes
register_count xs few = read_two (length xs) [] (omega arith)

-- the register of some cards
pub register_read : (xs : List Fields) → length xs ≤ 2_000 → AllFitting xs → map fields_of (cards_in (register_of xs)) ≡ xs
unfolding register_of cards_in
register_read xs few fit =
    ap₂ (λ n (l : Layout). map fields_of (first_chunks l.card n (drop l.header (register_of xs)))) (register_count xs few) (first_laid (register_of xs) (register_version xs))
    ∙ (ap (λ b. map fields_of (first_chunks 24 (length xs) b)) (drop_at (header_bytes (length xs)) (bytes_of xs) 7 (header_length (length xs)))
    ∙ fields_back xs fit)

-- ---- bytes

-- also where some in front, or behind, are left out
pub drop_bytes : (n : ℕ) (b : List ℕ) → AllBytes b → AllBytes (drop n b)
drop_bytes n b all i = rw (get_or-drop n b i 0) (all (n + i))

take_bytes : (n : ℕ) (b : List ℕ) → AllBytes b → AllBytes (take n b)
take_bytes n b all i = go (lt_or_ge i n)
  where
    go : (i < n) ⊎ (n ≤ i) → byte_at (take n b) i < 256
    go (inl h) = rw (get_or-take n b i 0 h) (all i)
    go (inr h) = rw (get_or-eq_default (take n b) 0 {n = i} (simp length-take (omega arith))) (omega arith)

-- what is read of two bytes, and of four, fits two and four again
two_small : (b : List ℕ) (at : ℕ) → AllBytes b → two_at b at < 2 ^ 16
two_small b at all = omega (arith, all at, all (at + 1))

four_small : (b : List ℕ) (at : ℕ) → AllBytes b → four_at b at < 2 ^ 32
four_small b at all = omega (arith, two_small b at all, two_small b (at + 2) all)

-- the fields of any bytes fit
pub fields_fitting : (b : List ℕ) → AllBytes b → Fitting (fields_of b)
unfolding fields_of
fields_fitting b all = record {
  kind = all 0;
  state = all 1;
  topography = all 2;
  containment = all 3;
  cas = four_small b 4 all;
  pounds = four_small b 8 all;
  area = four_small b 12 all;
  wall = two_small b 16 all;
  heat = two_small b 18 all;
  number = four_small b 20 all;
}

-- so do those of so many cards
cut_fitting : (size n : ℕ) (b : List ℕ) → AllBytes b → AllFitting (map fields_of (first_chunks size n b))
cut_fitting size zero b all = tt
cut_fitting size (suc n) b all = (fields_fitting (take size b) (take_bytes size b all), cut_fitting size n (drop size b) (drop_bytes size b all))

-- and those of a register, one for each card that its header counts
pub register_fitting : (bytes : List ℕ) → AllBytes bytes → AllFitting (map fields_of (cards_in bytes))
unfolding cards_in
register_fitting bytes all = cut_fitting (layout_in bytes).card (count_of bytes) (drop (layout_in bytes).header bytes) (drop_bytes (layout_in bytes).header bytes all)

pub register_counted : (bytes : List ℕ) → length (map fields_of (cards_in bytes)) ≡ count_of bytes
register_counted bytes = length-map (cards_in bytes) fields_of ∙ cards_counted bytes

-- ---- what is read is written as the bytes that it was read from

-- one byte, two and four, in front of the bytes behind them
one_back : (b : List ℕ) (at : ℕ) → at + 1 ≤ length b → byte_at b at ∷ drop (at + 1) b ≡ drop at b
one_back b at h = rw (add-one at) (sym (drop-cons b at 0 (omega arith)))

two_back : (b : List ℕ) (at : ℕ) → AllBytes b → at + 2 ≤ length b → two_bytes (two_at b at) ++ drop (at + 2) b ≡ drop at b
unfolding two_bytes
two_back b at all h =
    let high : two_at b at / 256 % 256 ≡ byte_at b at = omega (arith, all at, all (at + 1)) in
    let low : two_at b at % 256 ≡ byte_at b (at + 1) = omega (arith, all (at + 1)) in
    let on : at + 2 ≡ at + 1 + 1 = omega arith in
    rw (high, low, on, one_back b (at + 1) (omega arith)) (one_back b at (omega arith))

four_back : (b : List ℕ) (at : ℕ) → AllBytes b → at + 4 ≤ length b → four_bytes (four_at b at) ++ drop (at + 4) b ≡ drop at b
unfolding four_bytes
four_back b at all h =
    let high : four_at b at / 65_536 ≡ two_at b at = omega (arith, two_small b (at + 2) all) in
    let low : four_at b at % 65_536 ≡ two_at b (at + 2) = omega (arith, two_small b (at + 2) all) in
    let on : at + 4 ≡ at + 2 + 2 = omega arith in
    rw (high, low, on, append_assoc, two_back b (at + 2) all (omega arith)) (two_back b at all (omega arith))

-- the fields of a card
pub card_read : (b : List ℕ) → AllBytes b → length b ≡ 24 → card_bytes (fields_of b) ≡ b
unfolding card_bytes fields_of
card_read b all long =
    let none : drop 24 b ≡ [] = drop_of_length-le b {i = 24} (omega arith) in
    let last : four_bytes (four_at b 20) ≡ drop 20 b =
    sym (append-nil (four_bytes (four_at b 20))) ∙ ap (λ (l : List ℕ). four_bytes (four_at b 20) ++ l) (sym none) ∙ four_back b 20 all (omega arith) in
    rw (
      last,
      two_back b 18 all (omega arith),
      two_back b 16 all (omega arith),
      four_back b 12 all (omega arith),
      four_back b 8 all (omega arith),
      four_back b 4 all (omega arith),
      one_back b 3 (omega arith),
      one_back b 2 (omega arith),
      one_back b 1 (omega arith),
    )
    (one_back b 0 (omega arith))

-- cards one after the other
cards_back : (n : ℕ) (b : List ℕ) → AllBytes b → length b ≡ 24 * n → bytes_of (map fields_of (first_chunks 24 n b)) ≡ b
unfolding bytes_of
cards_back zero b all long = sym (drop_of_length-le b {i = 0} (omega arith))
cards_back (suc n) b all long =
    let first : card_bytes (fields_of (take 24 b)) ≡ take 24 b =
    card_read (take 24 b) (take_bytes 24 b all) (length-take-le 24 b (omega arith)) in
    let others : bytes_of (map fields_of (first_chunks 24 n (drop 24 b))) ≡ drop 24 b =
    cards_back n (drop 24 b) (drop_bytes 24 b all) (simp length-drop (omega arith)) in
    rw (first, others) (take-append-drop 24 b)

-- the header of so many cards, in front of what stands behind the header
header_back : (bytes : List ℕ) (n : ℕ) → AllBytes bytes → 7 ≤ length bytes → four_at bytes 0 ≡ size_of n → byte_at bytes 4 ≡ 1
    → two_at bytes 5 ≡ n → header_bytes n ++ drop 7 bytes ≡ bytes
unfolding header_bytes
header_back bytes n all long whole version count =
    rw (append_assoc, ← version, ← whole, ← count, two_back bytes 5 all long, one_back bytes 4 (omega arith))
    (four_back bytes 0 all (omega arith))

-- a version 1 register whose header says its length is the register of its cards
pub register_back : (bytes : List ℕ) → AllBytes bytes → Whole bytes → four_at bytes 0 ≡ length bytes → version_of bytes ≡ 1 → register_of (map fields_of (cards_in bytes)) ≡ bytes
unfolding register_of cards_in
register_back bytes all w whole version =
    let l : layout_in bytes ≡ first_layout = first_laid bytes version in
    let n : ℕ = count_of bytes in
    let long : length bytes ≡ size_of n = w.register ∙ ap (λ y. size_in y n) l in
    let cut : bytes_of (map fields_of (cards_in bytes)) ≡ drop 7 bytes =
    ap (λ (y : Layout). bytes_of (map fields_of (first_chunks y.card n (drop y.header bytes)))) l
    ∙ cards_back n (drop 7 bytes) (drop_bytes 7 bytes all) (simp length-drop (omega arith)) in
    ap₂ (λ k b. header_bytes k ++ b) (register_counted bytes) cut
    ∙ header_back bytes n all (omega arith) (whole ∙ long) version refl
