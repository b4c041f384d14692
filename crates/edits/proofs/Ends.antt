-- The parts of a header, one behind the other, and that its version is the one whose layout it has. Cards, one behind the other.
-- Assumes nothing.
use Rattle.std.specs.Prelude.{ℕ, ◌+◌, ◌*◌, ◌≤◌, ◌<◌, ◌≡◌, refl, true, false, List, [], ◌∷◌, ◌++◌, length, take, get_or, Some}
use Rattle.std.specs.List.{concat}
use Rattle.buffer.specs.Numbers.{two_bytes, four_bytes}
use Rattle.buffer.specs.declared.Writer.{Writer}
use Rattle.buffer.specs.Puts.{Puts}
use Rattle.buffer.proofs.Laws.{then}
use Rattle.header.specs.declared.Stored.{Stored}
use Rattle.std.proofs.Common.{arith, add-one, ◌∙◌, ap, sym, subst, append-nil}
use Rattle.std.proofs.lemmas.List.{take_more}
use Rattle.std.proofs.lemmas.List.Folds.{concat-append}
use native.Mathlib.Nat.{mul-suc}
use Rattle.std.proofs.lemmas.Bool.Decides.{nat_tests}
use Rattle.seasons.specs.Seasons.{is_older, gained, grown, Given}
use Rattle.card.proofs.Grown.{grown_long}
use Rattle.header.specs.InTurn.{Sized}
use Rattle.header.specs.Header.{layout_of, size_of}
use Rattle.edits.specs.Edits.{edit_version, edit_layout, header_bytes}

pub header_end : {b₀ b₁ b₂ b₃ b₄ b₅ : Writer} (count size : ℕ) (d : Stored) → size ≡ size_of edit_layout count → Puts b₀ b₁ (four_bytes size) → Puts b₁ b₂ (3 ∷ []) → Puts b₂ b₃ (two_bytes count)
    → Puts b₃ b₄ (two_bytes d.toxic) → Puts b₄ b₅ (two_bytes d.flammable) → Puts b₀ b₅ (header_bytes count d)
unfolding header_bytes
header_end {b₀} {b₁} count size d e whole version cards toxic flammable =
    then (subst (λ n. Puts b₀ b₁ (four_bytes n)) e whole) (then version (then cards (then toxic flammable)))

-- the version that an edit makes has the layout that an edit lays
pub version_laid : layout_of edit_version ≡ Some edit_layout
unfolding layout_of
version_laid = refl

-- ---- a card as version 3 has it

module _ (card : List ℕ) {w u : Writer} where
  -- one of version 3 is written as it is
  pub stands_longer : 28 ≤ length card → Puts w u card → Puts w u (grown card)
  unfolding grown
  stands_longer h one =
      let longer : is_older card ≡ false = grind (arith, nat_tests, h) in
      subst (Puts w u) (sym (append-nil card) ∙ ap (λ b. card ++ gained b) (sym longer)) one

  -- an older one with 1 and 366 behind it
  pub stands_grown : {v x : Writer} → length card < 28 → Puts w u card → Puts u v (two_bytes 1) → Puts v x (two_bytes 366) → Puts w x (grown card)
  unfolding grown
  stands_grown {v} {x} h one first last =
      let older : is_older card ≡ true = grind (arith, nat_tests, h) in
      subst (Puts w x) (ap (λ b. card ++ gained b) (sym older)) (then one (then first last))

  pub stands_long : Given card → Puts w u (grown card) → u.at ≡ w.at + 28
  stands_long g one = omega (arith, one.wrote.place, grown_long card g)

-- ---- cards of one size, as they are written: so many stand behind where the writer was

module _ (size : ℕ) (cards : List (List ℕ)) (sized : Sized size cards) (w : Writer) (roomy : w.at + size * length cards ≤ length w.bytes.now) (i : ℕ) (h : i < length cards) (item : List ℕ) (there : item ≡ get_or cards i [])
    (u : Writer) (so_far : Puts w u (concat (take i cards))) (place : u.at ≡ w.at + size * i) where
  long : length item ≡ size
  long = ap length there ∙ sized i h

  -- the next stands behind those before it
  more : concat (take i cards) ++ item ≡ concat (take (i + 1) cards)
  more =
      ap (λ (c : List ℕ). concat (take i cards) ++ c) (there ∙ sym (append-nil (get_or cards i [])))
      ∙ sym (ap concat (take_more cards i [] h) ∙ concat-append (take i cards) (get_or cards i [] ∷ []))

  module _ (v : Writer) (one : Puts u v item) where
    pub cards_turn : Puts w v (concat (take (i + 1) cards))
    cards_turn = subst (Puts w v) more (then so_far one)

    pub cards_place : v.at ≡ w.at + size * (i + 1)
    cards_place = rw (add-one i) (omega (arith, one.wrote.place, long, mul-suc size i))
