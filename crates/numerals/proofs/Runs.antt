-- Digits that are read on from a number: one byte, a number that is too wide, and one run of digits behind another.
-- Assumes nothing.
use Rattle.std.specs.Prelude.{ℕ, ◌+◌, ◌-◌, ◌*◌, ◌≤◌, ◌<◌, ◌≡◌, refl, List, [], ◌∷◌, ◌++◌, Bool, true, false, ◌⊎◌, leb, Some, None, option_and_then}
use Rattle.std.proofs.Common.{le_refl, le_trans, arith, sym, ap, ◌∙◌, inl, inr, ⊎_elim, le-leb, leb-false}
use Rattle.std.proofs.lemmas.Bool.{lt-leb}
use Rattle.search.specs.Laws.{lt_or_ge}
use Rattle.search.specs.Rising.{both}
use Rattle.search.specs.Places.{every}
use Rattle.decimal.specs.Decimal.{read_from}
use Rattle.numerals.specs.Numerals.{is_digit, numbered, read_on}

-- a test beside one that fails
both_fails : (t : Bool) → both t false ≡ false
both_fails true = refl
both_fails false = refl

-- ---- one byte, and none

pub none_left : (most v : ℕ) → v ≤ most → read_on most v [] ≡ Some v
unfolding read_on read_from
none_left most v h = rw (le-leb v most h)

pub digit_on : (most v b : ℕ) (rest : List ℕ) → 48 ≤ b → b ≤ 57 → read_on most v (b ∷ rest) ≡ read_on most (v * 10 + (b - 48)) rest
unfolding read_on read_from
digit_on most v b rest h k = rw (le-leb 48 b h, le-leb b 57 k)

pub digit_low : (most v b : ℕ) (rest : List ℕ) → b < 48 → read_on most v (b ∷ rest) ≡ None
unfolding read_on read_from
digit_low most v b rest h = rw (lt-leb 48 b h)

pub digit_high : (most v b : ℕ) (rest : List ℕ) → 57 < b → read_on most v (b ∷ rest) ≡ None
unfolding read_on read_from
digit_high most v b rest h = rw (lt-leb b 57 h, both_fails (leb 48 b))

-- reading on never makes a number smaller, so one that is too wide stays so
read_grows : (s : List ℕ) (v : ℕ) → v ≤ read_from v s
unfolding read_from
read_grows [] v = le_refl v
read_grows (b ∷ rest) v = le_trans {m = v * 10 + (b - 48)} (omega arith) (read_grows rest (v * 10 + (b - 48)))

pub too_wide : (most v : ℕ) (rest : List ℕ) → most < v → read_on most v rest ≡ None
unfolding read_on
too_wide most v rest h = rw (lt-leb (read_from v rest) most (le_trans h (read_grows rest v)), both_fails (every is_digit rest))

-- ---- one run of digits behind another

digit_or_not : (b : ℕ) → ((48 ≤ b) × (b ≤ 57)) ⊎ ((most v : ℕ) (rest : List ℕ) → read_on most v (b ∷ rest) ≡ None)
digit_or_not b =
    ⊎_elim
    (λ (low : b < 48). inr (λ most v rest. digit_low most v b rest low))
    (λ (low : 48 ≤ b).
    ⊎_elim
    (λ (high : 57 < b). inr (λ most v rest. digit_high most v b rest high))
    (λ (high : b ≤ 57). inl (low, high))
    (lt_or_ge 57 b))
    (lt_or_ge b 48)

-- the second run is read on from the first, and where that is not well formed neither are the two
pub runs : (most v : ℕ) (s t : List ℕ) → read_on most v (s ++ t) ≡ option_and_then (λ w. read_on most w t) (read_on most v s)
unfolding read_on read_from
runs most v [] t = go (leb v most) refl
  where
    go : (b : Bool) → leb v most ≡ b → read_on most v t ≡ option_and_then (λ w. read_on most w t) (numbered b v)
    go true p = refl
    go false p = too_wide most v t (leb-false v most p)
runs most v (b ∷ s) t = ⊎_elim
    (λ d.
    digit_on most v b (s ++ t) d.0 d.1
    ∙ runs most (v * 10 + (b - 48)) s t
    ∙ ap (option_and_then (λ w. read_on most w t)) (sym (digit_on most v b s d.0 d.1)))
    (λ n. n most v (s ++ t) ∙ ap (option_and_then (λ w. read_on most w t)) (sym (n most v s)))
    (digit_or_not b)
