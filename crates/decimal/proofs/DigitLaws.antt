-- The digits in a base have their length, and they are right: reading them gives the number.
-- Assumes nothing.
use Rattle.std.specs.Prelude.{◌≡◌, ℕ, zero, suc, ◌+◌, ◌*◌, ◌/◌, ◌%◌, ◌^◌, ◌<◌, ◌≤◌, Bool, true, false, List, [], ◌∷◌, ◌++◌, length, ltb, refl}
use Rattle.std.proofs.Common.{arith, ap, ◌∙◌, length-append, lt-ltb, le-ltb, ltb-true, ltb-false, div-add-mod', div-lt_iff_lt-mul}
use Rattle.std.proofs.Math.Nat.{pow-zero, pow-suc}
use Rattle.decimal.specs.Digits.{digit, digits_in, digit_read, read_in}
use Rattle.decimal.specs.Decimal.{padded}

pub length_in : (base count n : ℕ) → length (digits_in base count n) ≡ count
unfolding digits_in
length_in base zero n = refl
length_in base (suc count) n =
    omega (arith, length-append (digits_in base count (n / base)) (digit (n % base) ∷ []), length_in base count (n / base))

-- ---- one digit

pub digit_figure : (d : ℕ) → d < 10 → digit d ≡ 48 + d
unfolding digit
digit_figure d h = simp (lt-ltb d 10 h, digit)

pub digit_letter : (d : ℕ) → 10 ≤ d → digit d ≡ 87 + d
unfolding digit
digit_letter d h = simp (le-ltb d 10 h, digit)

digit_read_lem : (d : ℕ) → digit_read (digit d) ≡ d
unfolding digit_read
digit_read_lem d = go (ltb d 10) refl
  where
    figure : d < 10 → digit_read (48 + d) ≡ d
    figure h = simp (lt-ltb (48 + d) 58 (omega arith), digit_read) (omega arith)

    letter : 10 ≤ d → digit_read (87 + d) ≡ d
    letter h = simp (le-ltb (87 + d) 58 (omega arith), digit_read) (omega arith)

    go : (t : Bool) → ltb d 10 ≡ t → digit_read (digit d) ≡ d
    go true e = ap digit_read (digit_figure d (ltb-true d 10 e)) ∙ figure (ltb-true d 10 e)
    go false e = ap digit_read (digit_letter d (ltb-false d 10 e)) ∙ letter (ltb-false d 10 e)

-- ---- base ten has no letters

pub padded_in : (count n : ℕ) → padded count n ≡ digits_in 10 count n
unfolding padded digits_in
padded_in zero n = refl
padded_in (suc count) n = rw (padded_in count (n / 10), digit_figure (n % 10) (omega arith)) refl

-- ---- reading

read_append : (base : ℕ) (s t : List ℕ) (so_far : ℕ) → read_in base so_far (s ++ t) ≡ read_in base (read_in base so_far s) t
unfolding read_in
read_append base [] t so_far = refl
read_append base (b ∷ s) t so_far = read_append base s t (so_far * base + digit_read b)

read_last : (base : ℕ) (s : List ℕ) (d so_far : ℕ) → read_in base so_far (s ++ (digit d ∷ [])) ≡ read_in base so_far s * base + d
unfolding read_in
read_last base s d so_far =
    read_append base s (digit d ∷ []) so_far ∙ ap (λ (k : ℕ). read_in base so_far s * base + k) (digit_read_lem d)

-- reading the last digits of a number that has no more gives the number
pub in_read : (base count n : ℕ) → 0 < base → n < base ^ count → read_in base 0 (digits_in base count n) ≡ n
unfolding read_in digits_in
in_read base zero n some h =
    let one : base ^ 0 ≡ 1 = pow-zero base in
    omega (arith, one)
in_read base (suc count) n some h =
    let fewer : n / base < base ^ count = (div-lt_iff_lt-mul some).1 (omega (arith, pow-suc base count)) in
    rw read_last (ap (λ (k : ℕ). k * base + n % base) (in_read base count (n / base) some fewer) ∙ div-add-mod' n base)
