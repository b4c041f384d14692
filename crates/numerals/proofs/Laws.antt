-- What callers use of the numbers of a field: they never pass what the field may hold, and the digits of a number read as that
-- number.
-- Assumes nothing.
use Rattle.std.specs.Prelude.{ℕ, ◌+◌, ◌-◌, ◌≤◌, ◌<◌, ◌≡◌, refl, List, [], ◌∷◌, ◌++◌, Bool, true, false, leb, eqb, drop, Option, Some, None}
use Rattle.std.proofs.Common.{le_trans, not-suc-le-zero, arith, ap, ◌∙◌, get_or-append-add, le-leb, leb-true, ne_eqb}
use Rattle.std.proofs.Math.ListN.{length, take, length-append}
use Rattle.std.proofs.Math.Seq.{take_at, drop-append-add}
use Rattle.std.proofs.lemmas.Bool.{eqb-false}
use Rattle.search.specs.Rising.{both}
use Rattle.search.specs.Places.{every}
use Rattle.search.specs.Laws.{both_true}
use Rattle.buffer.specs.Numbers.{byte_at}
use Rattle.decimal.specs.Decimal.{digits, read_from, AllDigits}
use Rattle.decimal.proofs.Laws.{digits_read, digits_all, digits_some}
use Rattle.pieces.specs.Pieces.{Without}
use Rattle.spaces.specs.Spaces.{skip, keep, chop, bare}
use Rattle.numerals.specs.declared.Form.{Form}
use Rattle.numerals.specs.declared.Form.TheVariants.{Decimal, Cas, Temperature}
use Rattle.numerals.specs.Numerals.{is_digit, numbered, read_on, number_in, hyphened, unhyphened, cas_in, minus, heat_in, value_of, value_in, most_of, Within}

-- ---- no number is above what its field may hold

-- a wider bound holds too
within_wider : (most wider : ℕ) (n : Option ℕ) → most ≤ wider → Within most n → Within wider n
within_wider most wider (Some n) h w = le_trans w h
within_wider most wider None h w = tt

-- of digits read on from a number
read_within : (most so_far : ℕ) (text : List ℕ) → Within most (read_on most so_far text)
unfolding read_on
read_within most so_far text = go (both (every is_digit text) (leb n most)) refl
  where
    n : ℕ
    n = read_from so_far text

    go : (t : Bool) → both (every is_digit text) (leb n most) ≡ t → Within most (numbered t n)
    go true e = leb-true n most (both_true (every is_digit text) (leb n most) e).1
    go false e = tt

-- of a decimal number
pub number_within : (most : ℕ) (text : List ℕ) → Within most (number_in most text)
unfolding number_in
number_within most [] = tt
number_within most (b ∷ rest) = read_within most 0 (b ∷ rest)

-- of a CAS number
cas_within : (text : List ℕ) → Within 4_294_967_295 (cas_in text)
unfolding cas_in
cas_within text = go (hyphened text)
  where
    go : (t : Bool) → Within 4_294_967_295 (elim t as (λ _. Option ℕ) [ true ↦ read_on 4_294_967_295 0 (unhyphened text) | false ↦ None ])
    go true = read_within 4_294_967_295 0 (unhyphened text)
    go false = tt

-- of a temperature below zero, and of any
minus_within : (n : Option ℕ) → Within 65_535 (minus n)
minus_within (Some n) = go (eqb n 0) refl
  where
    go : (t : Bool) → eqb n 0 ≡ t → Within 65_535 (minus (Some n))
    go true e = rw (e, minus) (omega arith)
    go false e = let positive : n ≡ 0 → ⊥ = eqb-false n 0 e in rw (e, minus) (omega arith)
minus_within None = tt

heat_within : (text : List ℕ) → Within 65_535 (heat_in text)
unfolding heat_in
heat_within [] = tt
heat_within (b ∷ rest) = go (eqb b 45)
  where
    go : (t : Bool) → Within 65_535 (elim t as (λ _. Option ℕ) [ true ↦ minus (number_in 32_768 rest) | false ↦ number_in 32_767 (b ∷ rest) ])
    go true = minus_within (number_in 32_768 rest)
    go false = within_wider 32_767 65_535 (number_in 32_767 (b ∷ rest)) (omega arith) (number_within 32_767 (b ∷ rest))

value_within : (f : Form) (text : List ℕ) → Within (most_of f) (value_of f text)
value_within (Decimal most) text = number_within most text
value_within Cas text = cas_within text
value_within Temperature text = heat_within text

-- "too wide for its bytes" is never taken: what is read of a field is at most what the field may hold
pub within : (f : Form) (field : List ℕ) → Within (most_of f) (value_in f field)
unfolding value_in
within f field = value_within f (bare field)

-- ---- digits are read as the number that they say

-- what the digits of a text are by proof, the test finds
all_digits : (text : List ℕ) → AllDigits text → every is_digit text ≡ true
all_digits [] all = refl
all_digits (b ∷ rest) all =
    rw (le-leb 48 b all.0, le-leb b 57 (omega (arith, all.1))) (all_digits rest all.2)

-- a text of digits that are not too wide is its number
pub digits_are : (most so_far : ℕ) (text : List ℕ) → AllDigits text → read_from so_far text ≤ most
    → read_on most so_far text ≡ Some (read_from so_far text)
unfolding read_on
digits_are most so_far text all h = rw (all_digits text all, le-leb (read_from so_far text) most h)

-- a text that is not empty is a decimal number where its digits say one
number_some : (most : ℕ) (text : List ℕ) → 1 ≤ length text → number_in most text ≡ read_on most 0 text
unfolding number_in
number_some most [] h = absurd (not-suc-le-zero h)
number_some most (b ∷ rest) h = refl

-- a number as it is written, without leading zeros, is read as itself
pub number_written : (most n : ℕ) → n ≤ most → number_in most (digits n) ≡ Some n
number_written most n h =
    number_some most (digits n) (digits_some n)
    ∙ digits_are most 0 (digits n) (digits_all n) (rw (digits_read n) h)
    ∙ ap Some (digits_read n)

-- ---- a text without spaces is bare

-- there are none in front
skip_none : (text : List ℕ) → Without 32 text → skip text ≡ text
unfolding skip
skip_none [] w = refl
skip_none (b ∷ rest) w = rw (ne_eqb b 32 w.0, skip)

-- and none behind
chop_none : (text : List ℕ) → Without 32 text → chop text ≡ text
unfolding chop
chop_none [] w = refl
chop_none (b ∷ rest) w = ap (keep b) (chop_none rest w.1) ∙ kept rest
  where
    kept : (s : List ℕ) → keep b s ≡ b ∷ s
    kept [] = rw (ne_eqb b 32 w.0, keep)
    kept (c ∷ s) = refl

-- nothing is taken from a text without spaces
pub bare_written : (text : List ℕ) → Without 32 text → bare text ≡ text
unfolding bare
bare_written text w = ap chop (skip_none text w) ∙ chop_none text w

-- so its number is what its form makes of it as it stands
pub value_written : (f : Form) (text : List ℕ) → Without 32 text → value_in f text ≡ value_of f text
unfolding value_in
value_written f text w = ap (value_of f) (bare_written text w)

-- no digit is a byte below 48: no comma, no hyphen, no space, no line feed
pub digits_without : (x : ℕ) (text : List ℕ) → x < 48 → AllDigits text → Without x text
digits_without x [] h all = tt
digits_without x (b ∷ rest) h all =
    let digit : 48 ≤ b = all.0 in
    (λ (e : b ≡ x). omega arith, digits_without x rest h all.2)

-- a field with a number as it is written is that number
pub decimal_written : (most n : ℕ) → n ≤ most → value_in (Decimal most) (digits n) ≡ Some n
decimal_written most n h =
    value_written (Decimal most) (digits n) (digits_without 32 (digits n) (omega arith) (digits_all n))
    ∙ number_written most n h

-- ---- a CAS number by its three groups

-- a first group, a hyphen, two bytes, a hyphen, one byte
abbrev pub grouped : List ℕ → ℕ → ℕ → ℕ → List ℕ
grouped a x y z = a ++ (45 ∷ x ∷ y ∷ 45 ∷ z ∷ [])

module _ (a : List ℕ) (x y z : ℕ) where
  -- the places that are counted from the end, counted from the end of the first group
  from_end : (k : ℕ) → k ≤ 5 → length (grouped a x y z) - (5 - k) ≡ length a + k
  from_end k h = omega (arith, length-append a (45 ∷ x ∷ y ∷ 45 ∷ z ∷ []))

  byte_behind : (k : ℕ) → k ≤ 5 → byte_at (grouped a x y z) (length (grouped a x y z) - (5 - k)) ≡ byte_at (45 ∷ x ∷ y ∷ 45 ∷ z ∷ []) k
  byte_behind k h =
      ap (byte_at (grouped a x y z)) (from_end k h) ∙ get_or-append-add a (45 ∷ x ∷ y ∷ 45 ∷ z ∷ []) k 0

  rest_behind : (k : ℕ) → k ≤ 5 → drop (length (grouped a x y z) - (5 - k)) (grouped a x y z) ≡ drop k (45 ∷ x ∷ y ∷ 45 ∷ z ∷ [])
  rest_behind k h =
      ap (λ (i : ℕ). drop i (grouped a x y z)) (from_end k h) ∙ drop-append-add a (45 ∷ x ∷ y ∷ 45 ∷ z ∷ []) k

  -- its hyphens are where the test looks for them
  grouped_hyphens : 1 ≤ length a → hyphened (grouped a x y z) ≡ true
  unfolding hyphened
  grouped_hyphens some =
      let long : 6 ≤ length (grouped a x y z) = omega (arith, length-append a (45 ∷ x ∷ y ∷ 45 ∷ z ∷ [])) in
      rw (le-leb 6 (length (grouped a x y z)) long, byte_behind 0 (omega arith), byte_behind 3 (omega arith))

  -- and its groups where they are taken from
  grouped_digits : unhyphened (grouped a x y z) ≡ a ++ (x ∷ y ∷ z ∷ [])
  unfolding unhyphened
  grouped_digits =
      let first : take (length (grouped a x y z) - 5) (grouped a x y z) ≡ a =
      take_at a (45 ∷ x ∷ y ∷ 45 ∷ z ∷ []) (length (grouped a x y z) - 5) (omega (arith, from_end 0 (omega arith))) in
      rw (first, rest_behind 1 (omega arith), rest_behind 4 (omega arith))

  -- its number is that of the digits of its groups
  pub groups : 1 ≤ length a → cas_in (grouped a x y z) ≡ read_on 4_294_967_295 0 (a ++ (x ∷ y ∷ z ∷ []))
  unfolding cas_in
  groups some = rw (grouped_hyphens some, cas_in) (ap (read_on 4_294_967_295 0) grouped_digits)

-- ---- a temperature with a minus or without

-- no digit is a minus
heat_digits : (text : List ℕ) → AllDigits text → heat_in text ≡ number_in 32_767 text
unfolding heat_in number_in
heat_digits [] all = refl
heat_digits (b ∷ rest) all =
    let digit : 48 ≤ b = all.0 in
    let plus : b ≡ 45 → ⊥ = λ e. omega arith in
    rw (ne_eqb b 45 plus, heat_in)

-- digits alone are a temperature from zero up
pub heat_plus : (n : ℕ) → n ≤ 32_767 → heat_in (digits n) ≡ Some n
heat_plus n h = heat_digits (digits n) (digits_all n) ∙ number_written 32_767 n h

-- digits behind a minus are one below zero, two's complement
pub heat_minus : (n : ℕ) → 0 < n → n ≤ 32_768 → heat_in (45 ∷ digits n) ≡ Some (65_536 - n)
unfolding heat_in
heat_minus n positive h =
    let some : n ≡ 0 → ⊥ = λ e. omega arith in
    ap minus (number_written 32_768 n h) ∙ rw (ne_eqb n 0 some, minus)
