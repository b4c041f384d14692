-- What callers use of the texts: they have their lengths, and they are right.
-- Assumes nothing.
use Rattle.std.specs.Prelude.{ℕ, zero, suc, ◌+◌, ◌*◌, ◌-◌, ◌/◌, ◌%◌, ◌^◌, ◌≤◌, ◌<◌, ◌≡◌, refl, List, [], ◌∷◌, ◌++◌, Bool, true, false, ◌⊎◌, ltb, length, get_or, Option, Some, None, IfNone, IfSome, unwrap_or}
use Rattle.std.proofs.Common.{mod-eq_of_lt, mod-lt, div-add-mod', div-le_self, lt_of_le_of_lt, not-suc-le-zero, add-one, arith, sym, ap, ◌∙◌, inl, inr, length-append, lt-ltb, le-ltb, ltb-true, ltb-false}
use Rattle.std.proofs.Math.Nat.{one-le-pow}
use Rattle.std.proofs.Math.ListN.{get_or-append}
use Rattle.decimal.specs.Decimal.{padded, digits_within, digits, fixed, read_from, AllDigits}

-- ---- the digits of a number

pub length_padded : (count n : ℕ) → length (padded count n) ≡ count
unfolding padded
length_padded zero n = refl
length_padded (suc count) n =
    omega (arith, length-append (padded count (n / 10)) ((48 + n % 10) ∷ []), length_padded count (n / 10))

within_small : (steps n : ℕ) → n < 10 → digits_within (suc steps) n ≡ (48 + n) ∷ []
unfolding digits_within
within_small steps n h = rw (lt-ltb n 10 h, digits_within)

within_more : (steps n : ℕ) → 10 ≤ n → digits_within (suc steps) n ≡ digits_within steps (n / 10) ++ ((48 + n % 10) ∷ [])
unfolding digits_within
within_more steps n h = rw (le-ltb n 10 h, digits_within)

small_or_more : (n : ℕ) → (n < 10) ⊎ (10 ≤ n)
small_or_more n = go (ltb n 10) refl
  where
    go : (t : Bool) → ltb n 10 ≡ t → (n < 10) ⊎ (10 ≤ n)
    go true e = inl (ltb-true n 10 e)
    go false e = inr (ltb-false n 10 e)

-- more steps than the number needs change nothing
within_enough : (f g n : ℕ) → n < f → n < g → digits_within f n ≡ digits_within g n
within_enough zero g n hf hg = absurd (not-suc-le-zero hf)
within_enough (suc f) zero n hf hg = absurd (not-suc-le-zero hg)
within_enough (suc f) (suc g) n hf hg = go (within_enough f g (n / 10)) (small_or_more n)
  where
    go : (n / 10 < f → n / 10 < g → digits_within f (n / 10) ≡ digits_within g (n / 10)) → (n < 10) ⊎ (10 ≤ n)
        → digits_within (suc f) n ≡ digits_within (suc g) n
    go ih (inl h) = within_small f n h ∙ sym (within_small g n h)
    go ih (inr h) =
        within_more f n h ∙ ap (λ (l : List ℕ). l ++ ((48 + n % 10) ∷ [])) (ih (omega arith) (omega arith))
        ∙ sym (within_more g n h)

-- a number below ten is one digit
pub digits_small : (n : ℕ) → n < 10 → digits n ≡ (48 + n) ∷ []
unfolding digits
digits_small n h = within_small n n h

-- any other is the digits of its tens, and its last digit
pub digits_more : (n : ℕ) → 10 ≤ n → digits n ≡ digits (n / 10) ++ ((48 + n % 10) ∷ [])
unfolding digits
digits_more n h =
    within_more n n h
    ∙ ap (λ (l : List ℕ). l ++ ((48 + n % 10) ∷ [])) (within_enough n (suc (n / 10)) (n / 10) (omega arith) (omega arith))

-- what holds of the numbers below ten, and of every other where it holds of its tens, holds of all
pub by_digits : (P : ℕ → Type 0) → ((n : ℕ) → n < 10 → P n) → ((n : ℕ) → 10 ≤ n → P (n / 10) → P n)
    → (n : ℕ) → P n
by_digits P small more n = go (suc n) n (omega arith)
  where
    pick : (m : ℕ) → (10 ≤ m → P (m / 10)) → (m < 10) ⊎ (10 ≤ m) → P m
    pick m tens (inl h) = small m h
    pick m tens (inr h) = more m h (tens h)

    go : (steps m : ℕ) → m < steps → P m
    go zero m h = absurd (not-suc-le-zero h)
    go (suc steps) m h = pick m (λ h10. go steps (m / 10) (omega arith)) (small_or_more m)

-- the digits are the last ones, as many as there are
pub digits_padded : (n : ℕ) → digits n ≡ padded (length (digits n)) n
unfolding padded
digits_padded =
    by_digits (λ n. digits n ≡ padded (length (digits n)) n)
    (λ n h. rw (digits_small n h, mod-eq_of_lt h))
    (λ n h ih. rw (digits_more n h, length-append, add-one) (ap (λ (l : List ℕ). l ++ ((48 + n % 10) ∷ [])) ih))

-- no text of a number is empty
pub digits_some : (n : ℕ) → 1 ≤ length (digits n)
digits_some =
    by_digits (λ n. 1 ≤ length (digits n))
    (λ n h. rw (digits_small n h) (omega arith))
    (λ n h ih. rw (digits_more n h, length-append) (omega arith))

-- a number below 10 ^ (count + 1) has at most count + 1 digits
pub digits_short : (count n : ℕ) → n < 10 ^ suc count → length (digits n) ≤ suc count
digits_short zero n h = rw (digits_small n (omega arith)) (omega arith)
digits_short (suc count) n h = go (digits_short count (n / 10)) (small_or_more n)
  where
    go : (n / 10 < 10 ^ suc count → length (digits (n / 10)) ≤ suc count) → (n < 10) ⊎ (10 ≤ n)
        → length (digits n) ≤ suc (suc count)
    go ih (inl l) = rw (digits_small n l) (omega arith)
    go ih (inr l) = rw (digits_more n l, length-append) (omega (arith, ih (omega arith)))

-- one of at least 10 ^ count has at least count + 1
pub digits_long : (count n : ℕ) → 10 ^ count ≤ n → suc count ≤ length (digits n)
digits_long zero n h = digits_some n
digits_long (suc count) n h =
    let tens : 10 ^ count ≤ n / 10 = omega arith in
    rw (digits_more n (omega (arith, one-le-pow count 10 (omega arith))), length-append) (omega (arith, digits_long count (n / 10) tens))

-- so there is one more than its logarithm says, and one where it has none
pub digits_counted : (n : ℕ) (log : Option ℕ) → IfNone log (n ≡ 0) → IfSome log (λ k. 10 ^ k ≤ n) → IfSome log (λ k. n < 10 * 10 ^ k)
    → length (digits n) ≡ unwrap_or log 0 + 1
digits_counted n None none least most = rw (digits_small n (omega arith))
digits_counted n (Some k) none least most = omega (arith, digits_short k n (omega arith), digits_long k n least)

-- every number of 64 bits has at most twenty
pub digits_twenty : (n : ℕ) → n < 2 ^ 64 → length (digits n) ≤ 20
digits_twenty n h = digits_short 19 n (omega arith)

pub length_fixed : (places n : ℕ) → length (fixed places n) ≡ length (digits (n / 10 ^ places)) + (places + 1)
unfolding fixed
length_fixed places n = simp length-append (omega (arith, length_padded places (n % 10 ^ places)))

-- with two decimals a number of 64 bits takes at most 23 bytes, with three at most 24
pub fixed_short : (places n : ℕ) → n < 2 ^ 64 → length (fixed places n) ≤ 21 + places
fixed_short places n h =
    rw length_fixed (omega (arith, digits_twenty (n / 10 ^ places) (lt_of_le_of_lt (div-le_self n (10 ^ places)) h)))

-- ---- the texts are right: they are digits, reading them gives the number, and there is no leading zero

last_digit : (s : List ℕ) (d : ℕ) → d < 10 → AllDigits s → AllDigits (s ++ ((48 + d) ∷ []))
last_digit [] d h all = (omega arith, omega arith, tt)
last_digit (b ∷ s) d h all = (all.0, all.1, last_digit s d h all.2)

pub padded_all : (count n : ℕ) → AllDigits (padded count n)
unfolding padded
padded_all zero n = tt
padded_all (suc count) n = last_digit (padded count (n / 10)) (n % 10) (omega arith) (padded_all count (n / 10))

pub digits_all : (n : ℕ) → AllDigits (digits n)
digits_all n = rw (digits_padded n) (padded_all (length (digits n)) n)

pub read_append : (s t : List ℕ) (so_far : ℕ) → read_from so_far (s ++ t) ≡ read_from (read_from so_far s) t
unfolding read_from
read_append [] t so_far = refl
read_append (b ∷ s) t so_far = read_append s t (so_far * 10 + (b - 48))

read_last : (s : List ℕ) (d so_far : ℕ) → read_from so_far (s ++ ((48 + d) ∷ [])) ≡ read_from so_far s * 10 + d
unfolding read_from
read_last s d so_far =
    let whole : read_from so_far s * 10 + (48 + d - 48) ≡ read_from so_far s * 10 + d = omega arith in
    read_append s ((48 + d) ∷ []) so_far ∙ whole

-- reading the digits of a number gives the number
pub digits_read : (n : ℕ) → read_from 0 (digits n) ≡ n
unfolding read_from
digits_read =
    by_digits (λ n. read_from 0 (digits n) ≡ n)
    (λ n h. rw (digits_small n h) (omega arith))
    (λ n h ih. rw (digits_more n h, read_last) (omega arith))

-- the first digit of any number but 0 is not 0
pub digits_no_zero : (n : ℕ) → 0 < n → 48 < get_or (digits n) 0 0
digits_no_zero =
    by_digits (λ n. 0 < n → 48 < get_or (digits n) 0 0)
    (λ n h pos. rw (digits_small n h) (omega arith))
    (λ n h ih pos.
    let front = get_or-append {A = ℕ} (digits (n / 10)) ((48 + n % 10) ∷ []) 0 0 (digits_some (n / 10)) in
    rw (digits_more n h, front) (ih (omega arith)))

-- reading the last digits of a number that has no more gives the number
pub padded_read : (count n : ℕ) → n < 10 ^ count → read_from 0 (padded count n) ≡ n
unfolding read_from padded
padded_read zero n h = omega arith
padded_read (suc count) n h = rw read_last (omega (arith, padded_read count (n / 10) (omega arith)))

-- of a number with decimals the part before the dot and the part behind it make up the number
pub fixed_read : (places n : ℕ)
    → read_from 0 (digits (n / 10 ^ places)) * 10 ^ places + read_from 0 (padded places (n % 10 ^ places)) ≡ n
fixed_read places n =
    let decimals = padded_read places (n % 10 ^ places) (mod-lt n (one-le-pow places 10 (omega arith))) in
    rw (digits_read (n / 10 ^ places), decimals) (div-add-mod' n (10 ^ places))

-- ---- numbers of the listing that document 01 prints, and the largest number of 64 bits

pub printed : (digits 0 ≡ 48 ∷ []) × (digits 12 ≡ 49 ∷ 50 ∷ []) × (fixed 3 10220 ≡ 49 ∷ 48 ∷ 46 ∷ 50 ∷ 50 ∷ 48 ∷ [])
    × (fixed 2 180 ≡ 49 ∷ 46 ∷ 56 ∷ 48 ∷ []) × (fixed 3 0 ≡ 48 ∷ 46 ∷ 48 ∷ 48 ∷ 48 ∷ [])
    × (fixed 2 20 ≡ 48 ∷ 46 ∷ 50 ∷ 48 ∷ []) × (length (digits (2 ^ 64 - 1)) ≡ 20)
unfolding digits_within digits padded fixed
printed = (refl, refl, refl, refl, refl, refl, refl)
