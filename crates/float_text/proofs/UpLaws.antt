-- What is shown of a number from 0 to 2,500 is right: never below it, and less than a hundredth of a mile above it.
-- Assumes nothing.
use Rattle.std.specs.Prelude.{◌≡◌, ℕ, suc, ◌+◌, ◌*◌, ◌<◌, ◌≤◌, Bool, true, false, not, T, refl, Float}
use Rattle.std.proofs.Common.{arith}
use Rattle.std.specs.Float.{nan, inf, fin}
use Rattle.std.specs.Float.Ieee.{lt, le, of_int, is_nan}
use Rattle.std.specs.Float.Ieee.Exact.{HasValue}
use Rattle.std.specs.Float.Ieee.Positive.{num, den}
use Rattle.interpolation.specs.Interpolation.{float_of}
use Rattle.float_text.specs.RoundedUp.{up_of}
use Rattle.float_text.specs.Values.{float_value, by_sign}
use Rattle.float_text.proofs.Cases.{sized, plain_exact, plain_within, plain_covers, plain_close, minus_up, minus_exact, minus_covers}

-- by exact values, where the number is a / c: what is shown is at least a / c, and below a / c + 1
pub up_exact : (x : Float) → T (le (float_of 0) x) → T (le x (float_of 2500)) → (s : Bool) (a c : ℕ) → 0 < c → HasValue x s a c
    → (a ≤ up_of x * c) × (up_of x * c < a + c)
up_exact =
    by_sign (λ x. (s : Bool) (a c : ℕ) → 0 < c → HasValue x s a c → (a ≤ up_of x * c) × (up_of x * c < a + c)) minus_exact plain_exact

-- and each of these numbers is such a fraction (the one with a minus sign is -0)
pub has_value : (x : Float) → T (le (float_of 0) x) → T (le x (float_of 2500)) → (s : Bool) × HasValue x s (num x) (den x)
has_value = by_sign (λ x. (s : Bool) × HasValue x s (num x) (den x)) (λ m e z. (true, (refl, refl))) (λ m e high. (false, (refl, refl)))

-- by floats: what is shown is at least the distance
pub up_covers : (x : Float) → T (le (float_of 0) x) → T (le x (float_of 2500)) → T (le x (float_of (up_of x)))
up_covers = by_sign (λ x. T (le x (float_of (up_of x)))) minus_covers plain_covers

-- and less than a hundredth of a mile above it
pub up_close : (x : Float) → T (le (float_of 0) x) → T (le x (float_of 2500)) → (n : ℕ) → up_of x ≡ suc n → T (lt (float_of n) x)
up_close = by_sign (λ x. (n : ℕ) → up_of x ≡ suc n → T (lt (float_of n) x)) (λ m e z n h. absurd (omega (arith, minus_up m e))) plain_close

-- a whole number of hundredths is shown as it is
pub up_whole : (d : ℕ) → d ≤ 2500 → up_of (float_of d) ≡ d
up_whole d h =
    let exact = sized (float_of d) d 1 (omega arith) (float_value d (omega arith)) (omega arith) in
    omega (arith, exact.0, exact.1)

-- no more than 25 miles are shown
pub up_within : (x : Float) → T (le (float_of 0) x) → T (le x (float_of 2500)) → up_of x ≤ 2500
up_within = by_sign (λ x. up_of x ≤ 2500) (λ m e z. rw (minus_up m e) (omega arith)) plain_within

-- what is not below 0 is a number
pub number_not_nan : (x : Float) → T (le (float_of 0) x) → T (not (is_nan x))
unfolding le is_nan of_int
number_not_nan nan low = low
number_not_nan (inf s) low = tt
number_not_nan (fin s m e) low = tt
