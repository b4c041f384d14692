-- Floats that have values are compared as the values are. `HasValue x false a c` says that x is finite, has no minus sign and is a / c,
-- for a c above 0.
-- Assumes nothing.
use Rattle.std.specs.Prelude.{◌≡◌, ℕ, ◌*◌, ◌/◌, ◌^◌, ◌<◌, ◌≤◌, Bool, true, false, T, ℤ, ◌==◌, nat_lt, refl, Float}
use Rattle.std.proofs.Common.{zero-le, zero-mul, div-lt_iff_lt-mul, arith, sym, ◌∙◌, true≢false, eqb→eq, lt-ltb, le-ltb, ltb-true, ltb-false}
use Rattle.std.proofs.Math.Nat.{lt_of_not-le, not-le_of_lt}
use Rattle.std.specs.Float.{nan, inf, fin, binary64}
use Rattle.std.specs.Float.Ieee.{up, down, lt, le, to_unsigned, of_int}
use Rattle.std.specs.Float.Ieee.Fits.{down_pos, and_l}
use Rattle.std.specs.Float.Ieee.Exact.{HasValue}
use Rattle.std.specs.Float.Ieee.Order.{transfer}
use Rattle.std.specs.Float.Ieee.Back.{round_whole}
use Rattle.std.specs.Float.Ieee.Nearest.{div_same}
use Rattle.interpolation.specs.Interpolation.{float_of}
use Rattle.line_laws.specs.Floats.{worth_of, of_le}

-- a whole number up to 2 ^ 53 is its float's value
pub float_value : (n : ℕ) → n ≤ 2 ^ 53 → HasValue (float_of n) false n 1
unfolding of_int
float_value n h = round_whole binary64 false n h

-- what has a value is m * 2 ^ e for some m and e
by_value : (a c : ℕ) (P : Float → Type 0) → ((m : ℕ) (e : ℤ) → m * up e * c ≡ a * down e → P (fin false m e))
    → (x : Float) → HasValue x false a c → P x
by_value a c P f nan v = absurd v
by_value a c P f (inf s) v = absurd v
by_value a c P f (fin true m e) v = absurd (true≢false v.0)
by_value a c P f (fin false m e) v = f m e v.1

-- ---- comparisons

same_test : (p q r s : ℕ) → (p < q → r < s) → (q ≤ p → s ≤ r) → nat_lt p q ≡ nat_lt r s
same_test p q r s holds fails = go (nat_lt p q) refl
  where
    go : (t : Bool) → nat_lt p q ≡ t → nat_lt p q ≡ nat_lt r s
    go true e = e ∙ sym (lt-ltb r s (holds (ltb-true p q e)))
    go false e = e ∙ sym (le-ltb r s (fails (ltb-false p q e)))

module _ (x y : Float) (a c b d : ℕ) (C : 0 < c) (D : 0 < d) (v : HasValue x false a c) (w : HasValue y false b d) where
  by_values : (P : Float → Float → Type 0)
      → ((m : ℕ) (e : ℤ) → m * up e * c ≡ a * down e → (n : ℕ) (g : ℤ) → n * up g * d ≡ b * down g → P (fin false m e) (fin false n g))
      → P x y
  by_values P f = by_value a c (λ z. P z y) (λ m e i. by_value b d (P (fin false m e)) (f m e i) y w) x v

  pub lt_values : lt x y ≡ nat_lt (a * d) (b * c)
  unfolding lt
  lt_values = by_values (λ z u. lt z u ≡ nat_lt (a * d) (b * c)) both
    where
      both : (m : ℕ) (e : ℤ) → m * up e * c ≡ a * down e → (n : ℕ) (g : ℤ) → n * up g * d ≡ b * down g
          → lt (fin false m e) (fin false n g) ≡ nat_lt (a * d) (b * c)
      both m e i n g j =
          same_test (m * up e * down g) (n * up g * down e) (a * d) (b * c)
          (λ h. lt_of_not-le (λ k. not-le_of_lt h (transfer (n * up g) (m * up e) (down g) (down e) b a d c D C j i k)))
          (transfer b a d c (n * up g) (m * up e) (down g) (down e) (down_pos g) (down_pos e) (sym j) (sym i))

  pub le_values : T (le x y) → a * d ≤ b * c
  le_values h = of_le (worth_of x a c C v) (worth_of y b d D w) h

-- ---- the whole part

pub cut_value : (x : Float) (a c : ℕ) → 0 < c → HasValue x false a c → a < 2 ^ 64 * c → to_unsigned 64 x ≡ a / c
unfolding to_unsigned
cut_value x a c C v h = by_value a c (λ z. to_unsigned 64 z ≡ a / c) cut x v
  where
    cut : (m : ℕ) (e : ℤ) → m * up e * c ≡ a * down e → to_unsigned 64 (fin false m e) ≡ a / c
    cut m e i =
        let same : m * up e / down e ≡ a / c = div_same (m * up e) (down e) a c (down_pos e) C i in
        let small : a / c < 2 ^ 64 = (div-lt_iff_lt-mul C).1 h in
        omega arith

-- ---- a number from 0 to 2,500

-- it is -0, or has no minus sign
pub by_sign : (P : Float → Type 0) → ((m : ℕ) (e : ℤ) → m * up e ≡ 0 → P (fin true m e))
    → ((m : ℕ) (e : ℤ) → T (le (fin false m e) (float_of 2500)) → P (fin false m e))
    → (x : Float) → T (le (float_of 0) x) → T (le x (float_of 2500)) → P x
unfolding le of_int
by_sign P minus plain nan low high = absurd low
by_sign P minus plain (inf true) low high = absurd low
by_sign P minus plain (inf false) low high = absurd high
by_sign P minus plain (fin true m e) low high =
    let none = 0 * down e in
    let size = m * up e * 1 in
    let same : none ≡ size = eqb→eq none size (and_l (none == size) (none == 0) low) in
    minus m e (omega (arith, zero-mul (down e)))
by_sign P minus plain (fin false m e) low high = plain m e high

-- and then it is a / c for no a above 2,500 c
pub under : (m : ℕ) (e : ℤ) → T (le (fin false m e) (float_of 2500)) → (a c : ℕ) → 0 < c → HasValue (fin false m e) false a c
    → a ≤ 2500 * c
under m e high a c C v =
    let h = le_values (fin false m e) (float_of 2500) a c 2500 1 C (omega arith) v (float_value 2500 (omega arith)) high in
    omega arith

-- its whole part is at most 2,500
pub cut_within : (x : Float) → T (le (float_of 0) x) → T (le x (float_of 2500)) → to_unsigned 64 x ≤ 2500
unfolding to_unsigned
cut_within = by_sign (λ x. to_unsigned 64 x ≤ 2500) (λ m e z. zero-le) plain
  where
    plain : (m : ℕ) (e : ℤ) → T (le (fin false m e) (float_of 2500)) → to_unsigned 64 (fin false m e) ≤ 2500
    plain m e high =
        let fits = under m e high (m * up e) (down e) (down_pos e) (refl, refl) in
        let small : m * up e / down e < 2501 = (div-lt_iff_lt-mul (down_pos e)).1 (omega (arith, down_pos e)) in
        omega arith
