-- What is shown of a number from 0 to 2,500, by cases: the two of the definition, a number without a minus sign, and -0.
-- `UpLaws.antt` puts them together.
-- Assumes nothing.
use Rattle.std.specs.Prelude.{◌≡◌, ℕ, suc, ◌+◌, ◌*◌, ◌/◌, ◌%◌, ◌^◌, ◌<◌, ◌≤◌, Bool, true, false, ◌&&◌, ◌||◌, T, ℤ, ◌==◌, nat_lt, Float}
use Rattle.std.proofs.Common.{zero-mul, le_of_mul-le-mul_right, lt_of_mul-lt-mul_right, div-add-mod', mod-lt, suc-mul, div-lt_iff_lt-mul, arith, sym, ap, ◌∙◌, lt-ltb, ltb-true, ltb-false}
use Rattle.std.proofs.Math.Path.{refl}
use Rattle.std.specs.Float.{fin}
use Rattle.std.specs.Float.Ieee.{up, down, lt, le, to_unsigned, of_int}
use Rattle.std.specs.Float.Ieee.Fits.{down_pos}
use Rattle.std.specs.Float.Ieee.Exact.{HasValue}
use Rattle.std.specs.Float.Ieee.Order.{le_of_values}
use denote.Floats.{passes}
use Rattle.interpolation.specs.Interpolation.{float_of}
use Rattle.float_text.specs.RoundedUp.{up_of}
use Rattle.float_text.specs.Values.{float_value, lt_values, cut_value, under}

-- ---- the definition

pub up_more : (x : Float) → lt (float_of (to_unsigned 64 x)) x ≡ true → up_of x ≡ suc (to_unsigned 64 x)
unfolding up_of
up_more x e = simp (e, up_of)

pub up_same : (x : Float) → lt (float_of (to_unsigned 64 x)) x ≡ false → up_of x ≡ to_unsigned 64 x
unfolding up_of
up_same x e = simp (e, up_of)

-- ---- a number that has no minus sign

-- what is shown of a / c: the whole number that is at least a / c and below a / c + 1
abbrev pub Shows : Float → ℕ → ℕ → Type 0
Shows x a c = (a ≤ up_of x * c) × (up_of x * c < a + c)

module _ (x : Float) (a c : ℕ) (C : 0 < c) (v : HasValue x false a c) (fits : a ≤ 2500 * c) where
  cut : to_unsigned 64 x ≡ a / c
  cut = cut_value x a c C v (omega arith)

  -- whether a / c is above its whole part
  test : lt (float_of (to_unsigned 64 x)) x ≡ nat_lt (a / c * c) (a * 1)
  test =
      let small : a / c < 2501 = (div-lt_iff_lt-mul C).1 (omega arith) in
      ap (λ (k : ℕ). lt (float_of k) x) cut
      ∙ lt_values (float_of (a / c)) x (a / c) 1 a c (omega arith) C (float_value (a / c) (omega arith)) v

  pub sized : Shows x a c
  sized = go (lt (float_of (to_unsigned 64 x)) x) refl
    where
      parts : a / c * c + a % c ≡ a
      parts = div-add-mod' a c

      rest : a % c < c
      rest = mod-lt a C

      go : (t : Bool) → lt (float_of (to_unsigned 64 x)) x ≡ t → Shows x a c
      go true e =
          let above = ltb-true (a / c * c) (a * 1) (sym test ∙ e) in
          let here : up_of x ≡ suc (a / c) = up_more x e ∙ ap suc cut in
          rw (here, suc-mul) (omega (arith, parts, rest), omega (arith, parts, rest))
      go false e =
          let level = ltb-false (a / c * c) (a * 1) (sym test ∙ e) in
          let here : up_of x ≡ a / c = up_same x e ∙ cut in
          rw here (omega (arith, parts, rest), omega (arith, parts, rest))

module _ (m : ℕ) (e : ℤ) (high : T (le (fin false m e) (float_of 2500))) where
  pub plain_exact : (s : Bool) (a c : ℕ) → 0 < c → HasValue (fin false m e) s a c → Shows (fin false m e) a c
  plain_exact s a c C v = sized (fin false m e) a c C (refl, v.1) (under m e high a c C (refl, v.1))

  own : Shows (fin false m e) (m * up e) (down e)
  own = plain_exact false (m * up e) (down e) (down_pos e) (refl, refl)

  pub plain_within : up_of (fin false m e) ≤ 2500
  plain_within =
      let fits = under m e high (m * up e) (down e) (down_pos e) (refl, refl) in
      let less : up_of (fin false m e) < 2501 = lt_of_mul-lt-mul_right (down e) (omega (arith, own.1)) in
      omega arith

  pub plain_covers : T (le (fin false m e) (float_of (up_of (fin false m e))))
  plain_covers =
      let shown = up_of (fin false m e) in
      le_of_values (fin false m e) (float_of shown) (m * up e) (down e) shown 1 (down_pos e) (omega arith) (refl, refl)
      (float_value shown (omega (arith, plain_within))) (omega (arith, own.0))

  pub plain_close : (n : ℕ) → up_of (fin false m e) ≡ suc n → T (lt (float_of n) (fin false m e))
  plain_close n h =
      let above : n * down e < m * up e * 1 = omega (arith, own.1, suc-mul n (down e), ap (λ (k : ℕ). k * down e) h) in
      let small : n ≤ 2 ^ 53 = omega (arith, plain_within) in
      let test =
      lt_values (float_of n) (fin false m e) n 1 (m * up e) (down e) (omega arith) (down_pos e) (float_value n small) (refl, refl) in
      passes (lt (float_of n) (fin false m e)) (test ∙ lt-ltb (n * down e) (m * up e * 1) above)

-- ---- -0, the one number from 0 to 2,500 that has a minus sign

level : (p q : ℕ) → p ≡ 0 → q ≡ 0 → T (nat_lt 0 (p + q) || (p == q && p == 0))
level p q i j = rw (i, j) tt

module _ (m : ℕ) (e : ℤ) where
  pub minus_up : up_of (fin true m e) ≡ 0
  unfolding up_of to_unsigned lt of_int
  minus_up = refl

  pub minus_exact : m * up e ≡ 0 → (s : Bool) (a c : ℕ) → 0 < c → HasValue (fin true m e) s a c → Shows (fin true m e) a c
  minus_exact z s a c C v =
      let none : a ≤ 0 = le_of_mul-le-mul_right {m = a} {n = 0} (omega (arith, v.1, ap (λ (k : ℕ). k * c) z)) (down_pos e) in
      rw minus_up (omega arith, omega arith)

  pub minus_covers : m * up e ≡ 0 → T (le (fin true m e) (float_of (up_of (fin true m e))))
  unfolding le of_int
  minus_covers z = rw minus_up (level (m * up e * 1) (0 * down e) (omega arith) (zero-mul (down e)))
