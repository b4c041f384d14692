-- One law for each way out of a function that goes by tests, and for what a call on the way asks.
-- `search (law, rules)` puts them to use.
-- Assumes nothing.
use Rattle.std.proofs.Common.{◌≡◌, ℕ, suc, ◌+◌, ◌*◌, ◌^◌, ◌≤◌, true, false, T, ℤ, pos, sym, refl, ap, ◌∙◌, subst, add-one, arith, lt→ltb, w64, Fits}
use lib.Ieee.{Float, fin, up, down, lt, le, to_unsigned}
use lib.Ieee.Fits.{down_pos}
use Rattle.buffer.specs.declared.Writer.{Writer}
use Rattle.buffer.specs.Puts.{Puts}
use Rattle.decimal.specs.Decimal.{fixed}
use Rattle.interpolation.specs.Interpolation.{float_of}
use Rattle.float_text.specs.RoundedUp.{up_of}
use Rattle.float_text.specs.Values.{by_sign, under, cut_within}
use Rattle.float_text.proofs.Cases.{up_more, up_same}
use Rattle.float_text.proofs.UpLaws.{up_within}

-- ---- `up`: the whole part is asked for above -1 and below 2 ^ 64

module _ (x : Float) (low : T (le (float_of 0) x)) (high : T (le x (float_of 2500))) where
  pub above_minus_one : T (lt (fin true 1 (pos 0)) x)
  unfolding lt
  above_minus_one = by_sign (λ y. T (lt (fin true 1 (pos 0)) y)) minus plain x low high
    where
      minus : (m : ℕ) (e : ℤ) → m * up e ≡ 0 → T (lt (fin true 1 (pos 0)) (fin true m e))
      minus m e z = lt→ltb (m * up e * 1) (1 * down e) (omega (arith, down_pos e))

      plain : (m : ℕ) (e : ℤ) → T (le (fin false m e) (float_of 2500)) → T (lt (fin true 1 (pos 0)) (fin false m e))
      plain m e h = lt→ltb 0 (1 * down e + m * up e * 1) (omega (arith, down_pos e))

  pub below_the_end : T (lt x (fin false 1 (pos 64)))
  unfolding lt
  below_the_end = by_sign (λ y. T (lt y (fin false 1 (pos 64)))) minus plain x low high
    where
      minus : (m : ℕ) (e : ℤ) → m * up e ≡ 0 → T (lt (fin true m e) (fin false 1 (pos 64)))
      minus m e z = lt→ltb 0 (m * up e * 1 + 1 * 2 ^ 64 * down e) (omega (arith, down_pos e))

      plain : (m : ℕ) (e : ℤ) → T (le (fin false m e) (float_of 2500)) → T (lt (fin false m e) (fin false 1 (pos 64)))
      plain m e h =
          let small = under m e h (m * up e) (down e) (down_pos e) (refl, refl) in
          lt→ltb (m * up e * 1) (1 * 2 ^ 64 * down e) (omega (arith, down_pos e))

-- it is small enough for one more, whichever way the test goes
pub one_more_fits : (x : Float) (whole : ℕ) → T (le (float_of 0) x) → T (le x (float_of 2500)) → whole ≡ to_unsigned 64 x
    → Fits w64 (whole + 1)
one_more_fits x whole low high cut = record { fits = omega (arith, cut_within x low high) }

module _ (x y : Float) (whole : ℕ) (cut : whole ≡ to_unsigned 64 x) (again : y ≡ float_of whole) where
  test : lt (float_of (to_unsigned 64 x)) x ≡ lt y x
  test = sym (ap (λ (z : Float). lt z x) (again ∙ ap float_of cut))

  pub cut_off : lt y x ≡ true → whole + 1 ≡ up_of x
  cut_off e = add-one whole ∙ ap suc cut ∙ sym (up_more x (test ∙ e))

  pub nothing_cut : lt y x ≡ false → whole ≡ up_of x
  nothing_cut e = cut ∙ sym (up_same x (test ∙ e))

pub shown_within : (x : Float) (r : ℕ) → T (le (float_of 0) x) → T (le x (float_of 2500)) → r ≡ up_of x → r ≤ 2500
shown_within x r low high e = subst (λ (n : ℕ). n ≤ 2500) (sym e) (up_within x low high)

-- ---- `put_miles_up`: the text of the number that `up` answered

pub miles_end : (x : Float) (r : ℕ) {before after : Writer} → r ≡ up_of x → Puts before after (fixed 2 r) → Puts before after (fixed 2 (up_of x))
miles_end x r {before} {after} e w = subst (λ (n : ℕ). Puts before after (fixed 2 n)) e w

pub ruleset ends = (above_minus_one, below_the_end, one_more_fits, cut_off, nothing_cut, shown_within, miles_end)
