-- Floats that are finite and have no minus sign, as the fractions that they are: their order is that of the fractions, and what the
-- four operations of the line between two rows make of them is the float nearest to the fraction that they mean.
-- Assumes nothing.
use Rattle.std.specs.Prelude.{ℕ, ◌+◌, ◌-◌, ◌*◌, ◌^◌, ◌≤◌, ◌<◌, ◌≡◌, refl, true, false, ◌&&◌, ◌||◌, ℤ, T, ltb, eqb, Float}
use Rattle.std.proofs.Common.{le_refl, le_trans, le_of_eq, mul-one, mul_comm, mul-le-mul_right, le_of_mul-le-mul_right, mul-pos, arith, sym, ap, true≢false, ⊎_elim, pow_pos, le-ltb, ne_eqb}
use Rattle.std.proofs.Math.Nat.{mul-sub}
use Rattle.std.specs.Float.{nan, inf, fin, binary64}
use Rattle.std.specs.Float.Ieee.{up, down, round, add, sub, mul, div, le, of_int}
use Rattle.std.specs.Float.Ieee.Fits.{down_pos}
use Rattle.std.specs.Float.Ieee.Exact.{HasValue}
use Rattle.std.specs.Float.Ieee.Order.{transfer, le_of_values, round_mono}
use Rattle.std.specs.Float.Ieee.Scale.{round_same, finite, grid, round_under, round_val}
use Rattle.std.specs.Float.Ieee.Back.{round_whole}
use Rattle.std.specs.Float.Ieee.Positive.{first_pos}
use Rattle.search.specs.Laws.{lt_or_ge}
use Rattle.interpolation.specs.Interpolation.{float_of}

-- x is finite, has no minus sign, and is a / c
pub data Worth : Float → ℕ → ℕ → Type 0 where
  worth : {m : ℕ} {e : ℤ} {a c : ℕ} → 0 < c → m * up e * c ≡ a * down e → Worth (fin false m e) a c

pub under_pos : {x : Float} {a c : ℕ} → Worth x a c → 0 < c
under_pos (worth C p) = C

pub worth_of : (x : Float) (a c : ℕ) → 0 < c → HasValue x false a c → Worth x a c
worth_of nan a c C v = absurd v
worth_of (inf s) a c C v = absurd v
worth_of (fin true m e) a c C v = absurd (true≢false v.0)
worth_of (fin false m e) a c C v = worth C v.1

-- the float nearest to a / c
abbrev pub near : ℕ → ℕ → Float
near a c = round binary64 false a c

-- a whole number up to 2 ^ 53 is its float
near_whole : (n : ℕ) → n ≤ 2 ^ 53 → Worth (near n 1) n 1
near_whole n h = worth_of (near n 1) n 1 (le_refl 1) (round_whole binary64 false n h)

float_near : (n : ℕ) → float_of n ≡ near n 1
unfolding of_int
float_near n = refl

pub whole : (n : ℕ) → n ≤ 2 ^ 53 → Worth (float_of n) n 1
whole n h = rw (float_near n) (near_whole n h)

-- ---- the order

pub le_of : {x y : Float} {a c b d : ℕ} → Worth x a c → Worth y b d → a * d ≤ b * c → T (le x y)
le_of {a = a} {c = c} {b = b} {d = d} (worth {m = m} {e = e} C p) (worth {m = n} {e = g} D q) h =
    le_of_values (fin false m e) (fin false n g) a c b d C D (refl, p) (refl, q) h

below_or_same : (a b : ℕ) → T (ltb a b || (eqb a b && true)) → a ≤ b
below_or_same a b t =
    ⊎_elim
    (λ (l : b < a). absurd (rw (le-ltb a b (omega arith), ne_eqb a b (omega arith)) at t))
    (λ (l : a ≤ b). l)
    (lt_or_ge b a)

pub of_le : {x y : Float} {a c b d : ℕ} → Worth x a c → Worth y b d → T (le x y) → a * d ≤ b * c
unfolding le
of_le {a = a} {c = c} {b = b} {d = d} (worth {m = m} {e = e} C p) (worth {m = n} {e = g} D q) t =
    transfer a b c d (m * up e) (n * up g) (down e) (down g) (down_pos e) (down_pos g) (sym p) (sym q)
    (below_or_same (m * up e * down g) (n * up g * down e) t)

-- what lies between two of them is finite
finite_between : (x : Float) {l h : Float} {a c b d : ℕ} → Worth l a c → Worth h b d → T (le l x) → T (le x h) → T (finite x)
unfolding le
finite_between nan (worth C p) (worth D q) s t = absurd s
finite_between (inf true) (worth C p) (worth D q) s t = absurd s
finite_between (inf false) (worth C p) (worth D q) s t = absurd t
finite_between (fin v m e) (worth C p) (worth D q) s t = tt

-- ---- x is a fraction that lies between two whole numbers
pub record Between (low : ℕ) (x : Float) (high : ℕ) : Type 0 where
  pub over : ℕ
  pub under : ℕ
  pub is : Worth x over under
  pub least : low * under ≤ over
  pub most : over ≤ high * under

-- The float nearest to a fraction between two whole numbers lies between them. It is a multiple of the smallest value, 1 / 2 ^ 1074.
pub near_between : (a c low high : ℕ) → 0 < c → low * c ≤ a → a ≤ high * c → high ≤ 2 ^ 53 → Between low (near a c) high
near_between a c low high C l h t =
    let L : Worth (near low 1) low 1 = near_whole low (le_trans (le_of_mul-le-mul_right (le_trans l h) C) t) in
    let H : Worth (near high 1) high 1 = near_whole high t in
    let p : T (le (near low 1) (near a c)) = round_mono binary64 low 1 a c (le_refl 1) C (omega arith) in
    let q : T (le (near a c) (near high 1)) = round_mono binary64 a c high 1 C (le_refl 1) (omega arith) in
    let v : Worth (near a c) (grid binary64 a c) (2 ^ 1074) =
    worth_of (near a c) (grid binary64 a c) (2 ^ 1074) (pow_pos 1074)
    (round_val binary64 a c (round_under binary64 a c (finite_between (near a c) L H p q))) in
    record {
      over = grid binary64 a c;
      under = 2 ^ 1074;
      is = v;
      least = le_trans (of_le L v p) (le_of_eq (mul-one (grid binary64 a c)));
      most = le_trans (le_of_eq (sym (mul-one (grid binary64 a c)))) (of_le v H q);
    }

-- and the order with a whole number
pub at_least : {low high : ℕ} {x : Float} → Between low x high → (n : ℕ) → n ≤ low → n ≤ 2 ^ 53 → T (le (float_of n) x)
at_least b n l h = le_of (whole n h) b.is (omega (arith, b.least, mul-le-mul_right b.under l))

pub at_most : {low high : ℕ} {x : Float} → Between low x high → (n : ℕ) → high ≤ n → n ≤ 2 ^ 53 → T (le x (float_of n))
at_most b n l h = le_of b.is (whole n h) (omega (arith, b.most, mul-le-mul_right b.under l))

-- ---- the operations, on whole numbers and on a whole number with a fraction

-- the numbers beneath them: M / u is the whole number a, and N / v is the whole number b, or b / q
difference : (M N a b u v : ℕ) → M * 1 ≡ a * u → N * 1 ≡ b * v → b ≤ a → (M * v - N * u) * 1 ≡ (a - b) * (u * v)
difference M N a b u v s t h =
    omega (arith, ap (λ z. z * v) s, ap (λ z. z * u) t, mul-sub (u * v) a b, mul_comm (u * v) (a - b))

not_less : (M N a b u v : ℕ) → M * 1 ≡ a * u → N * 1 ≡ b * v → b ≤ a → N * u ≤ M * v
not_less M N a b u v s t h = omega (arith, ap (λ z. z * v) s, ap (λ z. z * u) t, mul-le-mul_right (u * v) h)

quotient : (M N a b u v : ℕ) → M * 1 ≡ a * u → N * 1 ≡ b * v → M * v * b ≡ a * (N * u)
quotient M N a b u v s t = omega (arith, ap (λ z. z * (v * b)) s, ap (λ z. z * (a * u)) t)

product : (M N a b q u v : ℕ) → M * 1 ≡ a * u → N * q ≡ b * v → M * N * q ≡ a * b * (u * v)
product M N a b q u v s t = omega (arith, ap (λ z. z * (N * q)) s, ap (λ z. z * (a * u)) t)

total : (M N a b q u v : ℕ) → M * 1 ≡ a * u → N * q ≡ b * v → (M * v + N * u) * q ≡ (a * q + b) * (u * v)
total M N a b q u v s t = omega (arith, ap (λ z. z * (v * q)) s, ap (λ z. z * u) t)

pub sub_whole : {x y : Float} {a b : ℕ} → Worth x a 1 → Worth y b 1 → b ≤ a → sub binary64 x y ≡ float_of (a - b)
unfolding sub
sub_whole {a = a} {b = b} (worth {m = m} {e = e} C p) (worth {m = n} {e = g} D q) h =
    rw (float_near (a - b), le-ltb (m * up e * down g) (n * up g * down e) (not_less (m * up e) (n * up g) a b (down e) (down g) p q h))
    (round_same binary64 false (m * up e * down g - n * up g * down e) (down e * down g) (a - b) 1 (mul-pos (down_pos e) (down_pos g)) (le_refl 1)
    (difference (m * up e) (n * up g) a b (down e) (down g) p q h))

pub div_whole : {x y : Float} {a b : ℕ} → Worth x a 1 → Worth y b 1 → 0 < b → div binary64 x y ≡ near a b
unfolding div
div_whole {a = a} {b = b} (worth {m = m} {e = e} C p) (worth {m = n} {e = g} D q) h =
    let N : 0 < n * up g = omega (arith, mul-pos h (down_pos g)) in
    let z : 0 < n = first_pos n (up g) N in
    rw (ne_eqb n 0 (omega arith))
    (round_same binary64 false (m * up e * down g) (n * up g * down e) a b (mul-pos N (down_pos e)) h
    (quotient (m * up e) (n * up g) a b (down e) (down g) p q))

pub mul_whole : {x y : Float} {a b c : ℕ} → Worth x a 1 → Worth y b c → mul binary64 x y ≡ near (a * b) c
unfolding mul
mul_whole {a = a} {b = b} {c = c} (worth {m = m} {e = e} C p) (worth {m = n} {e = g} D q) =
    round_same binary64 false (m * up e * (n * up g)) (down e * down g) (a * b) c (mul-pos (down_pos e) (down_pos g)) D
    (product (m * up e) (n * up g) a b c (down e) (down g) p q)

pub add_whole : {x y : Float} {a b c : ℕ} → Worth x a 1 → Worth y b c → add binary64 x y ≡ near (a * c + b) c
unfolding add
add_whole {a = a} {b = b} {c = c} (worth {m = m} {e = e} C p) (worth {m = n} {e = g} D q) =
    round_same binary64 false (m * up e * down g + n * up g * down e) (down e * down g) (a * c + b) c (mul-pos (down_pos e) (down_pos g)) D
    (total (m * up e) (n * up g) a b c (down e) (down g) p q)
