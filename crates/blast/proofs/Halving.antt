-- Halving finds the least number of metres: what each step knows of the numbers before and behind, and that no product that it makes
-- is too large.
-- Assumes nothing.
use Prim.Native.Nat.{ℕ, ◌+◌, ◌*◌, ◌/◌, ◌≤◌, ◌<◌}
use native.Mathlib.Nat.{mul-le-mul}
use native.Mathlib.Omega.{arith}
use mathlib.Core.Path.{◌≡◌, ap, ◌∙◌}
use Rattle.std.specs.Prelude.{Some, None}
use mir.Val.{Fits}
use mir.Syntax.{w64}
use Rattle.combustion.specs.Heats.{heat_of}
use Rattle.blast.specs.Blast.{metres_of, hundredths_of, ring_by, ring_of}
use Rattle.blast.proofs.Laws.{cube_mono, only_least}

-- the farthest that is looked at is enough for any quantity of four bytes at any heat
pub need_within : (pounds heat : ℕ) → pounds ≤ 4_294_967_295 → heat ≤ 150_000 → 4_913 * pounds * heat ≤ 3_165_176_148_050_250_000
need_within pounds heat p h =
    let most : 4_913 * pounds ≤ 21_101_174_320_335 = omega arith in omega (arith, mul-le-mul most h)

-- no product with a number up to the farthest is too large
pub square_fits : (d : ℕ) → d ≤ 31_327 → Fits w64 (d * d)
square_fits d h = omega (arith, mul-le-mul h h)

pub cube_fits : (d : ℕ) → d ≤ 31_327 → Fits w64 (d * d * d)
cube_fits d h = omega (arith, mul-le-mul (mul-le-mul h h) h)

pub product_fits : (d : ℕ) → d ≤ 31_327 → Fits w64 (d * d * d * 102_960)
product_fits d h = omega (arith, mul-le-mul (mul-le-mul h h) h)

-- what the walk knows: every number below `low` is too small, and `low + span` is enough
abbrev pub Between : ℕ → ℕ → ℕ → Type 0
Between need low span =
    (low + span ≤ 31_327)
    × (need ≤ (low + span) * (low + span) * (low + span) * 102_960)
    × ((e : ℕ) → e < low → e * e * e * 102_960 < need)

module _ (need low span d next : ℕ) (b : Between need low span) where
  -- where a number in the middle is too small, so are those before it
  pub too_small : next ≡ low + (span + 1) / 2 → next ≤ d + 1 → d * d * d * 102_960 < need → Between need next (span / 2)
  too_small n l h =
      let same : low + span ≡ next + span / 2 = omega arith in
      (omega arith, omega (arith, b.1, ap (λ (x : ℕ). x * x * x) same), below)
    where
      below : (e : ℕ) → e < next → e * e * e * 102_960 < need
      below e k = omega (arith, cube_mono {d = e} {e = d} (omega arith))

  -- where it is enough, so are those behind it
  pub large_enough : next ≡ low → d ≤ low + span / 2 → need ≤ d * d * d * 102_960 → Between need next (span / 2)
  large_enough n l h =
      (omega arith, omega (arith, cube_mono {d = d} {e = next + span / 2} (omega arith)), λ e k. b.2 e (omega arith))

-- where the span is gone, the least is found
pub met : (pounds heat low span : ℕ) → span ≤ 0 → Between (4_913 * pounds * heat) low span → low ≡ metres_of pounds heat
met pounds heat low span h b =
    let same : low + span ≡ low = omega arith in
    only_least (record {
      enough = omega (arith, b.1, ap (λ (x : ℕ). x * x * x) same);
      no_smaller = λ e k q. absurd (omega (arith, q, b.2 e k));
    })

-- the distance of the metres that are found
pub ring_is : (cas pounds heat metres : ℕ) → Some heat ≡ heat_of cas → metres ≡ metres_of pounds heat → record { 0 = hundredths_of metres } ≡ ring_of cas pounds
unfolding ring_of
ring_is cas pounds heat metres h m = ap (λ (d : ℕ). record { 0 = hundredths_of d }) m ∙ ap (ring_by pounds) h

-- and of a substance without a heat
pub no_ring : (cas pounds : ℕ) → None ≡ heat_of cas → record { 0 = 0 } ≡ ring_of cas pounds
unfolding ring_of
no_ring cas pounds h = ap (ring_by pounds) h
