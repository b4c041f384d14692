-- The line between two rows, in 64-bit floats: an interpolated distance lies between its two entries, and within one pair of rows a
-- larger rate never gives less.
-- Assumes nothing.
use Rattle.std.specs.Prelude.{ℕ, ◌+◌, ◌-◌, ◌*◌, ◌^◌, ◌≤◌, ◌<◌, ◌≡◌, T}
use Rattle.std.proofs.Common.{le_refl, mul-le-mul_left, mul-le-mul_right, add-sub_of_le, add-mul, arith, ◌∙◌, ap, lit≤}
use Rattle.std.specs.Float.{binary64}
use Rattle.std.specs.Float.Ieee.{le, add, mul, div}
use Rattle.std.specs.Float.Ieee.Order.{round_mono}
use Rattle.interpolation.specs.Interpolation.{float_of, row_of, line_between}
use Rattle.line_laws.specs.Floats.{near, whole, of_le, under_pos, Between, near_between, at_least, at_most, sub_whole, div_whole, mul_whole, add_whole}

module _ (r0 d0 r1 d1 : ℕ) (rows : r0 < r1) (last : r1 ≤ 2 ^ 53) (entries : d0 ≤ d1) (limit : d1 ≤ 2500) where
  -- how far the rate lies between the two rows, as a part of 1
  share : (r : ℕ) → r ≤ r1 → Between 0 (near (r - r0) (r1 - r0)) 1
  share r h = near_between (r - r0) (r1 - r0) 0 1 (omega arith) (omega arith) (omega arith) (lit≤ tt)

  -- so much of the entries' difference
  part : (r : ℕ) (h : r ≤ r1) → Between 0 (near ((d1 - d0) * (share r h).over) (share r h).under) (d1 - d0)
  part r h =
      let s = share r h in
      near_between ((d1 - d0) * s.over) s.under 0 (d1 - d0) (under_pos s.is) (omega arith)
      (mul-le-mul_left (d1 - d0) (omega (arith, s.most)))
      (omega arith)

  -- and the lower entry with it, each step the nearest float
  line_is : (r : ℕ) → r0 ≤ r → (h : r ≤ r1)
      → line_between (row_of r0 d0) (row_of r1 d1) (float_of r) ≡ near (d0 * (part r h).under + (part r h).over) (part r h).under
  line_is r l h =
      (λ i.
      add binary64 (float_of d0)
      (mul binary64 (sub_whole (whole d1 (omega arith)) (whole d0 (omega arith)) entries i)
      (div binary64 (sub_whole (whole r (omega arith)) (whole r0 (omega arith)) l i) (sub_whole (whole r1 last) (whole r0 (omega arith)) (omega arith) i))))
      ∙ rw (div_whole (whole (r - r0) (omega arith)) (whole (r1 - r0) (omega arith)) (omega arith), mul_whole (whole (d1 - d0) (omega arith)) (share r h).is)
      (add_whole (whole d0 (omega arith)) (part r h).is)

  -- it lies between the two entries
  pub line_between_lem : (r : ℕ) → r0 ≤ r → r ≤ r1 → Between d0 (line_between (row_of r0 d0) (row_of r1 d1) (float_of r)) d1
  line_between_lem r l h =
      let p = part r h in
      rw (line_is r l h)
      (near_between (d0 * p.under + p.over) p.under d0 d1 (under_pos p.is) (omega arith)
      (omega (arith, p.most, add-mul d0 (d1 - d0) p.under, ap (λ z. z * p.under) (add-sub_of_le entries)))
      (omega arith))

  pub line_low : (r : ℕ) → r0 ≤ r → r ≤ r1 → T (le (float_of d0) (line_between (row_of r0 d0) (row_of r1 d1) (float_of r)))
  line_low r l h = at_least (line_between_lem r l h) d0 (le_refl d0) (omega arith)

  pub line_high : (r : ℕ) → r0 ≤ r → r ≤ r1 → T (le (line_between (row_of r0 d0) (row_of r1 d1) (float_of r)) (float_of d1))
  line_high r l h = at_most (line_between_lem r l h) d1 (le_refl d1) (omega arith)

  -- a larger rate never gives less
  pub line_mono : (r s : ℕ) → r0 ≤ r → r ≤ s → s ≤ r1
      → T (le (line_between (row_of r0 d0) (row_of r1 d1) (float_of r)) (line_between (row_of r0 d0) (row_of r1 d1) (float_of s)))
  line_mono r s l h m =
      let u : r ≤ r1 = omega arith in
      let a = share r u in
      let b = share s m in
      let p = part r u in
      let q = part s m in
      let shares : a.over * b.under ≤ b.over * a.under =
      of_le a.is b.is
      (round_mono binary64 (r - r0) (r1 - r0) (s - r0) (r1 - r0) (omega arith) (omega arith) (mul-le-mul_right (r1 - r0) (omega arith))) in
      let parts : p.over * q.under ≤ q.over * p.under =
      of_le p.is q.is
      (round_mono binary64 ((d1 - d0) * a.over) a.under ((d1 - d0) * b.over) b.under (under_pos a.is) (under_pos b.is)
      (omega (arith, mul-le-mul_left (d1 - d0) shares))) in
      rw (line_is r l u, line_is s (omega arith) m)
      (round_mono binary64 (d0 * p.under + p.over) p.under (d0 * q.under + q.over) q.under (under_pos p.is) (under_pos q.is)
      (omega (arith, parts)))
