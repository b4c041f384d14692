-- How a likely scenario reads a table of rows whose rates climb, in document 02's sentences: at a printed rate, between two rows, below
-- the first and above the last. Between two rows the answer lies between their entries, a larger rate never gives less, and an entry
-- of 25 miles is the limit.
-- Assumes nothing.
use Rattle.std.specs.Prelude.{ℕ, zero, suc, ◌-◌, ◌*◌, ◌^◌, ◌≤◌, ◌<◌, ◌≡◌, refl, List, true, T, leb, Float, length, Some}
use Rattle.std.proofs.Common.{zero-le, not-suc-le-zero, arith, ◌∙◌, sym, ap, ne_eqb}
use Rattle.std.specs.Float.Ieee.{le}
use Rattle.std.proofs.Math.ListN.{get_or, get_or-map}
use Rattle.std.proofs.lemmas.Bool.Decides.{nat_tests}
use Rattle.search.specs.Rising.{first_at_least}
use Rattle.search.specs.Laws.{first_unique}
use Rattle.search.specs.Places.{every}
use Rattle.rules.specs.Rules.{mile_limit, in_use, thousandths}
use Rattle.rules.specs.Cuts.{climbs}
use Rattle.rules.proofs.Laws.{length_thousandths}
use Rattle.interpolation.specs.declared.Likely.TheVariants.{Interpolated, Limit}
use Rattle.interpolation.specs.Interpolation.{float_of, row_of, line_between, entry_read, between_rows, above_last, by_first, likely_at, likely_by_row}
use Rattle.line_laws.proofs.Line.{line_low, line_high, line_mono}
use Rattle.line_laws.specs.Rows.{held, place_printed, place_between, place_past}
use Rattle.line_laws.proofs.Numbers.{in_use_rises, in_use_within}

-- ---- by the place that is found

module _ (xs : List ℕ) (entry : ℕ → ℕ) (rate : ℕ) where
  found_at : (at : ℕ) → first_at_least rate xs ≡ at → at < length xs → likely_at xs entry rate ≡ Some (by_first at xs entry rate)
  unfolding likely_at
  found_at at e h = grind (arith, nat_tests, e)

  found_past : first_at_least rate xs ≡ length xs → likely_at xs entry rate ≡ above_last (entry (length xs - 1))
  unfolding likely_at
  found_past e = grind (arith, nat_tests, e)

  found_below : 0 < length xs → rate ≤ get_or xs 0 0 → likely_at xs entry rate ≡ Some (entry_read (entry 0))
  found_below h l = found_at 0 (first_unique xs rate 0 zero-le (λ k m. absurd (not-suc-le-zero m)) (λ m. l)) h

  -- the row's own rate
  own_row : (k : ℕ) → get_or xs k 0 ≡ rate → by_first k xs entry rate ≡ entry_read (entry k)
  own_row zero e = refl
  own_row (suc k) e = grind (arith, nat_tests, e)

  found_printed : (k : ℕ) → climbs xs ≡ true → k < length xs → get_or xs k 0 ≡ rate → likely_at xs entry rate ≡ Some (entry_read (entry k))
  found_printed k climb h e =
      found_at k (ap (λ n. first_at_least n xs) (sym e) ∙ place_printed xs climb k h) h ∙ ap Some (own_row k e)

  found_between : (k : ℕ) → climbs xs ≡ true → suc k < length xs → get_or xs k 0 < rate → rate < get_or xs (suc k) 0
      → likely_at xs entry rate ≡ Some (between_rows (get_or xs k 0) (entry k) (get_or xs (suc k) 0) (entry (suc k)) rate)
  found_between k climb h l u =
      found_at (suc k) (place_between xs climb rate k h l (omega arith)) h
      ∙ ap Some (simp (ne_eqb (get_or xs (suc k) 0) rate (omega arith), by_first))

-- ---- the two answers between rows

limited : (r0 d0 r1 rate : ℕ) → between_rows r0 d0 r1 mile_limit rate ≡ Limit (float_of mile_limit)
unfolding between_rows
limited r0 d0 r1 rate = refl

interpolated : (r0 d0 r1 d1 rate : ℕ) (x : Float) → Some (between_rows r0 d0 r1 d1 rate) ≡ Some (Interpolated x)
    → line_between (row_of r0 d0) (row_of r1 d1) (float_of rate) ≡ x
unfolding between_rows
interpolated r0 d0 r1 d1 rate x e = grind arith

module _ (r0 d0 r1 d1 : ℕ) (rows : r0 < r1) (last : r1 ≤ 2 ^ 53) (rise : d0 ≤ d1) (limit : d1 ≤ 2500) where
  between_entries : (rate : ℕ) (x : Float) → r0 < rate → rate < r1 → Some (between_rows r0 d0 r1 d1 rate) ≡ Some (Interpolated x)
      → T (le (float_of d0) x) × T (le x (float_of d1))
  between_entries rate x l u e =
      rw (← interpolated r0 d0 r1 d1 rate x e) (
        line_low r0 d0 r1 d1 rows last rise limit rate (omega arith) (omega arith),
        line_high r0 d0 r1 d1 rows last rise limit rate (omega arith) (omega arith),
      )

  between_mono : (rate more : ℕ) (x y : Float) → r0 < rate → rate ≤ more → more < r1 → Some (between_rows r0 d0 r1 d1 rate) ≡ Some (Interpolated x)
      → Some (between_rows r0 d0 r1 d1 more) ≡ Some (Interpolated y) → T (le x y)
  between_mono rate more x y l m u e f =
      rw (← interpolated r0 d0 r1 d1 rate x e, ← interpolated r0 d0 r1 d1 more y f)
      (line_mono r0 d0 r1 d1 rows last rise limit rate more (omega arith) m (omega arith))

-- ---- a table, by its rates in lbs/min

thousandth : (rates : List ℕ) (k : ℕ) → get_or (thousandths rates) k 0 ≡ 1000 * get_or rates k 0
unfolding thousandths
thousandth rates k = get_or-map (λ rate. 1000 * rate) rates k 0

module _ (rates entries : List ℕ) (climb : climbs (thousandths rates) ≡ true) where
  -- "At a printed rate the answer is the printed entry exactly"
  pub at_printed : (k : ℕ) → k < length rates → likely_by_row rates entries (1000 * get_or rates k 0) ≡ Some (entry_read (in_use entries k))
  unfolding likely_by_row
  at_printed k h =
      found_printed (thousandths rates) (in_use entries) (1000 * get_or rates k 0) k climb (omega (arith, length_thousandths rates)) (thousandth rates k)

  -- strictly between two rows
  pub between_rows_lem : (k rate : ℕ) → suc k < length rates → 1000 * get_or rates k 0 < rate → rate < 1000 * get_or rates (suc k) 0
      → likely_by_row rates entries rate
      ≡ Some (between_rows (1000 * get_or rates k 0) (in_use entries k) (1000 * get_or rates (suc k) 0) (in_use entries (suc k)) rate)
  unfolding likely_by_row
  between_rows_lem k rate h l u =
      rw (← thousandth rates k, ← thousandth rates (suc k))
      (found_between (thousandths rates) (in_use entries) rate k climb
      (omega (arith, length_thousandths rates))
      (omega (arith, thousandth rates k))
      (omega (arith, thousandth rates (suc k))))

  -- "Below the first row, the first entry is answered"
  pub below_first : (rate : ℕ) → 0 < length rates → rate ≤ 1000 * get_or rates 0 0 → likely_by_row rates entries rate ≡ Some (entry_read (in_use entries 0))
  unfolding likely_by_row
  below_first rate h l =
      found_below (thousandths rates) (in_use entries) rate (omega (arith, length_thousandths rates)) (omega (arith, thousandth rates 0))

  -- "above the last, the rule of 11"
  pub above_last_lem : (rate : ℕ) → 0 < length rates → 1000 * get_or rates (length rates - 1) 0 < rate
      → likely_by_row rates entries rate ≡ above_last (in_use entries (length rates - 1))
  unfolding likely_by_row
  above_last_lem rate h l =
      found_past (thousandths rates) (in_use entries) rate
      (place_past (thousandths rates) climb rate (omega (arith, length_thousandths rates))
      (rw (length_thousandths rates) (omega (arith, thousandth rates (length rates - 1)))))
      ∙ rw (length_thousandths rates)

  -- An entry of 25 miles "is the limit, and so is the answer at any rate between it and the entry below"
  pub limit_at : (k rate : ℕ) → suc k < length rates → 1000 * get_or rates k 0 < rate → rate < 1000 * get_or rates (suc k) 0
      → in_use entries (suc k) ≡ mile_limit → likely_by_row rates entries rate ≡ Some (Limit (float_of mile_limit))
  limit_at k rate h l u e =
      between_rows_lem k rate h l u
      ∙ ap (λ d. Some (between_rows (1000 * get_or rates k 0) (in_use entries k) (1000 * get_or rates (suc k) 0) d rate)) e
      ∙ ap Some (limited (1000 * get_or rates k 0) (in_use entries k) (1000 * get_or rates (suc k) 0) rate)

  -- rates that a float holds, and entries up to the limit
  module _ (exact : every (λ r. leb r (2 ^ 53)) (thousandths rates) ≡ true) (within : every (λ d. leb d 2500) entries ≡ true)
      (k : ℕ) (h : suc k < length rates) where
    last : 1000 * get_or rates (suc k) 0 ≤ 2 ^ 53
    last = rw (← thousandth rates (suc k)) (held (thousandths rates) exact (suc k))

    -- an interpolated distance lies between its two entries
    pub interpolated_between : (rate : ℕ) (x : Float) → 1000 * get_or rates k 0 < rate → rate < 1000 * get_or rates (suc k) 0
        → likely_by_row rates entries rate ≡ Some (Interpolated x)
        → T (le (float_of (in_use entries k)) x) × T (le x (float_of (in_use entries (suc k))))
    interpolated_between rate x l u e =
        between_entries (1000 * get_or rates k 0) (in_use entries k) (1000 * get_or rates (suc k) 0) (in_use entries (suc k))
        (omega arith) last (in_use_rises entries k) (in_use_within 2500 entries within (suc k))
        rate x l u (sym (between_rows_lem k rate h l u) ∙ e)

    -- within one pair of rows a larger rate never gives less
    pub larger_never_less : (rate more : ℕ) (x y : Float) → 1000 * get_or rates k 0 < rate → rate ≤ more → more < 1000 * get_or rates (suc k) 0
        → likely_by_row rates entries rate ≡ Some (Interpolated x) → likely_by_row rates entries more ≡ Some (Interpolated y) → T (le x y)
    larger_never_less rate more x y l m u e f =
        between_mono (1000 * get_or rates k 0) (in_use entries k) (1000 * get_or rates (suc k) 0) (in_use entries (suc k))
        (omega arith) last (in_use_rises entries k) (in_use_within 2500 entries within (suc k))
        rate more x y l m u
        (sym (between_rows_lem k rate h l (omega arith)) ∙ e)
        (sym (between_rows_lem k more h (omega arith) u) ∙ f)
