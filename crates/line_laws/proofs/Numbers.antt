-- Every likely distance that a table of rows answers is a number between 0 and 2,500, in hundredths of a mile, whatever the rate.
-- Assumes nothing.
use Rattle.std.specs.Prelude.{ℕ, zero, suc, ◌-◌, ◌^◌, ◌≤◌, ◌<◌, ◌≡◌, List, [], ◌∷◌, leb, length, get_or, take}
use Rattle.std.proofs.Common.{zero-le, le_refl, arith}
use Rattle.std.proofs.lemmas.Bool.Decides.{nat_tests}
use Rattle.std.proofs.Math.Nat.{le-suc}
use Rattle.std.proofs.Math.Bool.{true}
use Rattle.search.specs.Rising.{first_at_least}
use Rattle.search.specs.Laws.{first_reaches}
use Rattle.search.specs.Places.{every}
use Rattle.rules.specs.Rules.{largest, in_use, thousandths}
use Rattle.rules.specs.Cuts.{climbs}
use Rattle.rules.proofs.Laws.{in_use_mono}
use Rattle.interpolation.specs.Interpolation.{float_of, entry_read, between_rows, above_last, by_first, likely_at, likely_by_row}
use Rattle.line_laws.specs.Floats.{whole, le_of, at_least, at_most}
use Rattle.line_laws.proofs.Line.{line_between_lem}
use Rattle.line_laws.specs.Rows.{held, step, below_place}
use Rattle.line_laws.specs.Numbers.{Number, Carries, CarriesIn}

-- a whole number
pub whole_number : (d : ℕ) → d ≤ 2500 → Number (float_of d)
whole_number d h =
    let w = whole d (omega arith) in
    (le_of (whole 0 (omega arith)) w (omega arith), le_of w (whole 2500 (omega arith)) (omega arith))

-- ---- the cases of a reading

entry_number : (d : ℕ) → d ≤ 2500 → Carries (entry_read d)
unfolding entry_read
entry_number d h = grind (arith, whole_number d h)

between_number : (r0 d0 r1 d1 rate : ℕ) → r0 < r1 → r1 ≤ 2 ^ 53 → d0 ≤ d1 → d1 ≤ 2500 → r0 ≤ rate → rate ≤ r1
    → Carries (between_rows r0 d0 r1 d1 rate)
unfolding between_rows
between_number r0 d0 r1 d1 rate rows last entries limit l h =
    let b = line_between_lem r0 d0 r1 d1 rows last entries limit rate l h in
    grind (arith, whole_number d1 limit, at_least b 0 zero-le (omega arith), at_most b 2500 limit (omega arith))

above_number : (d : ℕ) → d ≤ 2500 → CarriesIn (above_last d)
unfolding above_last
above_number d h = grind (arith, whole_number d h)

-- ---- a reading, of rates that climb and that a float holds, and of entries that never fall
module _ (rates : List ℕ) (entry : ℕ → ℕ) (climb : climbs rates ≡ true) (exact : every (λ r. leb r (2 ^ 53)) rates ≡ true)
    (within : (k : ℕ) → entry k ≤ 2500) (rise : (k : ℕ) → entry k ≤ entry (suc k)) where
  first_number_lem : (rate at : ℕ) → at < length rates → ((k : ℕ) → k < at → get_or rates k 0 < rate) → rate ≤ get_or rates at 0
      → Carries (by_first at rates entry rate)
  first_number_lem rate zero h below reach = entry_number (entry 0) (within 0)
  first_number_lem rate (suc k) h below reach =
      grind (
        arith,
        entry_number (entry (suc k)) (within (suc k)),
        between_number (get_or rates k 0) (entry k) (get_or rates (suc k) 0) (entry (suc k)) rate (step rates climb k h) (held rates exact (suc k)) (rise k) (within (suc k)) (omega (arith, below k (le_refl (suc k)))) reach,
      )

  -- whatever the rate
  pub number_reads : (rate : ℕ) → CarriesIn (likely_at rates entry rate)
  unfolding likely_at
  number_reads rate =
      let at : ℕ = first_at_least rate rates in
      grind (
        arith,
        nat_tests,
        λ (h : at < length rates). first_number_lem rate at h (below_place rates climb rate) (first_reaches rate rates h),
        above_number (entry (length rates - 1)) (within (length rates - 1)),
      )

-- ---- the entries in use of a table: what the hypotheses ask

pub in_use_rises : (xs : List ℕ) (k : ℕ) → in_use xs k ≤ in_use xs (suc k)
in_use_rises xs k = in_use_mono xs k (suc k) (le-suc k)

largest_within : (most : ℕ) (xs : List ℕ) → every (λ d. leb d most) xs ≡ true → (n : ℕ) → largest (take n xs) ≤ most
unfolding largest
largest_within most xs e zero = zero-le
largest_within most [] e (suc n) = zero-le
largest_within most (d ∷ rest) e (suc n) = grind (arith, nat_tests, λ (h : every (λ d. leb d most) rest ≡ true). largest_within most rest h n)

pub in_use_within : (most : ℕ) (xs : List ℕ) → every (λ d. leb d most) xs ≡ true → (k : ℕ) → in_use xs k ≤ most
unfolding in_use
in_use_within most xs e k = largest_within most xs e (suc k)

-- so every reading of such a table
pub number_by_row : (rates entries : List ℕ) → climbs (thousandths rates) ≡ true → every (λ r. leb r (2 ^ 53)) (thousandths rates) ≡ true
    → every (λ d. leb d 2500) entries ≡ true → (rate : ℕ) → CarriesIn (likely_by_row rates entries rate)
unfolding likely_by_row
number_by_row rates entries climb exact within rate =
    number_reads (thousandths rates) (in_use entries) climb exact (in_use_within 2500 entries within) (in_use_rises entries) rate
