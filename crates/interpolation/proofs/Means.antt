-- A reading of the code's arrays is the reading of the printed table: over any arrays that hold what is computed from it.
-- Assumes nothing.
use Rattle.std.proofs.Common.{◌≡◌, ℕ, zero, suc, ◌-◌, ◌<◌, Bool, true, false, eqb, ltb, List, length, get_or, refl, ap, ◌∙◌, arith, ltb-true}
use Rattle.std.specs.Prelude.{Option, Some}
use mathlib.Core.Path.{Path}
use Rattle.search.specs.Rising.{first_at_least}
use Rattle.rules.specs.Rules.{in_use, thousandths}
use Rattle.rules.specs.Carried.{running, in_use_at}
use Rattle.rules.proofs.Laws.{length_thousandths}
use Rattle.interpolation.specs.declared.Likely.{Likely}
use Rattle.interpolation.specs.Interpolation.{entry_read, between_rows, above_last, by_first, likely_at, likely_by_row}

-- the entries count at the rows' places alone
module _ (rates : List ℕ) (f g : ℕ → ℕ) (rate : ℕ) (same : (i : ℕ) → i < length rates → f i ≡ g i) where
  first_same : (k : ℕ) → k < length rates → by_first k rates f rate ≡ by_first k rates g rate
  first_same zero h = ap entry_read (same zero h)
  first_same (suc k) h =
      let low : f k ≡ g k = same k (omega arith) in
      let high : f (suc k) ≡ g (suc k) = same (suc k) h in
      λ i.
      elim (eqb (get_or rates (suc k) 0) rate) as (λ _. Likely) [
        | true ↦ entry_read (high i)
        | false ↦ between_rows (get_or rates k 0) (low i) (get_or rates (suc k) 0) (high i) rate
      ]

  pub entries_same : 0 < length rates → likely_at rates f rate ≡ likely_at rates g rate
  unfolding likely_at
  entries_same some = go (ltb (first_at_least rate rates) (length rates)) refl
    where
      go : (b : Bool) → ltb (first_at_least rate rates) (length rates) ≡ b
          → Path (Option Likely)
          (elim b as (λ _. Option Likely) [ true ↦ Some (by_first (first_at_least rate rates) rates f rate) | false ↦ above_last (f (length rates - 1)) ])
          (elim b as (λ _. Option Likely) [ true ↦ Some (by_first (first_at_least rate rates) rates g rate) | false ↦ above_last (g (length rates - 1)) ])
      go true e = ap Some (first_same (first_at_least rate rates) (ltb-true (first_at_least rate rates) (length rates) e))
      go false e = ap above_last (same (length rates - 1) (omega arith))

-- the rates in thousandths, and a column of entries in use
pub likely_means : (rates entries points column : List ℕ) → points ≡ thousandths rates → 0 < length rates
    → ((i : ℕ) → i < length rates → get_or column i 0 ≡ in_use entries i)
    → (rate : ℕ) → likely_at points (λ i. get_or column i 0) rate ≡ likely_by_row rates entries rate
unfolding likely_by_row
likely_means rates entries points column p some same rate =
    let long : length (thousandths rates) ≡ length rates = length_thousandths rates in
    ap (λ xs. likely_at xs (λ i. get_or column i 0) rate) p
    ∙ entries_same (thousandths rates) (λ i. get_or column i 0) (in_use entries) rate (λ i h. same i (omega (arith, long, h))) (omega (arith, long, some))

-- a column whose maxima are carried along
pub carried_means : (rates entries points column : List ℕ) → points ≡ thousandths rates → 0 < length rates → column ≡ running 0 entries
    → length entries ≡ length rates
    → (rate : ℕ) → likely_at points (λ i. get_or column i 0) rate ≡ likely_by_row rates entries rate
carried_means rates entries points column p some c n rate =
    likely_means rates entries points column p some
    (λ i h. ap (λ xs. get_or xs i 0) c ∙ in_use_at entries i (omega (arith, n, h)))
    rate
