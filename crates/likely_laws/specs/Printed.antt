-- Document 02's sentences in A6 over Tables 18 to 25 themselves: for every table, ground and endpoint, what stands printed at the rows and
-- what is answered there, between two of them, below the first and above the last. Rates are printed in lbs/min and supplied in
-- thousandths of them; an entry is the one in use, by document 01.
-- Assumes nothing.
use Rattle.std.specs.Prelude.{ℕ, zero, suc, ◌+◌, ◌-◌, ◌*◌, ◌^◌, ◌≤◌, ◌<◌, ◌≡◌, refl, List, [], ◌∷◌, Bool, true, T, leb, ltb, Float, length, get_or, drop, Some}
use Rattle.std.proofs.Common.{le_of_suc-le-suc, not-suc-le-zero, arith, sym, ap, ◌∙◌, get_or-drop}
use Rattle.std.specs.Float.Ieee.{le}
use borrow.Author.Tests.{ltb-true}
use Rattle.search.specs.Places.{every}
use Rattle.search.specs.Laws.{clash, both_true}
use Rattle.rules.specs.Rules.{mile_limit, in_use, thousandths}
use Rattle.rules.specs.Cuts.{climbs}
use Rattle.dispersion.specs.declared.Ground.{Ground}
use Rattle.dispersion.specs.Tables.{Table, ranges, grid, lines, unprinted}
use Rattle.interpolation.specs.declared.Likely.TheVariants.{Interpolated, Limit}
use Rattle.interpolation.specs.Interpolation.{float_of, entry_read, between_rows, above_last, likely_by_row}
use Rattle.likely_tables.specs.LikelyTables.{likely_tables, likely_in, likely_reading}
use Rattle.line_laws.proofs.Readings as rows
use Rattle.likely_laws.specs.Numbers.{rates_in, entries_in, sound_table_lem, rates_climb, rates_exact, entries_within}

-- the table of a number
abbrev pub numbered : ℕ → Table
numbered table = get_or likely_tables (table - 13) unprinted

-- the rates of its rows as printed, in lbs/min; a table without rows has none
unfoldable pub row_rates : ℕ → List ℕ
row_rates table = rates_in (numbered table)

-- the entries of the column that a ground and an endpoint read, "with the endpoint column still the closest": in Tables 22 to 25 as
-- printed, in 18 to 21 of each row the largest at no lower endpoint, which document 01 puts in use
unfoldable pub column_in : ℕ → Ground → ℕ → List ℕ
column_in table topography endpoint = entries_in (numbered table) topography endpoint

-- the rate of a row in thousandths, and the entry in use there, by the row's place from 0
abbrev pub rate_at : ℕ → ℕ → ℕ
rate_at table k = 1000 * get_or (row_rates table) k 0

abbrev pub entry_at : ℕ → Ground → ℕ → ℕ → ℕ
entry_at table topography endpoint k = in_use (column_in table topography endpoint) k

-- ---- Tables 18 to 25 are those with rows

unfoldable pub has_rows : Table → Bool
has_rows t = ltb 0 (length (rates_in t))

-- from 18 on, which stands five behind 13
all_rows : every has_rows (drop 5 likely_tables) ≡ true
unfolding has_rows likely_tables
all_rows = refl

each_below : {A : Type 0} (ok : A → Bool) (xs : List A) (other : A) → every ok xs ≡ true → (i : ℕ) → i < length xs → ok (get_or xs i other) ≡ true
each_below ok [] other e i h = absurd (not-suc-le-zero h)
each_below ok (a ∷ rest) other e zero h = (both_true (ok a) (every ok rest) e).0
each_below ok (a ∷ rest) other e (suc i) h = each_below ok rest other (both_true (ok a) (every ok rest) e).1 i (le_of_suc-le-suc h)

rows_of : (table : ℕ) → 17 < table → table ≤ 25 → has_rows (numbered table) ≡ true
unfolding likely_tables
rows_of table low high =
    let place : 5 + (table - 18) ≡ table - 13 = omega arith in
    sym (ap has_rows (get_or-drop 5 likely_tables (table - 18) unprinted ∙ ap (λ n. get_or likely_tables n unprinted) place))
    ∙ each_below has_rows (drop 5 likely_tables) unprinted all_rows (table - 18) (omega arith)

in_rows : (t : Table) → has_rows t ≡ true → (topography : Ground) (rate endpoint : ℕ)
    → likely_in t topography rate endpoint ≡ likely_by_row (rates_in t) (entries_in t topography endpoint) rate
unfolding has_rows likely_in
in_rows (ranges table) e topography rate endpoint = clash (cc)
in_rows (grid rates endpoints rows) e topography rate endpoint = refl
in_rows (lines table) e topography rate endpoint = refl
in_rows unprinted e topography rate endpoint = clash (cc)

module _ (table : ℕ) (low : 17 < table) (high : table ≤ 25) where
  -- each has a first row
  pub some_row : 0 < length (row_rates table)
  unfolding row_rates has_rows
  some_row = ltb-true 0 (length (rates_in (numbered table))) (rows_of table low high)

  module _ (topography : Ground) (endpoint : ℕ) where
    -- "In Tables 18 to 25 we interpolate between rows": what a table answers is told by its rows alone
    pub read_by_row : (rate : ℕ) → likely_reading table topography rate endpoint ≡ likely_by_row (row_rates table) (column_in table topography endpoint) rate
    unfolding likely_reading row_rates column_in
    read_by_row rate = in_rows (numbered table) (rows_of table low high) topography rate endpoint

    -- ---- what the test of all tables says of this one

    climb : climbs (thousandths (row_rates table)) ≡ true
    unfolding row_rates
    climb = rates_climb (numbered table) (sound_table_lem (table - 13))

    exact : every (λ r. leb r (2 ^ 53)) (thousandths (row_rates table)) ≡ true
    unfolding row_rates
    exact = rates_exact (numbered table) (sound_table_lem (table - 13))

    within : every (λ d. leb d 2500) (column_in table topography endpoint) ≡ true
    unfolding column_in
    within = entries_within (numbered table) (sound_table_lem (table - 13)) topography endpoint

    -- ---- the sentences

    -- "At a printed rate the answer is the printed entry exactly, by 01's entries in use."
    pub at_printed : (k : ℕ) → k < length (row_rates table)
        → likely_reading table topography (rate_at table k) endpoint ≡ Some (entry_read (entry_at table topography endpoint k))
    at_printed k h =
        read_by_row (rate_at table k) ∙ rows.at_printed (row_rates table) (column_in table topography endpoint) climb k h

    -- "Below the first row, the first entry is answered"
    pub below_first : (rate : ℕ) → rate ≤ rate_at table 0
        → likely_reading table topography rate endpoint ≡ Some (entry_read (entry_at table topography endpoint 0))
    below_first rate l =
        read_by_row rate ∙ rows.below_first (row_rates table) (column_in table topography endpoint) climb rate some_row l

    -- "above the last, the rule of 11": a last entry in use of 25 miles is answered, any other is beyond the table
    pub above_last_lem : (rate : ℕ) → rate_at table (length (row_rates table) - 1) < rate
        → likely_reading table topography rate endpoint ≡ above_last (entry_at table topography endpoint (length (row_rates table) - 1))
    above_last_lem rate l =
        read_by_row rate ∙ rows.above_last_lem (row_rates table) (column_in table topography endpoint) climb rate some_row l

    -- strictly between two rows
    module _ (k : ℕ) (h : suc k < length (row_rates table)) where
      -- "we interpolate between rows"
      pub between_rows_lem : (rate : ℕ) → rate_at table k < rate → rate < rate_at table (suc k)
          → likely_reading table topography rate endpoint
          ≡ Some (between_rows (rate_at table k) (entry_at table topography endpoint k) (rate_at table (suc k)) (entry_at table topography endpoint (suc k)) rate)
      between_rows_lem rate l u =
          read_by_row rate ∙ rows.between_rows_lem (row_rates table) (column_in table topography endpoint) climb k rate h l u

      -- "An entry in use of 25 miles is the limit, and so is the answer at any rate between it and the entry below."
      pub limit_at : (rate : ℕ) → rate_at table k < rate → rate < rate_at table (suc k)
          → entry_at table topography endpoint (suc k) ≡ mile_limit → likely_reading table topography rate endpoint ≡ Some (Limit (float_of mile_limit))
      limit_at rate l u e =
          read_by_row rate ∙ rows.limit_at (row_rates table) (column_in table topography endpoint) climb k rate h l u e

      -- an interpolated distance lies between the two entries
      pub interpolated_between : (rate : ℕ) (x : Float) → rate_at table k < rate → rate < rate_at table (suc k)
          → likely_reading table topography rate endpoint ≡ Some (Interpolated x)
          → T (le (float_of (entry_at table topography endpoint k)) x) × T (le x (float_of (entry_at table topography endpoint (suc k))))
      interpolated_between rate x l u e =
          rows.interpolated_between (row_rates table) (column_in table topography endpoint) climb exact within k h rate x l u
          (sym (read_by_row rate) ∙ e)

      -- within one pair of rows a larger rate never gives less
      pub larger_never_less : (rate more : ℕ) (x y : Float) → rate_at table k < rate → rate ≤ more
          → more < rate_at table (suc k) → likely_reading table topography rate endpoint ≡ Some (Interpolated x)
          → likely_reading table topography more endpoint ≡ Some (Interpolated y) → T (le x y)
      larger_never_less rate more x y l m u e f =
          rows.larger_never_less (row_rates table) (column_in table topography endpoint) climb exact within k h rate more x y l m u
          (sym (read_by_row rate) ∙ e)
          (sym (read_by_row more) ∙ f)
