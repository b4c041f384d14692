-- A reading of the code's arrays is the reading of the printed table, for Tables 22 to 25: over any arrays that hold what is
-- computed from it. A dense table's reading is its number's, and a number that no table of likely scenarios has is beyond.
-- Assumes nothing.
use Rattle.std.specs.Prelude.{None}
use Prim.Native.Nat.{ℕ, zero, suc, ◌+◌, ◌-◌, ◌≤◌, ◌<◌}
use native.Mathlib.Nat.{le_of_suc-le-suc, not-suc-le-zero}
use native.Mathlib.Omega.{arith}
use mathlib.Core.Path.{◌≡◌, refl, ap, sym, ◌∙◌}
use mathlib.Core.List.{List, [], ◌∷◌, map}
use lib.ListN.{length, get_or, length-map, get_or-eq_default}
use Rattle.rules.specs.Printed.{Line}
use Rattle.rules.specs.Rules.{largest, in_use, from_column, thousandths, closest_column, answered, past, by_range}
use Rattle.rules.specs.Carried.{running}
use Rattle.dispersion.specs.declared.Ground.{Ground}
use Rattle.dispersion.specs.declared.Ground.TheVariants.{Rural, Urban}
use Rattle.dispersion.specs.Tables.{lines, unprinted, column_of, rate_of, entry_of}
use Rattle.interpolation.specs.Interpolation.{likely_at, likely_by_row}
use Rattle.interpolation.proofs.Means.{carried_means}
use Rattle.likely_neutral.specs.PrintedNeutral.{table14, table15, table16, table17}
use Rattle.likely_neutral.specs.Numbered.{numbered}
use Rattle.likely_dense.specs.PrintedDense.{rates18, endpoints18}
use Rattle.likely_dense.specs.Columns.{dense_tables}
use Rattle.likely_tables.specs.LikelyTables.{likely_tables, range_read, likely_in, likely_reading}

-- Tables 22 to 25: the rows' rates, the entries in use of both columns
pub lines_mean : (table : List Line) {points rural urban : List ℕ} → points ≡ thousandths (map rate_of table)
    → rural ≡ running 0 (map (entry_of Rural) table) → urban ≡ running 0 (map (entry_of Urban) table) → 0 < length table
    → (topography : Ground) (rate endpoint : ℕ)
    → likely_at points (λ i. get_or (column_of topography rural urban) i 0) rate ≡ likely_in (lines table) topography rate endpoint
unfolding likely_in
lines_mean table {points} {rural} {urban} p r u some topography rate endpoint =
    carried_means (map rate_of table) (map (entry_of topography) table) points (column_of topography rural urban) p (omega (arith, some, length-map table rate_of))
    (column topography)
    (length-map table (entry_of topography) ∙ sym (length-map table rate_of))
    rate
  where
    column : (g : Ground) → column_of g rural urban ≡ running 0 (map (entry_of g) table)
    column Rural = r
    column Urban = u

-- Table 18 + k is read by the rows and columns of Table 18
dense_table : (k : ℕ) → k < 4 → (topography : Ground) (rate endpoint : ℕ)
    → likely_by_row rates18 (from_column (closest_column endpoint endpoints18) (get_or dense_tables k [])) rate ≡ likely_reading (18 + k) topography rate endpoint
unfolding likely_reading likely_in likely_tables dense_tables
dense_table zero h topography rate endpoint = refl
dense_table (suc zero) h topography rate endpoint = refl
dense_table (suc (suc zero)) h topography rate endpoint = refl
dense_table (suc (suc (suc zero))) h topography rate endpoint = refl
dense_table (suc (suc (suc (suc k)))) h topography rate endpoint =
    absurd (not-suc-le-zero (le_of_suc-le-suc (le_of_suc-le-suc (le_of_suc-le-suc (le_of_suc-le-suc h)))))

pub dense_reading : (table : ℕ) → 17 < table → table ≤ 21 → (topography : Ground) (rate endpoint : ℕ)
    → likely_by_row rates18 (from_column (closest_column endpoint endpoints18) (get_or dense_tables (table - 18) [])) rate ≡ likely_reading table topography rate endpoint
dense_reading table low high topography rate endpoint =
    let k : ℕ = table - 18 in
    let t : 18 + k ≡ table = omega arith in
    dense_table k (omega arith) topography rate endpoint ∙ ap (λ n. likely_reading n topography rate endpoint) t

-- Tables 14 to 17, each for one ground, whichever the card's is; no table below has a likely reading
neutral_table : (k : ℕ) → k ≤ 4 → (topography : Ground) (rate endpoint : ℕ)
    → range_read (by_range (get_or ([] ∷ table14 ∷ table15 ∷ table16 ∷ table17 ∷ []) k []) rate endpoint)
    ≡ likely_in (get_or likely_tables k unprinted) topography rate endpoint
unfolding likely_in likely_tables by_range past answered in_use largest
neutral_table zero h topography rate endpoint = refl
neutral_table (suc zero) h topography rate endpoint = refl
neutral_table (suc (suc zero)) h topography rate endpoint = refl
neutral_table (suc (suc (suc zero))) h topography rate endpoint = refl
neutral_table (suc (suc (suc (suc zero)))) h topography rate endpoint = refl
neutral_table (suc (suc (suc (suc (suc k))))) h topography rate endpoint = absurd (omega arith)

pub neutral_reading : (table : ℕ) → table ≤ 17 → (topography : Ground) (rate endpoint : ℕ)
    → range_read (by_range (numbered table) rate endpoint) ≡ likely_reading table topography rate endpoint
unfolding numbered likely_reading
neutral_reading table h topography rate endpoint = neutral_table (table - 13) (omega arith) topography rate endpoint

-- above 25 there is nothing to read
pub none_above : (table : ℕ) (topography : Ground) (rate endpoint : ℕ) → 25 < table → likely_reading table topography rate endpoint ≡ None
unfolding likely_reading likely_in likely_tables
none_above table topography rate endpoint h =
    ap (λ t. likely_in t topography rate endpoint) (get_or-eq_default likely_tables unprinted {n = table - 13} (omega arith))
