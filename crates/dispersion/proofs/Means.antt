-- A reading of the code's arrays is the reading of the printed table, for Tables 9 to 12: over any arrays that hold what is
-- computed from it. At a table each of the equations is closed by computation. And a dense table's reading is its number's.
-- Assumes nothing.
use Prim.Native.Nat.{ℕ, zero, suc, ◌+◌, ◌-◌, ◌≤◌, ◌<◌, min}
use Rattle.std.specs.Prelude.{◌⊎◌}
use Rattle.std.proofs.Common.{⊎_elim, inl, inr, get_or-append-add}
use Rattle.std.proofs.Math.ListN.{length-append}
use native.Mathlib.Nat.{le_of_suc-le-suc, not-suc-le-zero}
use native.Mathlib.Omega.{arith}
use mathlib.Core.Path.{◌≡◌, refl, ap, ◌∙◌}
use mathlib.Core.List.{List, [], ◌∷◌, ◌++◌, map}
use mathlib.Core.Bool.{true}
use lib.ListN.{length, get_or, length-map}
use Rattle.search.specs.Rising.{first_at_least}
use Rattle.search.specs.Laws.{lt_or_ge, first_within, first_on, first_here}
use Rattle.rules.specs.Printed.{Line}
use Rattle.rules.specs.Rules.{largest, in_use, from_column, larger, thousandths, closest_column, last_of, answered, by_row, past, by_range}
use Rattle.rules.specs.Cuts.{cuts, climbs}
use Rattle.rules.specs.Carried.{running}
use Rattle.rules.proofs.Means.{row_means}
use Rattle.neutral.specs.Numbered.{numbered}
use Rattle.dense.specs.PrintedDense.{rates5, endpoints5}
use Rattle.dense.specs.Grids.{dense_tables}
use Rattle.dispersion.specs.declared.Ground.{Ground}
use Rattle.dispersion.specs.declared.Ground.TheVariants.{Rural, Urban}
use Rattle.dispersion.specs.Rows.{row_read}
use Rattle.dispersion.specs.Tables.{lines, column_of, read_in, rate_of, entry_of, tables, reading_of}

-- the last of some numbers and one more
last_behind : (xs : List ℕ) (last : ℕ) → last_of (xs ++ last ∷ []) ≡ last
unfolding last_of
last_behind xs last =
    let n : length (xs ++ last ∷ []) - 1 ≡ length xs + 0 = omega (arith, length-append xs (last ∷ [])) in
    ap (λ i. get_or (xs ++ last ∷ []) i 0) n ∙ get_or-append-add xs (last ∷ []) 0 0

-- a number that none of the first reaches is read at the last, whether or not that one reaches it
place_before : (x : ℕ) (xs : List ℕ) (last : ℕ) → min (first_at_least x (xs ++ last ∷ [])) (length xs) ≡ first_at_least x xs
place_before x [] last = omega (arith, first_within x [])
place_before x (a ∷ rest) last =
    ⊎_elim
    (λ (l : a < x). rw (first_on x a (rest ++ last ∷ []) l, first_on x a rest l) (omega (arith, place_before x rest last)))
    (λ (l : x ≤ a). rw (first_here x a (rest ++ last ∷ []) l, first_here x a rest l) (omega arith))
    (lt_or_ge a x)

-- Tables 9 to 12: the cut points with the last row's rate behind them, and the entries in use of both columns
pub lines_means : (table : List Line) {upto rural urban : List ℕ}
    → upto ≡ cuts larger (thousandths (map rate_of table)) ++ last_of (thousandths (map rate_of table)) ∷ []
    → rural ≡ running 0 (map (entry_of Rural) table) → urban ≡ running 0 (map (entry_of Urban) table)
    → climbs (thousandths (map rate_of table)) ≡ true → length table ≡ suc (length (cuts larger (thousandths (map rate_of table))))
    → (topography : Ground) (rate endpoint : ℕ)
    → row_read upto (column_of topography rural urban) rate ≡ read_in (lines table) topography rate endpoint
unfolding read_in row_read
lines_means table {upto} {rural} {urban} p r u c n topography rate endpoint =
    let points : List ℕ = cuts larger (thousandths (map rate_of table)) in
    let last : ℕ = last_of (thousandths (map rate_of table)) in
    let place : min (first_at_least rate (points ++ last ∷ [])) (length (points ++ last ∷ []) - 1) ≡ first_at_least rate points =
    omega (arith, place_before rate points last, length-append points (last ∷ [])) in
    rw (p, last_behind points last, place)
    (row_means (map rate_of table) (map (entry_of topography) table) points last (column_of topography rural urban) refl refl (column topography) c
    (length-map table (entry_of topography) ∙ n)
    rate)
  where
    column : (g : Ground) → column_of g rural urban ≡ running 0 (map (entry_of g) table)
    column Rural = r
    column Urban = u

-- the numbers up to 4
pub upto_4 : (n : ℕ) → n ≤ 4 → (n ≡ 0) ⊎ ((n ≡ 1) ⊎ ((n ≡ 2) ⊎ ((n ≡ 3) ⊎ (n ≡ 4))))
upto_4 zero h = inl refl
upto_4 (suc zero) h = inr (inl refl)
upto_4 (suc (suc zero)) h = inr (inr (inl refl))
upto_4 (suc (suc (suc zero))) h = inr (inr (inr (inl refl)))
upto_4 (suc (suc (suc (suc zero)))) h = inr (inr (inr (inr refl)))
upto_4 (suc (suc (suc (suc (suc n))))) h = absurd (omega arith)

-- Tables 1 to 4, each for one ground, whichever the card's is; no table has the number 0
pub neutral_reading : (table : ℕ) → table ≤ 4 → (topography : Ground) (rate endpoint : ℕ)
    → by_range (numbered table) rate endpoint ≡ reading_of table topography rate endpoint
unfolding reading_of read_in tables numbered by_range past answered in_use largest
neutral_reading zero h topography rate endpoint = refl
neutral_reading (suc zero) h topography rate endpoint = refl
neutral_reading (suc (suc zero)) h topography rate endpoint = refl
neutral_reading (suc (suc (suc zero))) h topography rate endpoint = refl
neutral_reading (suc (suc (suc (suc zero)))) h topography rate endpoint = refl
neutral_reading (suc (suc (suc (suc (suc n))))) h topography rate endpoint = absurd (omega arith)

-- Table 5 + k is read by the rows and columns of Table 5
dense_table : (k : ℕ) → k < 4 → (topography : Ground) (rate endpoint : ℕ)
    → by_row rates5 (from_column (closest_column endpoint endpoints5) (get_or dense_tables k [])) rate ≡ reading_of (5 + k) topography rate endpoint
unfolding reading_of read_in tables dense_tables
dense_table zero h topography rate endpoint = refl
dense_table (suc zero) h topography rate endpoint = refl
dense_table (suc (suc zero)) h topography rate endpoint = refl
dense_table (suc (suc (suc zero))) h topography rate endpoint = refl
dense_table (suc (suc (suc (suc k)))) h topography rate endpoint =
    absurd (not-suc-le-zero (le_of_suc-le-suc (le_of_suc-le-suc (le_of_suc-le-suc (le_of_suc-le-suc h)))))

pub dense_reading : (table : ℕ) → 4 < table → table ≤ 8 → (topography : Ground) (rate endpoint : ℕ)
    → by_row rates5 (from_column (closest_column endpoint endpoints5) (get_or dense_tables (table - 5) [])) rate ≡ reading_of table topography rate endpoint
dense_reading table low high topography rate endpoint =
    let k : ℕ = table - 5 in
    let t : 5 + k ≡ table = omega arith in
    dense_table k (omega arith) topography rate endpoint ∙ ap (λ n. reading_of n topography rate endpoint) t
