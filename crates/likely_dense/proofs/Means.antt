-- A reading of a column of the code's constant is the reading of the printed table: over any lists that are what is computed from it.
-- The equations are closed by computation where the table is read.
-- Assumes nothing.
use Prim.Native.Nat.{ℕ, zero, suc, ◌+◌, ◌-◌, ◌≤◌, ◌<◌}
use native.Mathlib.Nat.{le_of_suc-le-suc, not-suc-le-zero}
use native.Mathlib.Omega.{arith}
use mathlib.Core.Path.{◌≡◌, refl, ap, sym, ◌∙◌}
use mathlib.Core.List.{List, [], ◌∷◌, map}
use lib.ListN.{length, get_or, drop, length-map}
use Rattle.search.specs.Rising.{first_at_least}
use Rattle.search.specs.Laws.{first_within}
use Rattle.rules.specs.Printed.{Mark}
use Rattle.rules.specs.Rules.{distance, largest, in_use, from_column, smaller, thousandths, closest_column}
use Rattle.rules.specs.Cuts.{cuts, cuts_from, climbs, climbs_from}
use Rattle.rules.proofs.Laws.{column_by_cuts}
use Rattle.rules.specs.Carried.{running, in_use_at}
use Rattle.interpolation.specs.Interpolation.{likely_at, likely_by_row}
use Rattle.interpolation.proofs.Means.{likely_means}
use Rattle.likely_dense.specs.PrintedDense.{rates18, endpoints18}
use Rattle.likely_dense.specs.Columns.{dense_tables, counted_from, columns_in_use}

-- the closest column by its cut points
pub column_means : (points : List ℕ) → points ≡ cuts smaller endpoints18 → (endpoint column : ℕ) → column ≡ first_at_least endpoint points
    → (column ≡ closest_column endpoint endpoints18) × (column < 16)
unfolding cuts cuts_from climbs climbs_from smaller endpoints18
column_means points p endpoint column e = (
  e ∙ ap (λ xs. first_at_least endpoint xs) p ∙ sym (column_by_cuts endpoint endpoints18 refl),
  omega (arith, e, first_within endpoint points, ap length p),
)

-- each table has 27 rows, by computation
rows_of : (k : ℕ) → k < 4 → length (get_or dense_tables k []) ≡ 27
unfolding dense_tables
rows_of zero h = refl
rows_of (suc zero) h = refl
rows_of (suc (suc zero)) h = refl
rows_of (suc (suc (suc zero))) h = refl
rows_of (suc (suc (suc (suc k)))) h =
    absurd (not-suc-le-zero (le_of_suc-le-suc (le_of_suc-le-suc (le_of_suc-le-suc (le_of_suc-le-suc h)))))

four_tables : length dense_tables ≡ 4
unfolding dense_tables
four_tables = refl

-- an entry of a list that is made place by place
mapped_at : {A B : Type 0} (f : A → B) (xs : List A) (a : A) (b : B) (i : ℕ) → i < length xs → get_or (map f xs) i b ≡ f (get_or xs i a)
mapped_at f [] a b i h = absurd (not-suc-le-zero h)
mapped_at f (x ∷ rest) a b zero h = refl
mapped_at f (x ∷ rest) a b (suc i) h = mapped_at f rest a b i (le_of_suc-le-suc h)

counted_at : (from n j : ℕ) → j < n → get_or (counted_from from n) j 0 ≡ from + j
unfolding counted_from
counted_at from zero j h = absurd (not-suc-le-zero h)
counted_at from (suc n) zero h = omega arith
counted_at from (suc n) (suc j) h = counted_at (suc from) n j (le_of_suc-le-suc h) ∙ omega arith

counted_long : (from n : ℕ) → length (counted_from from n) ≡ n
unfolding counted_from
counted_long from zero = refl
counted_long from (suc n) = ap suc (counted_long (suc from) n)

column_at : (rows : List (List Mark)) (j : ℕ) → j < 16 → get_or (columns_in_use rows) j [] ≡ running 0 (from_column j rows)
unfolding columns_in_use
column_at rows j h =
    mapped_at (λ column. running 0 (from_column column rows)) (counted_from 0 16) 0 [] j (omega (arith, counted_long 0 16))
    ∙ ap (λ column. running 0 (from_column column rows)) (counted_at 0 16 j h ∙ omega arith)

-- an entry of a column of one of the four tables
entry_at : (k j i : ℕ) → k < 4 → j < 16 → i < 27
    → get_or (get_or (get_or (map columns_in_use dense_tables) k []) j []) i 0 ≡ in_use (from_column j (get_or dense_tables k [])) i
unfolding from_column
entry_at k j i hk hj hi =
    let rows : List (List Mark) = get_or dense_tables k [] in
    ap (λ columns. get_or (get_or columns j []) i 0) (mapped_at columns_in_use dense_tables [] [] k (omega (arith, hk, four_tables)))
    ∙ ap (λ column. get_or column i 0) (column_at rows j hj)
    ∙ in_use_at (from_column j rows) i (omega (arith, rows_of k hk, length-map rows (λ row. largest (drop j (map distance row)))))

-- a column of the constant, as the code lends it
pub part_means : (points : List ℕ) (entries : List (List (List ℕ))) → points ≡ thousandths rates18 → entries ≡ map columns_in_use dense_tables
    → (table column rate endpoint : ℕ) → 17 < table → table ≤ 21 → column ≡ closest_column endpoint endpoints18 → column < 16
    → likely_at points (λ i. get_or (get_or (get_or entries (table - 18) []) column []) i 0) rate
    ≡ likely_by_row rates18 (from_column (closest_column endpoint endpoints18) (get_or dense_tables (table - 18) [])) rate
unfolding rates18
part_means points entries p q table column rate endpoint low high c within =
    let k : ℕ = table - 18 in
    likely_means rates18 (from_column column (get_or dense_tables k [])) points (get_or (get_or entries k []) column []) p (omega arith)
    (λ i h. ap (λ xs. get_or (get_or (get_or xs k []) column []) i 0) q ∙ entry_at k column i (omega arith) within (omega (arith, h)))
    rate
    ∙ ap (λ j. likely_by_row rates18 (from_column j (get_or dense_tables k [])) rate) c
