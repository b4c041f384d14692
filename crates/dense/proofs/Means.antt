-- A reading of the rows of Tables 5 to 8 is the reading of the printed table: over any cut points that are what is computed
-- from it. The equations are closed by computation where the entry is read.
-- Assumes nothing.
use Prim.Native.Nat.{ℕ, zero, suc, ◌-◌, ◌≤◌, ◌<◌}
use native.Mathlib.Nat.{le_of_suc-le-suc, not-suc-le-zero}
use native.Mathlib.Omega.{arith}
use mathlib.Core.Path.{◌≡◌, refl, ap, sym, ◌∙◌}
use mathlib.Core.List.{List, [], map}
use lib.Dec.{ltb}
use lib.ListN.{length, get_or, get_or-map}
use Rattle.search.specs.Rising.{first_at_least}
use Rattle.search.specs.Laws.{first_within}
use Rattle.rules.specs.Printed.{Mark}
use Rattle.rules.specs.Rules.{in_use, from_column, larger, smaller, thousandths, closest_row, closest_column, last_of, answered, by_row}
use Rattle.rules.specs.Cuts.{cuts, cuts_from, climbs, climbs_from}
use Rattle.rules.proofs.Laws.{row_by_cuts, column_by_cuts}
use Rattle.rules.specs.Carried.{grid_in_use, grid_at}
use Rattle.dense.specs.PrintedDense.{rates5, endpoints5}
use Rattle.dense.specs.Grids.{dense_tables}

-- each of the four has 27 rows, by computation
rows_of : (k : ℕ) → k < 4 → length (get_or dense_tables k []) ≡ 27
unfolding dense_tables
rows_of zero h = refl
rows_of (suc zero) h = refl
rows_of (suc (suc zero)) h = refl
rows_of (suc (suc (suc zero))) h = refl
rows_of (suc (suc (suc (suc k)))) h =
    absurd (not-suc-le-zero (le_of_suc-le-suc (le_of_suc-le-suc (le_of_suc-le-suc (le_of_suc-le-suc h)))))

entry_at : (k row column : ℕ) → k < 4 → row < 27
    → get_or (get_or (get_or (map grid_in_use dense_tables) k []) row []) column 0 ≡ in_use (from_column column (get_or dense_tables k [])) row
unfolding grid_in_use
entry_at k row column hk hr =
    let grid : List (List Mark) = get_or dense_tables k [] in
    ap (λ rows. get_or (get_or rows row []) column 0) (get_or-map grid_in_use dense_tables k [])
    ∙ grid_at grid [] row column (omega (arith, rows_of k hk))

pub dense_means : (rows columns : List ℕ) (last : ℕ) → rows ≡ cuts larger (thousandths rates5)
    → columns ≡ cuts smaller endpoints5 → last ≡ last_of (thousandths rates5)
    → (entries : List (List (List ℕ))) → entries ≡ map grid_in_use dense_tables → (table row column rate endpoint : ℕ) → 4 < table → table ≤ 8 → row ≡ first_at_least rate rows
    → column ≡ first_at_least endpoint columns
    → answered (ltb last rate) (get_or (get_or (get_or entries (table - 5) []) row []) column 0)
    ≡ by_row rates5 (from_column (closest_column endpoint endpoints5) (get_or dense_tables (table - 5) [])) rate
unfolding by_row cuts cuts_from climbs climbs_from thousandths larger smaller rates5 endpoints5
dense_means rows columns last p q l entries e table row column rate endpoint low high r c =
    let k : ℕ = table - 5 in
    let cells : List (List Mark) = get_or dense_tables k [] in
    let hr : row < 27 = omega (arith, first_within rate rows, ap length p) in
    let row_is : row ≡ closest_row rate rates5 =
    r ∙ ap (λ xs. first_at_least rate xs) p ∙ sym (row_by_cuts rate rates5 refl) in
    let column_is : column ≡ closest_column endpoint endpoints5 =
    c ∙ ap (λ xs. first_at_least endpoint xs) q ∙ sym (column_by_cuts endpoint endpoints5 refl) in
    let here : get_or (get_or (get_or entries k []) row []) column 0 ≡ in_use (from_column (closest_column endpoint endpoints5) cells) (closest_row rate rates5) =
    ap (λ xs. get_or (get_or (get_or xs k []) row []) column 0) e
    ∙ entry_at k row column (omega arith) hr
    ∙ ap (λ j. in_use (from_column j cells) row) column_is
    ∙ ap (λ i. in_use (from_column (closest_column endpoint endpoints5) cells) i) row_is in
    ap (λ d. answered (ltb last rate) d) here
    ∙ ap (λ n. answered (ltb n rate) (in_use (from_column (closest_column endpoint endpoints5) cells) (closest_row rate rates5))) l
