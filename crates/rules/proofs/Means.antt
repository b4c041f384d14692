-- A reading of the code's arrays is the reading of the printed table: one law for each form of table, over any arrays that
-- hold what is computed from it.
-- Assumes nothing.
use Prim.Native.Nat.{ℕ, suc, ◌*◌, ◌<◌}
use native.Mathlib.Omega.{arith}
use mathlib.Core.Path.{◌≡◌, ap, sym, ◌∙◌}
use mathlib.Core.List.{List, map}
use mathlib.Core.Bool.{true}
use lib.Dec.{ltb}
use lib.ListN.{length, get_or, length-map}
use Rattle.search.specs.Rising.{first_at_least}
use Rattle.search.specs.Laws.{first_within}
use Rattle.std.specs.Prelude.{Some}
use Rattle.units.specs.declared.Miles.{Miles}
use Rattle.rules.specs.declared.Ranges.{Ranges}
use Rattle.rules.specs.Printed.{Range}
use Rattle.rules.specs.Rules.{distance, in_use, larger, thousandths, closest_row, last_of, answered, by_row, holding, mark_of, by_range}
use Rattle.rules.specs.Cuts.{cuts, climbs, uppers, scaled}
use Rattle.rules.proofs.Laws.{row_by_cuts, holding_by_bounds, never_past}
use Rattle.rules.specs.Carried.{running, in_use_at}

-- Tables 1 to 4: the upper bounds, and the entries in use with the open range's last. `known` is the constant that is lent.
pub range_means : {n m : ℕ} (table : List Range) {known ranges : Ranges n m} → ranges ≡ known → known.bounds ≡ uppers table
    → known.entries ≡ running 0 (map (λ range. distance (mark_of range)) table) → length table ≡ suc (length known.bounds)
    → {found : Miles} (rate endpoint : ℕ) → found.0 ≡ get_or ranges.entries (first_at_least (suc (1000 * rate)) (scaled endpoint ranges.bounds)) 0
    → Some found ≡ by_range table rate endpoint
unfolding by_range scaled answered
range_means {n} {m} table {known} {ranges} k b e l {found} rate endpoint f =
    let marks : List ℕ = map (λ range. distance (mark_of range)) table in
    let place : ℕ = first_at_least (suc (1000 * rate)) (scaled endpoint known.bounds) in
    let held : holding rate endpoint table ≡ place =
    holding_by_bounds rate endpoint table ∙ ap (λ xs. first_at_least (suc (1000 * rate)) (scaled endpoint xs)) (sym b) in
    let within : place < length table =
    omega (arith, first_within (suc (1000 * rate)) (scaled endpoint known.bounds), length-map known.bounds (λ bound. bound * endpoint)) in
    let here : get_or known.entries place 0 ≡ in_use marks place =
    ap (λ xs. get_or xs place 0) e ∙ in_use_at marks place (omega (arith, length-map table (λ range. distance (mark_of range)))) in
    rw (held, never_past rate endpoint table (l ∙ ap (λ (xs : List ℕ). suc (length xs)) b)) (ap (λ (d : ℕ). Some (record { 0 = d })) (rw k at f ∙ here))

-- a table of rows: the cut points, the last row's rate and the entries in use of a column
pub row_means : (rates entries points : List ℕ) (last : ℕ) (column : List ℕ) → points ≡ cuts larger (thousandths rates)
    → last ≡ last_of (thousandths rates) → column ≡ running 0 entries → climbs (thousandths rates) ≡ true
    → length entries ≡ suc (length points)
    → (rate : ℕ) → answered (ltb last rate) (get_or column (first_at_least rate points) 0) ≡ by_row rates entries rate
unfolding by_row
row_means rates entries points last column p l k c n rate =
    let place : ℕ = first_at_least rate points in
    let row : closest_row rate rates ≡ place = row_by_cuts rate rates c ∙ ap (λ xs. first_at_least rate xs) (sym p) in
    let here : get_or column place 0 ≡ in_use entries place =
    ap (λ xs. get_or xs place 0) k ∙ in_use_at entries place (omega (arith, first_within rate points)) in
    rw (row, here, l)
