-- What callers use of the rules instead of their text, for any table: the closest row is found by cut points, the range that is
-- read holds the ratio, and a larger rate never reads a shorter distance.
-- Assumes nothing.
use Rattle.std.specs.Prelude.{ℕ, zero, suc, ◌*◌, ◌≤◌, ◌<◌, ◌≡◌, refl, List, [], ◌∷◌, map, Bool, true, false, ltb, eqb, length, get_or, take, Option, Some, None}
use Rattle.std.proofs.Common.{zero-le, suc-le-suc, le_refl, le_of_suc-le-suc, not-suc-le-zero, mul-le-mul_left, arith, ap, ⊎_elim, lt-ltb, le-ltb, eqb-true}
use Rattle.std.proofs.lemmas.List.{length-map}
use Rattle.search.specs.Rising.{first_at_least, both}
use Rattle.search.specs.Laws.{lt_or_ge, first_mono, both_true}
use Rattle.units.specs.declared.Miles.{Miles}
use Rattle.rules.specs.Printed.{Mark, blank, Range, closed, above}
use Rattle.rules.specs.Rules.{distance, largest, in_use, larger, smaller, thousandths, closest_row, closest_column, last_of, mile_limit, answered, by_row, ratio_below, holding, past, mark_of, by_range}
use Rattle.rules.specs.Cuts.{cuts, climbs, uppers, scaled}
use Rattle.rules.proofs.Closest.{closest_by_cuts, Nearest, closest_nearest}

-- of more entries the largest is no smaller
largest_take : (m n : ℕ) (xs : List ℕ) → m ≤ n → largest (take m xs) ≤ largest (take n xs)
unfolding largest
largest_take zero n xs h = zero-le
largest_take (suc m) zero xs h = absurd (not-suc-le-zero h)
largest_take (suc m) (suc n) [] h = le_refl 0
largest_take (suc m) (suc n) (d ∷ rest) h =
    let ih : largest (take m rest) ≤ largest (take n rest) = largest_take m n rest (le_of_suc-le-suc h) in
    omega arith

-- entries in use never fall along the rows
pub in_use_mono : (entries : List ℕ) (i k : ℕ) → i ≤ k → in_use entries i ≤ in_use entries k
unfolding in_use
in_use_mono entries i k h = largest_take (suc i) (suc k) entries (suc-le-suc h)

-- a distance that is answered is the entry in use
pub answered_distance : (beyond : Bool) (entry : ℕ) (d : Miles) → answered beyond entry ≡ Some d → entry ≡ d.0
unfolding answered
answered_distance false entry d e = cc
answered_distance true entry d e = go (eqb entry mile_limit) e
  where
    go : (t : Bool) → (elim t as (λ _. Option Miles) [ true ↦ Some (record { 0 = entry }) | false ↦ None ]) ≡ Some d → entry ≡ d.0
    go true p = cc
    go false p = cc

-- the closest row and the closest column are found by the cut points
pub row_by_cuts : (rate : ℕ) (rates : List ℕ) → climbs (thousandths rates) ≡ true
    → closest_row rate rates ≡ first_at_least rate (cuts larger (thousandths rates))
unfolding closest_row larger
row_by_cuts rate rates e = closest_by_cuts 1 rate (thousandths rates) (le_refl 1) e

pub column_by_cuts : (endpoint : ℕ) (endpoints : List ℕ) → climbs endpoints ≡ true
    → closest_column endpoint endpoints ≡ first_at_least endpoint (cuts smaller endpoints)
unfolding closest_column smaller
column_by_cuts endpoint endpoints e = closest_by_cuts 0 endpoint endpoints zero-le e

-- and they are the closest, the larger row and the smaller column at a midpoint
pub row_nearest : (rate : ℕ) (rates : List ℕ) → climbs (thousandths rates) ≡ true → 0 < length rates
    → Nearest larger rate (thousandths rates) (closest_row rate rates)
unfolding closest_row larger thousandths
row_nearest rate rates e h =
    closest_nearest 1 rate (thousandths rates) (le_refl 1) e (rw (length-map rates (λ r. 1000 * r)) h)

pub column_nearest : (endpoint : ℕ) (endpoints : List ℕ) → climbs endpoints ≡ true → 0 < length endpoints
    → Nearest smaller endpoint endpoints (closest_column endpoint endpoints)
unfolding closest_column smaller
column_nearest endpoint endpoints e h = closest_nearest 0 endpoint endpoints zero-le e h

-- the range that holds a ratio is found among the upper bounds
pub holding_by_bounds : (rate endpoint : ℕ) (table : List Range)
    → holding rate endpoint table ≡ first_at_least (suc (1000 * rate)) (scaled endpoint (uppers table))
unfolding holding ratio_below first_at_least scaled uppers
holding_by_bounds rate endpoint [] = refl
holding_by_bounds rate endpoint (closed from upto mark ∷ rest) =
    ap (λ n. elim (ltb (1000 * rate) (upto * endpoint)) as (λ _. ℕ) [ true ↦ 0 | false ↦ suc n ]) (holding_by_bounds rate endpoint rest)
holding_by_bounds rate endpoint (above from mark ∷ rest) = refl

-- a table whose last range is open has a range for every ratio
pub never_past : (rate endpoint : ℕ) (table : List Range) → length table ≡ suc (length (uppers table)) → past rate endpoint table ≡ false
unfolding past uppers
never_past rate endpoint [] e = absurd (omega arith)
never_past rate endpoint (above from mark ∷ rest) e = refl
never_past rate endpoint (closed from upto mark ∷ []) e = absurd (omega arith)
never_past rate endpoint (closed from upto mark ∷ (next ∷ rest)) e = never_past rate endpoint (next ∷ rest) (suc_is e)
  where
    suc_is : {m n : ℕ} → suc m ≡ suc n → m ≡ n
    suc_is q = omega arith

-- rate / endpoint lies in a range: at or above its lower bound and below its upper one
unfoldable pub Holds : ℕ → ℕ → Range → Type 0
Holds rate endpoint (closed from upto mark) = (from * endpoint ≤ 1000 * rate) × (1000 * rate < upto * endpoint)
Holds rate endpoint (above from mark) = from * endpoint ≤ 1000 * rate

-- each range begins where the one before it ends: a test that computes
unfoldable pub joined : ℕ → List Range → Bool
joined bound [] = true
joined bound (closed from upto mark ∷ rest) = both (eqb from bound) (joined upto rest)
joined bound (above from mark ∷ rest) = eqb from bound

-- the two ways of the walk to the range
holding_here : (rate endpoint from upto : ℕ) (mark : Mark) (rest : List Range) → 1000 * rate < upto * endpoint
    → holding rate endpoint (closed from upto mark ∷ rest) ≡ 0
unfolding holding ratio_below
holding_here rate endpoint from upto mark rest h = rw (lt-ltb (1000 * rate) (upto * endpoint) h, holding)

holding_on : (rate endpoint from upto : ℕ) (mark : Mark) (rest : List Range) → upto * endpoint ≤ 1000 * rate
    → holding rate endpoint (closed from upto mark ∷ rest) ≡ suc (holding rate endpoint rest)
unfolding holding ratio_below
holding_on rate endpoint from upto mark rest h = rw (le-ltb (1000 * rate) (upto * endpoint) h, holding)

-- the range that is read holds rate / endpoint, and a shared bound belongs to the farther range
pub range_holds : (rate endpoint bound : ℕ) (table : List Range) → joined bound table ≡ true → bound * endpoint ≤ 1000 * rate
    → holding rate endpoint table < length table → Holds rate endpoint (get_or table (holding rate endpoint table) (above 0 blank))
unfolding joined holding ratio_below Holds
range_holds rate endpoint bound [] e l h = absurd (not-suc-le-zero h)
range_holds rate endpoint bound (above from mark ∷ rest) e l h = rw (eqb-true from bound e) l
range_holds rate endpoint bound (closed from upto mark ∷ rest) e l h =
    let b : (from ≡ bound) = eqb-true from bound (both_true (eqb from bound) (joined upto rest) e).0 in
    let ih : upto * endpoint ≤ 1000 * rate → holding rate endpoint rest < length rest
    → Holds rate endpoint (get_or rest (holding rate endpoint rest) (above 0 blank)) =
    range_holds rate endpoint upto rest (both_true (eqb from bound) (joined upto rest) e).1 in
    ⊎_elim
    (λ (below : 1000 * rate < upto * endpoint).
    rw (holding_here rate endpoint from upto mark rest below, b) (l, below))
    (λ (beyond : upto * endpoint ≤ 1000 * rate).
    rw (holding_on rate endpoint from upto mark rest beyond)
    (ih beyond (le_of_suc-le-suc (rw (holding_on rate endpoint from upto mark rest beyond) at h))))
    (lt_or_ge (1000 * rate) (upto * endpoint))

-- whatever is read of one list of entries at two places, the earlier place reads no more
read_mono : (a b : Bool) (entries : List ℕ) (i k : ℕ) (d f : Miles) → i ≤ k
    → answered a (in_use entries i) ≡ Some d → answered b (in_use entries k) ≡ Some f → d.0 ≤ f.0
read_mono a b entries i k d f h p q =
    let l : in_use entries i ≡ d.0 = answered_distance a (in_use entries i) d p in
    let r : in_use entries k ≡ f.0 = answered_distance b (in_use entries k) f q in
    let m : in_use entries i ≤ in_use entries k = in_use_mono entries i k h in
    omega arith

pub row_mono : (rates entries : List ℕ) (r s : ℕ) (d f : Miles) → climbs (thousandths rates) ≡ true → r ≤ s
    → by_row rates entries r ≡ Some d → by_row rates entries s ≡ Some f → d.0 ≤ f.0
unfolding by_row
row_mono rates entries r s d f e h p q =
    read_mono (ltb (last_of (thousandths rates)) r) (ltb (last_of (thousandths rates)) s) entries
    (closest_row r rates)
    (closest_row s rates)
    d
    f
    (rw (row_by_cuts r rates e, row_by_cuts s rates e) (first_mono r s (cuts larger (thousandths rates)) h))
    p
    q

pub range_mono : (table : List Range) (e r s : ℕ) (d f : Miles) → r ≤ s
    → by_range table r e ≡ Some d → by_range table s e ≡ Some f → d.0 ≤ f.0
unfolding by_range
range_mono table e r s d f h p q =
    read_mono (past r e table) (past s e table) (map (λ range. distance (mark_of range)) table)
    (holding r e table)
    (holding s e table)
    d
    f
    (rw (holding_by_bounds r e table, holding_by_bounds s e table)
    (first_mono (suc (1000 * r)) (suc (1000 * s)) (scaled e (uppers table)) (suc-le-suc (mul-le-mul_left 1000 h))))
    p
    q

-- a rate in thousandths stands for each row
pub length_thousandths : (rates : List ℕ) → length (thousandths rates) ≡ length rates
unfolding thousandths
length_thousandths rates = length-map rates (λ rate. 1000 * rate)
