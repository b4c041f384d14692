-- Rows of one length, one behind the other in one list, and where an entry of a row then stands.
-- Assumes nothing.
use Rattle.std.specs.Prelude.{ℕ, zero, suc, ◌+◌, ◌*◌, ◌<◌, ◌≡◌, List, [], ◌∷◌, ◌++◌, Bool, true, eqb, length, get_or}
use Rattle.std.proofs.Common.{zero-le, suc-le-suc, le_of_suc-le-suc, not-suc-le-zero, mul-zero, mul-suc, zero-add, arith, ◌∙◌, get_or-append-add, eqb-true}
use Rattle.std.proofs.Math.ListN.{get_or-append}
use Rattle.search.specs.Rising.{both}
use Rattle.search.specs.Laws.{both_true}

-- rows one behind the other
unfoldable pub flat : {A : Type 0} → List (List A) → List A
flat [] = []
flat (row ∷ rest) = row ++ flat rest

-- the rows are of one length: a test that computes
unfoldable pub all_long : {A : Type 0} → ℕ → List (List A) → Bool
all_long width [] = true
all_long width (row ∷ rest) = both (eqb (length row) width) (all_long width rest)

long_at : {A : Type 0} (width : ℕ) (rows : List (List A)) → all_long width rows ≡ true → (i : ℕ) → i < length rows
    → length (get_or rows i []) ≡ width
unfolding all_long
long_at width [] e i h = absurd (not-suc-le-zero h)
long_at width (row ∷ rest) e zero h =
    eqb-true (length row) width (both_true (eqb (length row) width) (all_long width rest) e).0
long_at width (row ∷ rest) e (suc i) h =
    long_at width rest (both_true (eqb (length row) width) (all_long width rest) e).1 i (le_of_suc-le-suc h)

-- entry j of row i stands at width × i + j
pub flat_at : {A : Type 0} (other : A) (width : ℕ) (rows : List (List A)) → all_long width rows ≡ true → (i j : ℕ)
    → i < length rows → j < width → get_or (flat rows) (width * i + j) other ≡ get_or (get_or rows i []) j other
unfolding flat all_long
flat_at other width [] e i j h l = absurd (not-suc-le-zero h)
flat_at other width (row ∷ rest) e zero j h l =
    let f : length row ≡ width = long_at width (row ∷ rest) e zero (suc-le-suc zero-le) in
    rw (mul-zero width, zero-add j) (get_or-append row (flat rest) other j (omega arith))
flat_at other width (row ∷ rest) e (suc i) j h l =
    let f : length row ≡ width = long_at width (row ∷ rest) e zero (suc-le-suc zero-le) in
    let n : width * suc i + j ≡ length row + (width * i + j) = omega (arith, mul-suc width i) in
    rw n
    (get_or-append-add row (flat rest) (width * i + j) other
    ∙ flat_at other width rest (both_true (eqb (length row) width) (all_long width rest) e).1 i j (le_of_suc-le-suc h) l)
