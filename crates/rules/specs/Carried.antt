-- The entries in use as the code keeps them, computed from the printed tables by maxima that are carried along, and that this
-- is what `Rules` says. The code's own numbers are compared with it by computation where they stand.
-- Assumes nothing.
use Rattle.std.specs.Prelude.{ℕ, zero, suc, ◌<◌, max, ◌≡◌, refl, List, [], ◌∷◌, map, length, get_or, take, drop}
use Rattle.std.proofs.Common.{le_of_suc-le-suc, not-suc-le-zero, arith, ap, sym, ◌∙◌}
use Rattle.std.proofs.Math.Nat.{zero-max}
use Rattle.std.proofs.lemmas.List.{length-map}
use Rattle.std.proofs.Math.Seq.{drop-nil}
use Rattle.rules.specs.Printed.{Mark}
use Rattle.rules.specs.Rules.{distance, largest, in_use, from_column}

-- a column from top to bottom: the largest so far
unfoldable pub running : ℕ → List ℕ → List ℕ
running most [] = []
running most (d ∷ rest) = max most d ∷ running (max most d) rest

running_at : (most : ℕ) (xs : List ℕ) (i : ℕ) → i < length xs → get_or (running most xs) i 0 ≡ max most (largest (take (suc i) xs))
unfolding running largest
running_at most [] i h = absurd (not-suc-le-zero h)
running_at most (d ∷ rest) zero h = omega arith
running_at most (d ∷ rest) (suc i) h =
    let ih : get_or (running (max most d) rest) i 0 ≡ max (max most d) (largest (take (suc i) rest)) =
    running_at (max most d) rest i (le_of_suc-le-suc h) in
    omega arith

pub in_use_at : (xs : List ℕ) (i : ℕ) → i < length xs → get_or (running 0 xs) i 0 ≡ in_use xs i
unfolding in_use
in_use_at xs i h = running_at 0 xs i h ∙ zero-max (largest (take (suc i) xs))

-- a row from right to left: the largest from each column on
abbrev pub at_head : ℕ → List ℕ → List ℕ
at_head d [] = d ∷ []
at_head d (m ∷ rest) = max d m ∷ m ∷ rest

unfoldable pub from_right : List ℕ → List ℕ
from_right [] = []
from_right (d ∷ rest) = at_head d (from_right rest)

head_at : (d : ℕ) (ms : List ℕ) → get_or (at_head d ms) 0 0 ≡ max d (get_or ms 0 0)
head_at d [] = omega arith
head_at d (m ∷ rest) = refl

tail_at : (d : ℕ) (ms : List ℕ) (j : ℕ) → get_or (at_head d ms) (suc j) 0 ≡ get_or ms j 0
tail_at d [] j = refl
tail_at d (m ∷ rest) j = refl

right_at : (xs : List ℕ) (j : ℕ) → get_or (from_right xs) j 0 ≡ largest (drop j xs)
unfolding from_right largest
right_at [] j = rw (drop-nil {A = ℕ} j)
right_at (d ∷ rest) zero = head_at d (from_right rest) ∙ ap (λ n. max d n) (right_at rest 0)
right_at (d ∷ rest) (suc j) = tail_at d (from_right rest) j ∙ right_at rest j

-- two rows, place by place
unfoldable pub maxes : List ℕ → List ℕ → List ℕ
maxes [] row = row
maxes (m ∷ most) [] = m ∷ most
maxes (m ∷ most) (d ∷ row) = max m d ∷ maxes most row

maxes_at : (most row : List ℕ) (j : ℕ) → get_or (maxes most row) j 0 ≡ max (get_or most j 0) (get_or row j 0)
unfolding maxes
maxes_at [] row j = sym (zero-max (get_or row j 0))
maxes_at (m ∷ most) [] j = omega arith
maxes_at (m ∷ most) (d ∷ row) zero = refl
maxes_at (m ∷ most) (d ∷ row) (suc j) = maxes_at most row j

-- rows from top to bottom: in each column the largest so far
unfoldable pub down : List ℕ → List (List ℕ) → List (List ℕ)
down most [] = []
down most (row ∷ rest) = let m = maxes most row in m ∷ down m rest

down_at : (most : List ℕ) (rows : List (List ℕ)) (other : List ℕ) (i j : ℕ) → i < length rows
    → get_or (get_or (down most rows) i other) j 0 ≡ max (get_or most j 0) (largest (take (suc i) (map (λ row. get_or row j 0) rows)))
unfolding down largest
down_at most [] other i j h = absurd (not-suc-le-zero h)
down_at most (row ∷ rest) other zero j h = omega (arith, maxes_at most row j)
down_at most (row ∷ rest) other (suc i) j h =
    let ih = down_at (maxes most row) rest other i j (le_of_suc-le-suc h) in
    omega (arith, ih, maxes_at most row j)

-- a table of rows and columns
unfoldable pub grid_in_use : List (List Mark) → List (List ℕ)
unfolding down maxes from_right distance
grid_in_use rows = down [] (map (λ row. from_right (map distance row)) rows)

columns_at : (rows : List (List Mark)) (j : ℕ)
    → map (λ row. get_or row j 0) (map (λ row. from_right (map distance row)) rows) ≡ from_column j rows
unfolding from_column
columns_at [] j = refl
columns_at (row ∷ rest) j = rw (right_at (map distance row) j, columns_at rest j)

pub grid_at : (rows : List (List Mark)) (other : List ℕ) (i j : ℕ) → i < length rows → get_or (get_or (grid_in_use rows) i other) j 0 ≡ in_use (from_column j rows) i
unfolding grid_in_use in_use
grid_at rows other i j h =
    down_at [] (map (λ row. from_right (map distance row)) rows) other i j (rw (length-map rows (λ row. from_right (map distance row))) h)
    ∙ zero-max (largest (take (suc i) (map (λ row. get_or row j 0) (map (λ row. from_right (map distance row)) rows))))
    ∙ ap (λ entries. largest (take (suc i) entries)) (columns_at rows j)
