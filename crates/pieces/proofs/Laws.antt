-- What callers use of the pieces instead of their text: the first piece is what stands before the first separator, and pieces
-- that are put together come apart as they were.
-- Assumes nothing.
use Rattle.std.specs.Prelude.{ℕ, suc, ◌+◌, ◌≤◌, ◌<◌, ◌≡◌, refl, List, [], ◌∷◌, ◌++◌, Bool, true, false, eqb, length, take, drop}
use Rattle.std.proofs.Common.{zero-le, suc-le-suc, le_of_suc-le-suc, not-suc-le-zero, arith, ap, ap₂, ◌∙◌, length-append, eq-eqb, ne_eqb, eqb-true}
use Rattle.std.proofs.lemmas.Bool.{eqb-false}
use Rattle.std.proofs.lemmas.List.{drop_all}
use Rattle.pieces.specs.Pieces.{in_front, pieces, closed, before, Without, EachWithout}

-- ---- the two ways of a byte

pub before_stop : (x b : ℕ) (rest : List ℕ) → b ≡ x → before x (b ∷ rest) ≡ []
unfolding before
before_stop x b rest e = rw (eq-eqb b x e, before)

pub before_on : (x b : ℕ) (rest : List ℕ) → (b ≡ x → ⊥) → before x (b ∷ rest) ≡ b ∷ before x rest
unfolding before
before_on x b rest n = rw (ne_eqb b x n, before)

pieces_stop : (x b : ℕ) (last : List (List ℕ)) (rest : List ℕ) → b ≡ x → pieces x last (b ∷ rest) ≡ [] ∷ pieces x last rest
unfolding pieces
pieces_stop x b last rest e = rw (eq-eqb b x e, pieces)

pieces_on : (x b : ℕ) (last : List (List ℕ)) (rest : List ℕ) → (b ≡ x → ⊥) → pieces x last (b ∷ rest) ≡ in_front b (pieces x last rest)
unfolding pieces
pieces_on x b last rest n = rw (ne_eqb b x n, pieces)

-- the length of the first piece, where a walk stands
pub before_none : (x : ℕ) → length (before x []) ≡ 0
unfolding before
before_none x = refl

-- past the end of a text no piece starts
pub beyond : (x at : ℕ) (s : List ℕ) → length s ≤ at → length (before x (drop at s)) ≡ 0
beyond x at s h = rw (drop_all at s h) (before_none x)

-- ---- the first piece

pub before_within : (x : ℕ) (s : List ℕ) → length (before x s) ≤ length s
unfolding before
before_within x [] = zero-le
before_within x (b ∷ rest) = go (eqb b x) refl (before_within x rest)
  where
    go : (t : Bool) → eqb b x ≡ t → length (before x rest) ≤ length rest → length (before x (b ∷ rest)) ≤ suc (length rest)
    go true e ih = rw (before_stop x b rest (eqb-true b x e)) zero-le
    go false e ih = rw (before_on x b rest (eqb-false b x e)) (suc-le-suc ih)

-- it is the beginning of the text
pub before_take : (x : ℕ) (s : List ℕ) → take (length (before x s)) s ≡ before x s
unfolding before
before_take x [] = refl
before_take x (b ∷ rest) = go (eqb b x) refl (before_take x rest)
  where
    go : (t : Bool) → eqb b x ≡ t → take (length (before x rest)) rest ≡ before x rest → take (length (before x (b ∷ rest))) (b ∷ rest) ≡ before x (b ∷ rest)
    go true e ih = rw (before_stop x b rest (eqb-true b x e))
    go false e ih = rw (before_on x b rest (eqb-false b x e)) (ap (λ (l : List ℕ). b ∷ l) ih)

-- what stands behind it
abbrev pub behind : ℕ → List ℕ → List ℕ
behind x s = drop (suc (length (before x s))) s

-- where a separator ends the first piece
pub pieces_more : (x : ℕ) (last : List (List ℕ)) (s : List ℕ) → length (before x s) < length s → pieces x last s ≡ before x s ∷ pieces x last (behind x s)
pieces_more x last [] h = absurd (not-suc-le-zero h)
pieces_more x last (b ∷ rest) h = go (eqb b x) refl (pieces_more x last rest)
  where
    go : (t : Bool) → eqb b x ≡ t → (length (before x rest) < length rest → pieces x last rest ≡ before x rest ∷ pieces x last (behind x rest)) → pieces x last (b ∷ rest) ≡ before x (b ∷ rest) ∷ pieces x last (behind x (b ∷ rest))
    go true e ih = let q = eqb-true b x e in rw (before_stop x b rest q) (pieces_stop x b last rest q)
    go false e ih =
        let q = eqb-false b x e in
        let l : length (before x rest) < length rest = le_of_suc-le-suc (rw (before_on x b rest q) at h) in
        rw (before_on x b rest q) (pieces_on x b last rest q ∙ ap (in_front b) (ih l))

-- where none does, the piece is the whole text: the last field, which may be empty
pub pieces_last : (x : ℕ) (s : List ℕ) → length s ≤ length (before x s) → pieces x ([] ∷ []) s ≡ s ∷ []
unfolding pieces
pieces_last x [] h = refl
pieces_last x (b ∷ rest) h = go (eqb b x) refl (pieces_last x rest)
  where
    go : (t : Bool) → eqb b x ≡ t → (length rest ≤ length (before x rest) → pieces x ([] ∷ []) rest ≡ rest ∷ []) → pieces x ([] ∷ []) (b ∷ rest) ≡ (b ∷ rest) ∷ []
    go true e ih = absurd (not-suc-le-zero (rw (before_stop x b rest (eqb-true b x e)) at h))
    go false e ih =
        let q = eqb-false b x e in
        let l : length rest ≤ length (before x rest) = le_of_suc-le-suc (rw (before_on x b rest q) at h) in
        pieces_on x b ([] ∷ []) rest q ∙ ap (in_front b) (ih l)

-- Lines: whether or not a line feed ends the last line, the first line is what stands before the first line feed, and the
-- others are the lines of what stands behind it.
pub pieces_line : (x : ℕ) (s : List ℕ) → 0 < length s → pieces x [] s ≡ before x s ∷ pieces x [] (behind x s)
unfolding pieces before
pieces_line x [] h = absurd (not-suc-le-zero h)
pieces_line x (b ∷ rest) h = go (eqb b x) refl (pieces_line x rest)
  where
    on : (r : List ℕ) → (0 < length r → pieces x [] r ≡ before x r ∷ pieces x [] (behind x r)) → in_front b (pieces x [] r) ≡ (b ∷ before x r) ∷ pieces x [] (behind x r)
    on [] ih = refl
    on (c ∷ r) ih = ap (in_front b) (ih (suc-le-suc zero-le))

    go : (t : Bool) → eqb b x ≡ t → (0 < length rest → pieces x [] rest ≡ before x rest ∷ pieces x [] (behind x rest)) → pieces x [] (b ∷ rest) ≡ before x (b ∷ rest) ∷ pieces x [] (behind x (b ∷ rest))
    go true e ih = let q = eqb-true b x e in rw (before_stop x b rest q) (pieces_stop x b [] rest q)
    go false e ih =
        let q = eqb-false b x e in rw (before_on x b rest q) (pieces_on x b [] rest q ∙ on rest ih)

-- ---- put together and taken apart

drop_behind : (x : ℕ) (p rest : List ℕ) → drop (suc (length p)) (p ++ (x ∷ rest)) ≡ rest
drop_behind x [] rest = refl
drop_behind x (b ∷ p) rest = drop_behind x p rest

without_before : (x : ℕ) (p rest : List ℕ) → Without x p → before x (p ++ (x ∷ rest)) ≡ p
without_before x [] rest w = before_stop x x rest refl
without_before x (b ∷ p) rest w = before_on x b (p ++ (x ∷ rest)) w.0 ∙ ap (λ (l : List ℕ). b ∷ l) (without_before x p rest w.1)

-- the pieces of a text that was put together are those that it was put together from
pub pieces_closed : (x : ℕ) (last ps : List (List ℕ)) → EachWithout x ps → pieces x last (closed x ps) ≡ ps ++ last
unfolding pieces closed
pieces_closed x last [] w = refl
pieces_closed x last (p ∷ ps) w =
    let text = p ++ (x ∷ closed x ps) in
    let first : before x text ≡ p = without_before x p (closed x ps) w.0 in
    let long : length text ≡ length p + suc (length (closed x ps)) = length-append p (x ∷ closed x ps) in
    let there : length (before x text) < length text = rw first (omega arith) in
    let beyond : behind x text ≡ closed x ps = rw first (drop_behind x p (closed x ps)) in
    pieces_more x last text there ∙ ap₂ (λ (a : List ℕ) (b : List ℕ). a ∷ pieces x last b) first beyond
    ∙ ap (λ (l : List (List ℕ)). p ∷ l) (pieces_closed x last ps w.1)
