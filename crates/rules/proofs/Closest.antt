-- The closest row is the closest, with its rule at a midpoint, and cut points say the same. Each law holds of any list of
-- numbers that rises, and of both rules: `tie` is `larger` or `smaller`.
-- Assumes nothing.
use Rattle.std.specs.Prelude.{ℕ, zero, suc, ◌+◌, ◌-◌, ◌/◌, ◌≤◌, ◌<◌, ◌≡◌, refl, List, [], ◌∷◌, true, ◌⊎◌, ltb, length, get_or}
use Rattle.std.proofs.Common.{le_trans, le_of_suc-le-suc, not-suc-le-zero, eq-zero-or-pos, arith, ap, sym, ◌∙◌, inl, inr, ⊎_elim, le-leb, ltb-true}
use Rattle.std.proofs.lemmas.Bool.{lt-leb}
use Rattle.search.specs.Rising.{first_at_least}
use Rattle.search.specs.Laws.{lt_or_ge, first_here, first_on, both_true}
use Rattle.rules.specs.Rules.{apart, closest, closest_from}
use Rattle.rules.specs.Cuts.{cuts, cuts_from, climbs, climbs_from}

-- the two ways of the walk to the closest
closest_here : (tie x a b : ℕ) (rest : List ℕ) → apart x a + tie ≤ apart x b → closest_from tie x a (b ∷ rest) ≡ 0
unfolding closest_from
closest_here tie x a b rest h = rw (le-leb (apart x a + tie) (apart x b) h, closest_from)

closest_on : (tie x a b : ℕ) (rest : List ℕ) → apart x b < apart x a + tie
    → closest_from tie x a (b ∷ rest) ≡ suc (closest_from tie x b rest)
unfolding closest_from
closest_on tie x a b rest h = rw (lt-leb (apart x a + tie) (apart x b) h, closest_from)

-- a rising list goes on above its first number
climbs_above : (a : ℕ) (rest : List ℕ) → climbs_from a rest ≡ true → (k : ℕ) → k < length rest → a < get_or rest k 0
unfolding climbs_from
climbs_above a [] e k h = absurd (not-suc-le-zero h)
climbs_above a (b ∷ rest) e zero h = ltb-true a b (both_true (ltb a b) (climbs_from b rest) e).0
climbs_above a (b ∷ rest) e (suc k) h =
    let l : a < b = ltb-true a b (both_true (ltb a b) (climbs_from b rest) e).0 in
    let ih : b < get_or rest k 0 = climbs_above b rest (both_true (ltb a b) (climbs_from b rest) e).1 k (le_of_suc-le-suc h) in
    omega arith

-- cut points mean closest: below or at the cut point between two neighbours the smaller is read, above it the larger
cut_means : (tie x a b : ℕ) → tie ≤ 1 → a < b → x ≤ (a + b - tie) / 2 → apart x a + tie ≤ apart x b
unfolding apart
cut_means tie x a b t l h = omega arith

cut_beyond : (tie x a b : ℕ) → tie ≤ 1 → a < b → (a + b - tie) / 2 < x → apart x b < apart x a + tie
unfolding apart
cut_beyond tie x a b t l h = omega arith

cut_from : (tie x a : ℕ) (rest : List ℕ) → tie ≤ 1 → climbs_from a rest ≡ true
    → closest_from tie x a rest ≡ first_at_least x (cuts_from tie a rest)
unfolding climbs_from closest_from cuts_from first_at_least
cut_from tie x a [] t e = refl
cut_from tie x a (b ∷ rest) t e =
    let l : a < b = ltb-true a b (both_true (ltb a b) (climbs_from b rest) e).0 in
    let ih : closest_from tie x b rest ≡ first_at_least x (cuts_from tie b rest) =
    cut_from tie x b rest t (both_true (ltb a b) (climbs_from b rest) e).1 in
    ⊎_elim
    (λ (h : (a + b - tie) / 2 < x).
    closest_on tie x a b rest (cut_beyond tie x a b t l h)
    ∙ ap suc ih
    ∙ sym (first_on x ((a + b - tie) / 2) (cuts_from tie b rest) h))
    (λ (h : x ≤ (a + b - tie) / 2).
    closest_here tie x a b rest (cut_means tie x a b t l h)
    ∙ sym (first_here x ((a + b - tie) / 2) (cuts_from tie b rest) h))
    (lt_or_ge ((a + b - tie) / 2) x)

pub closest_by_cuts : (tie x : ℕ) (xs : List ℕ) → tie ≤ 1 → climbs xs ≡ true → closest tie x xs ≡ first_at_least x (cuts tie xs)
unfolding climbs closest cuts first_at_least
closest_by_cuts tie x [] t e = refl
closest_by_cuts tie x (a ∷ rest) t e = cut_from tie x a rest t e

-- what it is to be read at a place: each number behind it lies at least as far and, where the larger is read at a midpoint,
-- farther; each before it at least as far and, where the smaller is read, farther
unfoldable pub Nearest : ℕ → ℕ → List ℕ → ℕ → Type 0
Nearest tie x xs place =
    ((k : ℕ) → place < k → k < length xs → apart x (get_or xs place 0) + tie ≤ apart x (get_or xs k 0))
    × ((k : ℕ) → k < place → apart x (get_or xs place 0) + (1 - tie) ≤ apart x (get_or xs k 0))

-- the walk stays: every later number lies beyond the neighbour, and the cut point says that this one is far enough
near_here : (tie x a b : ℕ) (rest : List ℕ) → tie ≤ 1 → climbs_from b rest ≡ true → a < b → x ≤ (a + b - tie) / 2
    → Nearest tie x (a ∷ b ∷ rest) 0
unfolding Nearest apart
near_here tie x a b rest t e l h = (λ k. behind k, λ k j. absurd (not-suc-le-zero j))
  where
    behind : (k : ℕ) → 0 < k → k < suc (suc (length rest)) → (x - a) + (a - x) + tie ≤ (x - get_or (a ∷ b ∷ rest) k 0) + (get_or (a ∷ b ∷ rest) k 0 - x)
    behind zero p q = absurd (not-suc-le-zero p)
    behind (suc zero) p q = omega arith
    behind (suc (suc k)) p q =
        let f : b < get_or rest k 0 = climbs_above b rest e k (le_of_suc-le-suc (le_of_suc-le-suc q)) in
        omega arith

-- the walk goes on: what holds behind holds here, and the number left behind is not closer
near_on : (tie x a b p : ℕ) (rest : List ℕ) → tie ≤ 1 → apart x b < apart x a + tie → Nearest tie x (b ∷ rest) p
    → Nearest tie x (a ∷ b ∷ rest) (suc p)
unfolding Nearest
near_on tie x a b p rest t h ih = (λ k. behind k, λ k. before k)
  where
    behind : (k : ℕ) → suc p < k → k < suc (suc (length rest)) → apart x (get_or (b ∷ rest) p 0) + tie ≤ apart x (get_or (a ∷ b ∷ rest) k 0)
    behind zero j q = absurd (not-suc-le-zero j)
    behind (suc k) j q = ih.0 k (le_of_suc-le-suc j) (le_of_suc-le-suc q)

    first : (p ≡ 0) ⊎ (0 < p) → apart x (get_or (b ∷ rest) p 0) + (1 - tie) ≤ apart x a
    first (inl z) = rw z (omega arith)
    first (inr z) = omega (arith, ih.1 0 z)

    before : (k : ℕ) → k < suc p → apart x (get_or (b ∷ rest) p 0) + (1 - tie) ≤ apart x (get_or (a ∷ b ∷ rest) k 0)
    before zero j = first (eq-zero-or-pos p)
    before (suc k) j = ih.1 k (le_of_suc-le-suc j)

nearest_from : (tie x a : ℕ) (rest : List ℕ) → tie ≤ 1 → climbs_from a rest ≡ true → Nearest tie x (a ∷ rest) (closest_from tie x a rest)
unfolding climbs_from closest_from
nearest_from tie x a [] t e = unfold Nearest in (λ k p q. absurd (not-suc-le-zero (le_trans p (le_of_suc-le-suc q))), λ k j. absurd (not-suc-le-zero j))
nearest_from tie x a (b ∷ rest) t e =
    let l : a < b = ltb-true a b (both_true (ltb a b) (climbs_from b rest) e).0 in
    let f : climbs_from b rest ≡ true = (both_true (ltb a b) (climbs_from b rest) e).1 in
    let ih : Nearest tie x (b ∷ rest) (closest_from tie x b rest) = nearest_from tie x b rest t f in
    ⊎_elim
    (λ (h : (a + b - tie) / 2 < x).
    rw (closest_on tie x a b rest (cut_beyond tie x a b t l h))
    (near_on tie x a b (closest_from tie x b rest) rest t (cut_beyond tie x a b t l h) ih))
    (λ (h : x ≤ (a + b - tie) / 2).
    rw (closest_here tie x a b rest (cut_means tie x a b t l h)) (near_here tie x a b rest t f l h))
    (lt_or_ge ((a + b - tie) / 2) x)

-- the closest is the closest, with its rule at a midpoint
pub closest_nearest : (tie x : ℕ) (xs : List ℕ) → tie ≤ 1 → climbs xs ≡ true → 0 < length xs → Nearest tie x xs (closest tie x xs)
unfolding climbs closest
closest_nearest tie x [] t e h = absurd (not-suc-le-zero h)
closest_nearest tie x (a ∷ rest) t e h = nearest_from tie x a rest t e
