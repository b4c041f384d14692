-- What callers use of the search instead of its text: where it ends, what stands at its answer, and that a larger number is
-- never found earlier. Each holds of any list.
-- Assumes nothing.
use Rattle.std.specs.Prelude.{ℕ, zero, suc, ◌≤◌, ◌<◌, ◌≡◌, refl, List, [], ◌∷◌, Bool, true, false, ◌⊎◌, T, leb, length, get_or}
use Rattle.std.proofs.Common.{zero-le, suc-le-suc, le_trans, le_of_suc-le-suc, not-suc-le-zero, arith, ap, subst, sym, inl, inr, ⊎_elim, le-leb, leb-true}
use Rattle.std.proofs.lemmas.Bool.{lt-leb}
use Rattle.search.specs.Rising.{first_at_least, both, rises, rises_from}

-- 0 is not 1: how a case that cannot be is left
pub clash : {A : Type 0} → ◌≡◌ {A = ℕ} 0 1 → A
clash z = absurd (omega arith)

-- of two numbers the first is smaller, or the second is not larger
pub lt_or_ge : (a b : ℕ) → (a < b) ⊎ (b ≤ a)
lt_or_ge a zero = inr zero-le
lt_or_ge zero (suc b) = inl (suc-le-suc zero-le)
lt_or_ge (suc a) (suc b) = ⊎_elim (λ p. inl (suc-le-suc p)) (λ q. inr (suc-le-suc q)) (lt_or_ge a b)

-- the two ways of the walk
pub first_here : (x a : ℕ) (rest : List ℕ) → x ≤ a → first_at_least x (a ∷ rest) ≡ 0
unfolding first_at_least
first_here x a rest h = rw (le-leb x a h, first_at_least)

pub first_on : (x a : ℕ) (rest : List ℕ) → a < x → first_at_least x (a ∷ rest) ≡ suc (first_at_least x rest)
unfolding first_at_least
first_on x a rest h = rw (lt-leb x a h, first_at_least)

-- the one place with smaller entries before it, and itself at least x or the end
pub first_unique : (xs : List ℕ) (x i : ℕ) → i ≤ length xs → ((k : ℕ) → k < i → get_or xs k 0 < x) → (i < length xs → x ≤ get_or xs i 0) → first_at_least x xs ≡ i
unfolding first_at_least
first_unique [] x zero h below here = refl
first_unique [] x (suc i) h below here = absurd (not-suc-le-zero h)
first_unique (a ∷ rest) x zero h below here = first_here x a rest (here (suc-le-suc zero-le))
first_unique (a ∷ rest) x (suc i) h below here =
    rw (first_on x a rest (below 0 (suc-le-suc zero-le)))
    (ap suc (first_unique rest x i (le_of_suc-le-suc h) (λ k l. below (suc k) (suc-le-suc l)) (λ l. here (suc-le-suc l))))

-- it never runs past the end
pub first_within : (x : ℕ) (xs : List ℕ) → first_at_least x xs ≤ length xs
unfolding first_at_least
first_within x [] = zero-le
first_within x (a ∷ rest) =
    let ih : first_at_least x rest ≤ length rest = first_within x rest in
    ⊎_elim (λ (l : a < x). rw (first_on x a rest l) (suc-le-suc ih)) (λ (l : x ≤ a). rw (first_here x a rest l) zero-le) (lt_or_ge a x)

-- where it ends within the list, the entry there is at least x
pub first_reaches : (x : ℕ) (xs : List ℕ) → first_at_least x xs < length xs → x ≤ get_or xs (first_at_least x xs) 0
unfolding first_at_least
first_reaches x [] h = absurd (not-suc-le-zero h)
first_reaches x (a ∷ rest) h =
    let ih : first_at_least x rest < length rest → x ≤ get_or rest (first_at_least x rest) 0 = first_reaches x rest in
    ⊎_elim
    (λ (l : a < x). rw (first_on x a rest l) (ih (le_of_suc-le-suc (rw (first_on x a rest l) at h))))
    (λ (l : x ≤ a). rw (first_here x a rest l) l)
    (lt_or_ge a x)

-- a larger number is never found earlier
pub first_mono : (x y : ℕ) (xs : List ℕ) → x ≤ y → first_at_least x xs ≤ first_at_least y xs
unfolding first_at_least
first_mono x y [] h = zero-le
first_mono x y (a ∷ rest) h =
    let ih : first_at_least x rest ≤ first_at_least y rest = first_mono x y rest h in
    ⊎_elim
    (λ (l : a < x). rw (first_on x a rest l, first_on y a rest (le_trans l h)) (suc-le-suc ih))
    (λ (l : x ≤ a). rw (first_here x a rest l) zero-le)
    (lt_or_ge a x)

-- both tests pass exactly where each does
pub both_true : (s t : Bool) → both s t ≡ true → (s ≡ true) × (t ≡ true)
both_true true t e = (refl, e)
both_true false t e = (e, absurd (subst T (sym e) tt))

-- no entry is below the number that the list rises from
rises_above : (a : ℕ) (xs : List ℕ) → rises_from a xs ≡ true → (j : ℕ) → j < length xs → a ≤ get_or xs j 0
rises_above a [] e j h = absurd (not-suc-le-zero h)
rises_above a (b ∷ rest) e zero h = leb-true a b (both_true (leb a b) (rises_from b rest) e).0
rises_above a (b ∷ rest) e (suc j) h =
    le_trans (leb-true a b (both_true (leb a b) (rises_from b rest) e).0) (rises_above b rest (both_true (leb a b) (rises_from b rest) e).1 j (le_of_suc-le-suc h))

rising_from : (a : ℕ) (xs : List ℕ) → rises_from a xs ≡ true → (i j : ℕ) → i ≤ j → j < length xs → get_or xs i 0 ≤ get_or xs j 0
rising_from a [] e i j l h = absurd (not-suc-le-zero h)
rising_from a (b ∷ rest) e zero zero l h = omega arith
rising_from a (b ∷ rest) e zero (suc j) l h = rises_above b rest (both_true (leb a b) (rises_from b rest) e).1 j (le_of_suc-le-suc h)
rising_from a (b ∷ rest) e (suc i) zero l h = absurd (not-suc-le-zero l)
rising_from a (b ∷ rest) e (suc i) (suc j) l h =
    rising_from b rest (both_true (leb a b) (rises_from b rest) e).1 i j (le_of_suc-le-suc l) (le_of_suc-le-suc h)

-- what the test of a rising list says of any two places
pub rising : (xs : List ℕ) → rises xs ≡ true → (i j : ℕ) → i ≤ j → j < length xs → get_or xs i 0 ≤ get_or xs j 0
rising xs e = rising_from 0 xs e
