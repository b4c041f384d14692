-- What other crates use of a blast instead of its text: a fuller tank of one substance never draws the smaller ring. That the ring is the
-- least number of metres that satisfies the inequality, and the only such number, is `exactly_one`.
-- Assumes nothing.
use Rattle.std.specs.Prelude.{ℕ, zero, suc, ◌+◌, ◌*◌, ◌≤◌, ◌<◌, ◌≡◌, refl, Bool, true, false, Option, Some, None}
use Rattle.std.proofs.Common.{zero-le, suc-le-suc, le_trans, mul-le-mul, mul-le-mul_left, mul-le-mul_right, arith, ap, ◌∙◌, ⊎_elim, leb-true, leb-false, le-leb}
use Rattle.search.specs.Laws.{lt_or_ge}
use Rattle.combustion.specs.Heats.{heat_of}
use Rattle.blast.specs.Blast.{Enough, Least, enough, first_from, metres_of, ring_by, ring_of}

-- the test passes at what is found, where it passes at the last number that is looked at
first_passes : (test : ℕ → Bool) (further d : ℕ) → test (d + further) ≡ true → test (first_from test further d) ≡ true
unfolding first_from
first_passes test zero d e = let z : d ≡ d + 0 = omega arith in ap test z ∙ e
first_passes test (suc further) d e =
    let z : suc d + further ≡ d + suc further = omega arith in
    go (test d) refl (first_passes test further (suc d) (ap test z ∙ e))
  where
    go : (b : Bool) → test d ≡ b → test (first_from test further (suc d)) ≡ true → test (elim b as (λ _. ℕ) [ true ↦ d | false ↦ first_from test further (suc d) ]) ≡ true
    go true p later = p
    go false p later = later

-- and at no number before it
first_earlier : (test : ℕ → Bool) (further d e : ℕ) → d ≤ e → e < first_from test further d → test e ≡ false
unfolding first_from
first_earlier test zero d e h l = absurd (omega arith)
first_earlier test (suc further) d e h l = go (test d) refl (λ k q. first_earlier test further (suc d) e k q) l
  where
    go : (b : Bool) → test d ≡ b → (d < e → e < first_from test further (suc d) → test e ≡ false) → e < (elim b as (λ _. ℕ) [ true ↦ d | false ↦ first_from test further (suc d) ]) → test e ≡ false
    go true p later q = absurd (omega arith)
    go false p later q =
        ⊎_elim (λ (k : d < e). later k q) (λ (k : e ≤ d). let z : e ≡ d = omega arith in ap test z ∙ p) (lt_or_ge d e)

-- more metres reach no less
pub cube_mono : {d e : ℕ} → d ≤ e → d * d * d * 102_960 ≤ e * e * e * 102_960
cube_mono h = mul-le-mul_right 102_960 (mul-le-mul (mul-le-mul h h) h)

-- a number is enough for itself
own_cube : (n : ℕ) → n ≤ n * n * n * 102_960
own_cube zero = zero-le
own_cube (suc n) =
    let one : 1 ≤ suc n = suc-le-suc zero-le in
    let square : suc n * 1 ≤ suc n * suc n = mul-le-mul_left (suc n) one in
    let cube : suc n * suc n * 1 ≤ suc n * suc n * suc n = mul-le-mul_left (suc n * suc n) one in
    omega (arith, square, cube)

pub is_least : (pounds hc : ℕ) → Least pounds hc (metres_of pounds hc)
unfolding metres_of
is_least pounds hc =
    let need : ℕ = 4_913 * pounds * hc in
    let whole : 0 + need ≡ need = omega arith in
    let last : enough pounds hc (0 + need) ≡ true = ap (enough pounds hc) whole ∙ le-leb need (need * need * need * 102_960) (own_cube need) in
    record {
      enough = leb-true _ _ (first_passes (enough pounds hc) need 0 last);
      no_smaller =
          λ e h q. absurd (omega (arith, q, leb-false need (e * e * e * 102_960) (first_earlier (enough pounds hc) need 0 e zero-le h)));
    }

pub only_least : {pounds hc d : ℕ} → Least pounds hc d → d ≡ metres_of pounds hc
only_least {pounds} {hc} {d} l =
    let m = metres_of pounds hc in
    let i = is_least pounds hc in
    ⊎_elim (λ (k : d < m). absurd (i.no_smaller d k l.enough))
    (λ (k : m ≤ d).
    ⊎_elim (λ (s : m < d). absurd (l.no_smaller m s i.enough)) (λ (s : d ≤ m). omega arith) (lt_or_ge m d))
    (lt_or_ge d m)

-- "the least whole number of metres D": there is exactly one
pub exactly_one : (pounds hc : ℕ) → (d : ℕ) × Least pounds hc d × ((e : ℕ) → Least pounds hc e → e ≡ d)
exactly_one pounds hc = (metres_of pounds hc, is_least pounds hc, λ e l. only_least l)

-- ---- a fuller tank

pub metres_mono : (hc p q : ℕ) → p ≤ q → metres_of p hc ≤ metres_of q hc
metres_mono hc p q h =
    ⊎_elim (λ (k : metres_of q hc < metres_of p hc).
    absurd ((is_least p hc).no_smaller (metres_of q hc) k (le_trans (mul-le-mul_right hc (mul-le-mul_left 4_913 h)) (is_least q hc).enough)))
    (λ k. k)
    (lt_or_ge (metres_of q hc) (metres_of p hc))

-- "A fuller tank of one substance still never draws the smaller ring, now by the equation"
pub fuller_no_smaller : (cas p q : ℕ) → p ≤ q → (ring_of cas p).0 ≤ (ring_of cas q).0
unfolding ring_of
fuller_no_smaller cas p q h = go (heat_of cas)
  where
    go : (heat : Option ℕ) → (ring_by p heat).0 ≤ (ring_by q heat).0
    go None = zero-le
    go (Some hc) = let k = metres_mono hc p q h in omega arith
