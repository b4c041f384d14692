-- What other layers use of rates instead of their text.
-- Assumes nothing.
use Rattle.std.specs.Prelude.{ℕ, ◌*◌, ◌≤◌, ◌<◌, ◌≡◌, Bool, true, false, leb}
use Rattle.std.proofs.Common.{mul-le-mul, mul-le-mul_left, arith, ⊎_elim, le-leb}
use Rattle.std.proofs.lemmas.Bool.{lt-leb}
use Rattle.search.specs.Laws.{lt_or_ge}
use Rattle.release.specs.Rates.{gas_rate, pool_rate, at_most_ten_minutes}

-- the products fit at document 01's limits
pub product_below : (lf tcf area : ℕ) → lf ≤ 1_000_000 → tcf ≤ 1_000 → area ≤ 2_600_000_000 → (lf * tcf ≤ 1_000_000_000) × (lf * tcf * area ≤ 2_600_000_000_000_000_000)
product_below lf tcf area l t a =
    let h : lf * tcf ≤ 1_000_000 * 1_000 = mul-le-mul l t in
    let k : lf * tcf * area ≤ 1_000_000_000 * 2_600_000_000 = mul-le-mul h a in
    (h, k)

-- ten minutes, as the code compares it
pub ten_minutes : (pounds rate : ℕ) → leb (100 * pounds) rate ≡ at_most_ten_minutes pounds rate
unfolding at_most_ten_minutes
ten_minutes pounds rate =
    ⊎_elim
    (λ (l : rate < 100 * pounds). rw (lt-leb (100 * pounds) rate l, lt-leb (1000 * pounds) (10 * rate) (omega arith)))
    (λ (l : 100 * pounds ≤ rate). rw (le-leb (100 * pounds) rate l, le-leb (1000 * pounds) (10 * rate) (omega arith)))
    (lt_or_ge rate (100 * pounds))

-- a fuller vessel never lets the gas go slower
pub gas_mono : (inside : Bool) {p q : ℕ} → p ≤ q → gas_rate p inside ≤ gas_rate q inside
gas_mono false h = omega arith
gas_mono true h = omega arith

-- a larger pool never evaporates slower
pub pool_mono : (lf tcf : ℕ) (shed : Bool) {a b : ℕ} → a ≤ b → pool_rate lf tcf a shed ≤ pool_rate lf tcf b shed
unfolding pool_rate
pool_mono lf tcf false {a} {b} h = let k : lf * tcf * a ≤ lf * tcf * b = mul-le-mul_left (lf * tcf) h in omega arith
pool_mono lf tcf true {a} {b} h = let k : lf * tcf * a ≤ lf * tcf * b = mul-le-mul_left (lf * tcf) h in omega arith
