-- What other layers use of areas instead of their text.
-- Assumes nothing.
use Rattle.std.specs.Prelude.{ℕ, ◌+◌, ◌-◌, ◌*◌, ◌/◌, ◌≤◌, ◌<◌, ◌^◌, min, ◌≡◌, refl, Bool, true, false, leb}
use Rattle.std.proofs.Common.{le_refl, mul-le-mul, mul-le-mul_left, mul-le-mul_right, arith, leb-true, leb-false}
use Rattle.std.proofs.Math.Nat.{le-pred_of_lt}
use Rattle.release.specs.declared.Containment.{Containment}
use Rattle.release.specs.declared.Containment.TheVariants.{Open, Dike, Building, ShedWithDoors}
use Rattle.pool_area.specs.Pool.{full_area, diked_area, pool_area, held, spilt}
use Rattle.pool_area.specs.Laws.{Looser, building_building, dike_dike, open_open, shed_shed}

-- the closed form of a dike's pool, with nothing left of its cases
abbrev pub closed_form : ℕ → ℕ → ℕ → ℕ
closed_form full area wall = min full (area + (full - held area wall / 33))

-- the paper's three cases are the closed form
pub diked_closed : (full area wall : ℕ) → diked_area full area wall ≡ closed_form full area wall
unfolding diked_area
diked_closed full area wall = go (leb full area) refl (leb (spilt full) (held area wall)) refl
  where
    go : (s : Bool) → leb full area ≡ s → (t : Bool) → leb (spilt full) (held area wall) ≡ t → diked_area full area wall ≡ closed_form full area wall
    go true p t q = let h : full ≤ area = leb-true full area p in simp (p, diked_area) (omega arith)
    go false p true q =
        let h : area < full = leb-false full area p in
        let k : spilt full ≤ held area wall = leb-true (spilt full) (held area wall) q in
        simp (p, q, diked_area) (omega arith)
    go false p false q =
        let h : area < full = leb-false full area p in
        let k : held area wall < spilt full = leb-false (spilt full) (held area wall) q in
        simp (p, q, diked_area) (omega arith)

-- a pool never covers more than its full area
pub area_full : (pounds df : ℕ) (c : Containment) → pool_area pounds df c ≤ full_area pounds df
area_full pounds df Open = le_refl (full_area pounds df)
area_full pounds df (Dike d) = rw (diked_closed (full_area pounds df) d.area.0 d.wall) (omega arith)
area_full pounds df (Building b) = omega arith
area_full pounds df (ShedWithDoors s) = omega arith

-- the products fit: by the widths of a card's pounds and of DF
pub full_below : (pounds df : ℕ) → pounds < 2 ^ 32 → df < 2 ^ 8 → full_area pounds df < 2 ^ 40
full_below pounds df p d =
    let h : pounds * df ≤ pounds * 255 = mul-le-mul_left pounds (le-pred_of_lt d) in omega arith

pub held_below : (area wall : ℕ) → area < 2 ^ 40 → wall < 2 ^ 16 → area * wall < 2 ^ 56
held_below area wall a w =
    let h : area * wall ≤ area * 65535 = mul-le-mul_left area (le-pred_of_lt w) in omega arith

closed_mono : (full more area wall low : ℕ) → full ≤ more → low ≤ wall → closed_form full area wall ≤ closed_form more area low
closed_mono full more area wall low f w =
    let h : area * low ≤ area * wall = mul-le-mul_left area w in omega arith

-- a fuller or less walled vessel never has the smaller pool
pub area_mono : (df : ℕ) {p q : ℕ} {c e : Containment} → p ≤ q → Looser c e → pool_area p df c ≤ pool_area q df e
area_mono df h open_open = mul-le-mul_right df h
area_mono df {p} {q} h (dike_dike d e a w) =
    rw (diked_closed (full_area p df) d.area.0 d.wall, diked_closed (full_area q df) e.area.0 e.wall, ← a)
    (closed_mono (full_area p df) (full_area q df) d.area.0 d.wall e.wall (mul-le-mul_right df h) w)
area_mono df {p} {q} h (building_building b e f) =
    let g : full_area p df ≤ full_area q df = mul-le-mul_right df h in omega arith
area_mono df {p} {q} h (shed_shed s e f) =
    let g : full_area p df ≤ full_area q df = mul-le-mul_right df h in omega arith

-- at document 01's limits a pool's area is one that `pool_rate` takes
pub area_limit : (df : ℕ) {p : ℕ} (c : Containment) → p ≤ 10_000_000 → df ≤ 200 → pool_area p df c ≤ 2_600_000_000
area_limit df {p} c l d =
    let h : p * df ≤ 10_000_000 * 200 = mul-le-mul l d in omega (arith, area_full p df c)
