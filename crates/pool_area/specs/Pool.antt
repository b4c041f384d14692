-- Pool area, as document 01 gives it. Pounds are whole, areas are hundredths of a square foot; DF is in hundredths, a wall in
-- hundredths of a foot.
-- Assumes nothing.
use Rattle.std.specs.Prelude.{ℕ, ◌+◌, ◌-◌, ◌*◌, min, Bool, true, false, leb, ltb}
use Rattle.release.specs.declared.Containment.{Containment}
use Rattle.release.specs.declared.Containment.TheVariants.{Open, Dike, Building, ShedWithDoors}
use Rattle.release.specs.Rates.{ceil_div}

-- "Full area is pounds × DF, in square feet (a pool 0.033 ft deep)."
abbrev pub full_area : ℕ → ℕ → ℕ
full_area pounds df = pounds * df

-- "diked area × wall" and "full area × 0.033", both in hundred-thousandths of a cubic foot
abbrev pub held : ℕ → ℕ → ℕ
held area wall = 10 * (area * wall)

abbrev pub spilt : ℕ → ℕ
spilt full = 33 * full

-- "Dike: if the full area is at most the diked area, the full area. Otherwise, if full area × 0.033 is at most diked area
-- × wall, the diked area. Otherwise diked area plus overflow, but never above the full area; overflow is (full area × 0.033
-- - diked area × wall) / 0.033. The result is rounded up to a hundredth of a square foot."
unfoldable pub diked_area : ℕ → ℕ → ℕ → ℕ
diked_area full area wall =
    elim (leb full area) [
      | true ↦ full
      | false ↦
          elim (leb (spilt full) (held area wall)) [
            | true ↦ area
            | false ↦ min full (ceil_div (33 * area + (spilt full - held area wall)) 33)
          ]
    ]

-- "Open: the full area. Building: the smaller of floor and full area." Document 02, A5: in containment 3 "a pool has the smaller of
-- floor and full area" too.
abbrev pub pool_area : ℕ → ℕ → Containment → ℕ
pool_area pounds df Open = full_area pounds df
pool_area pounds df (Dike d) = diked_area (full_area pounds df) d.area.0 d.wall
pool_area pounds df (Building b) = min b.floor.0 (full_area pounds df)
pool_area pounds df (ShedWithDoors s) = min s.floor.0 (full_area pounds df)

-- "unless diked with a full area above the diked area": whether the pool is larger than this containment's dike. A floor is no dike, of a
-- building or of a shed with doors.
abbrev pub beyond_dike : ℕ → ℕ → Containment → Bool
beyond_dike pounds df Open = false
beyond_dike pounds df (Building b) = false
beyond_dike pounds df (ShedWithDoors s) = false
beyond_dike pounds df (Dike d) = ltb d.area.0 (full_area pounds df)
