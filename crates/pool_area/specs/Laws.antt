-- What other crates say by it; the laws are in proofs/Laws.antt.
-- Assumes nothing.
use Rattle.std.specs.Prelude.{◌≤◌, ◌≡◌}
use Rattle.release.specs.declared.Containment.{Containment}
use Rattle.release.specs.declared.Dike.{Dike as DikeOf}
use Rattle.release.specs.declared.Building.{Building as BuildingOf}
use Rattle.release.specs.declared.Containment.TheVariants.{Open, Dike, Building, ShedWithDoors}

-- a containment that holds no more: the same kind, with an equal dike area and no higher wall, or no smaller floor
pub data Looser : Containment → Containment → Type 0 where
  open_open : Looser Open Open
  dike_dike : (d e : DikeOf) → d.area ≡ e.area → e.wall ≤ d.wall → Looser (Dike d) (Dike e)
  building_building : (b e : BuildingOf) → b.floor.0 ≤ e.floor.0 → Looser (Building b) (Building e)
  shed_shed : (s e : BuildingOf) → s.floor.0 ≤ e.floor.0 → Looser (ShedWithDoors s) (ShedWithDoors e)
