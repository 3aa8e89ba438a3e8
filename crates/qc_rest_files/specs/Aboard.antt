-- public: what is left fits its ship, so that a ship file can say it.
use Rattle.std.specs.Prelude.{◌≡◌, ℕ, ◌<◌, pos, ◌≤ℤ◌, length, map, Contains}
use Rattle.qc_model.specs.Instance.{InstanceView, crane, task}
use Rattle.qc_ship.specs.Ship.{ShipView, greatest_start, least_start}

-- the cranes keep the ship's gap, reach from the place of a hatch to that of the same or a later one, and begin where a
-- ship file may say it; the tasks are at hatches of the ship
pub record IsAboard (ship : ShipView) (rest : InstanceView) : Type 0 where
  pub gap : rest.gap ≡ ship.gap
  pub hatches : (j : ℕ) → j < length rest.tasks → Contains ship.hatches (task rest j).hatch
  pub reach : (k : ℕ) → k < length rest.cranes
      → Contains (map pos ship.places) (crane rest k).from × Contains (map pos ship.places) (crane rest k).to
      × ((crane rest k).from ≤ℤ (crane rest k).to)
  pub starts : (k : ℕ) → k < length rest.cranes
      → (least_start ship.in_decimetres ≤ℤ (crane rest k).bay)
      × ((crane rest k).bay ≤ℤ greatest_start ship.in_decimetres)
