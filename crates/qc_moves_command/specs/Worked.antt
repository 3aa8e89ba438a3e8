-- public: the moves of a work sheet in the order in which they are made.
use Rattle.std.specs.Prelude.{ℕ, ◌≤◌, List, length, AllPairs}
use Rattle.std.specs.List.{range_with_len}
use Rattle.std.specs.List.Sorted.{IsPermutation}
use Rattle.qc_model.specs.declared.schedule.Slot.{Slot}
use Rattle.qc_sheet.specs.Kept.{Begins}
use Rattle.qc_sheet.specs.SheetText.{WorkView}
use Rattle.qc_ship.specs.Ship.{ShipView}
use Rattle.qc_stow.specs.declared.row.Row.{Row}
use Rattle.qc_tasks.specs.InstanceOf.{instance_of}

-- what the work sheet of a ship, its moves and a schedule is written from
abbrev pub work_with : ShipView → List Row → List Slot → (orders : List (List ℕ)) → WorkView
work_with ship rows sched orders =
    record { ship = ship; inst = instance_of ship rows; rows = rows; sched = sched; orders = orders }

-- all moves of a work sheet, none ahead of one that begins earlier; those of one tick stand in any order
pub record AreInTime (w : WorkView) (told : List ℕ) : Type 0 where
  pub each : IsPermutation (range_with_len 0 (length w.rows)) told
  pub order : AllPairs (λ m n. (i j s t : ℕ) → Begins w m i s → Begins w n j t → s ≤ t) told
