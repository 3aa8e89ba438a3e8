-- public: the ship of what is left of a plan.
use Rattle.std.specs.Prelude.{Bool, not, ◌&&◌, ◌==◌, List, map, filter}
use Rattle.std.specs.List.{list_any}
use Rattle.qc_model.specs.declared.task.Task.{Task}
use Rattle.qc_model.specs.Instance.{InstanceView}
use Rattle.qc_ship.specs.Ship.{ShipView}
use Rattle.qc_ship.specs.declared.ship.NamePair.{NamePair}
use Rattle.qc_ship.specs.declared.ship.NameTick.{NameTick}
use Rattle.qc_ship.specs.declared.ship.TaskName.{TaskName}
use Rattle.qc_tasks.specs.InstanceOf.{has_name}

-- one of the tasks has the name
abbrev pub is_named : List Task → TaskName → Bool
is_named tasks name = list_any (has_name name) tasks

-- both tasks of an entry are among these
abbrev pub are_named : List Task → NamePair → Bool
are_named tasks pair = is_named tasks pair.first && is_named tasks pair.second

-- the entry that holds a task back until its release
abbrev pub release_of : Task → NameTick
release_of t = record { name = record { hatch = t.hatch; phase = t.phase }; tick = t.release }

-- one for each task that is held back, in their order
abbrev pub is_held : Task → Bool
is_held t = not (t.release == 0)

abbrev pub releases_of : List Task → List NameTick
releases_of tasks = map release_of (filter is_held tasks)

-- the ship with the cranes and the releases of what is left, and the planner's own order as far as both tasks are left
abbrev pub rest_ship : ShipView → InstanceView → ShipView
rest_ship ship rest = record ship {
  before = filter (are_named rest.tasks) ship.before;
  not_before = releases_of rest.tasks;
  cranes = rest.cranes;
}
