-- public: an instance and a schedule as they are judged with a direction: upward as they are, downward from
-- the other end of the ship.
use Rattle.std.specs.Prelude.{ℕ, ◌-◌, ℤ, List, length}
use Rattle.qc_model.specs.declared.direction.Direction.{Direction}
use Rattle.qc_model.specs.declared.direction.Direction.TheVariants.{Up, Down}
use Rattle.qc_model.specs.declared.crane.Crane.{Crane}
use Rattle.qc_model.specs.declared.schedule.Slot.{Slot}
use Rattle.qc_model.specs.Instance.{InstanceView, mirror_bay}
use Rattle.qc_model.specs.OneWay.{mirror, mirror_crane, mirror_schedule}

-- the instance as a schedule of this direction is judged
abbrev pub seen : InstanceView → Direction → InstanceView
seen inst Up = inst
seen inst Down = mirror inst

-- the schedule as it is judged with this direction
abbrev pub seen_schedule : InstanceView → List Slot → Direction → List Slot
seen_schedule inst sched Up = sched
seen_schedule inst sched Down = mirror_schedule inst sched

-- a place on the rail as it is seen
abbrev pub seen_bay : InstanceView → Direction → ℤ → ℤ
seen_bay inst Up x = x
seen_bay inst Down x = mirror_bay inst x

-- the number of a crane as it is seen, and back again
abbrev pub seen_number : InstanceView → Direction → ℕ → ℕ
seen_number inst Up k = k
seen_number inst Down k = length inst.cranes - 1 - k

-- a crane as it is seen
abbrev pub seen_crane : InstanceView → Direction → Crane → Crane
seen_crane inst Up c = c
seen_crane inst Down c = mirror_crane inst c
