-- public: schedules in which, after a first repositioning, all cranes move one way, after the method of
-- Bierwirth and Meisel (2009).
use Rattle.std.specs.Prelude.{◌≡◌, ℕ, ◌+◌, ◌-◌, ◌<◌, ◌≤◌, ◌<ℤ◌, ◌⊎◌, List, length, map, reverse}
use Rattle.qc_model.specs.declared.task.Task.{Task}
use Rattle.qc_model.specs.declared.crane.Crane.{Crane}
use Rattle.qc_model.specs.declared.schedule.Slot.{Slot}
use Rattle.qc_model.specs.declared.turn.Turn.{Turn}
use Rattle.qc_model.specs.declared.turn.Turn.TheVariants as turn
use Rattle.qc_model.specs.Instance.{InstanceView, bay_of, mirror_bay}
use Rattle.qc_model.specs.Rules.{crane_of, start_of, Feasible}
use Rattle.qc_model.specs.Ticks.{climb, lead, task_distance}

-- a crane that has done task i has the time to go up to task j, where j lies higher
abbrev pub KeepsClimb : InstanceView → List Slot → ℕ → ℕ → Type 0
KeepsClimb inst sched i j =
    crane_of sched i ≡ crane_of sched j → bay_of inst i <ℤ bay_of inst j
    → start_of sched i + climb inst i j ≤ start_of sched j

-- where the cranes of tasks i and j would come too near, the higher crane's task i is first
abbrev pub KeepsLead : InstanceView → List Slot → ℕ → ℕ → Type 0
KeepsLead inst sched i j =
    let v = crane_of sched i in
    let w = crane_of sched j in
    w < v → 0 < task_distance inst i v j w → start_of sched i + lead inst i v j w ≤ start_of sched j

-- each crane works its bays upward, and a higher crane is ahead of a lower one wherever the two would
-- come too near
pub record Upward (inst : InstanceView) (sched : List Slot) : Type 0 where
  pub one_crane : (i j : ℕ) → i < length inst.tasks → j < length inst.tasks → KeepsClimb inst sched i j
  pub two_cranes : (i j : ℕ) → i < length inst.tasks → j < length inst.tasks → KeepsLead inst sched i j

-- the schedule is feasible and upward
pub record GoesUp (inst : InstanceView) (sched : List Slot) : Type 0 where
  pub feasible : Feasible inst sched
  pub upward : Upward inst sched

abbrev pub mirror_task : InstanceView → Task → Task
mirror_task inst t = record t { bay = mirror_bay inst t.bay }

abbrev pub mirror_crane : InstanceView → Crane → Crane
mirror_crane inst c =
    record c { bay = mirror_bay inst c.bay; from = mirror_bay inst c.to; to = mirror_bay inst c.from }

-- the instance seen from the other end: bays and the order of the cranes are turned round, all else
-- stays
abbrev pub mirror : InstanceView → InstanceView
mirror inst = record inst {
  tasks = map (mirror_task inst) inst.tasks;
  cranes = reverse (map (mirror_crane inst) inst.cranes);
}

-- a slot with its crane numbered from the other end
abbrev pub flipped : ℕ → Slot → Slot
flipped cranes s = record s { crane = cranes - 1 - s.crane }

abbrev pub mirror_slot : InstanceView → Slot → Slot
mirror_slot inst s = flipped (length inst.cranes) s

-- the same schedule with the cranes numbered from the other end
abbrev pub mirror_schedule : InstanceView → List Slot → List Slot
mirror_schedule inst sched = map (mirror_slot inst) sched

-- the schedule uses cranes of the instance, and its mirror goes upward in the mirrored instance
pub record GoesDown (inst : InstanceView) (sched : List Slot) : Type 0 where
  pub crane_range : (j : ℕ) → j < length inst.tasks → crane_of sched j < length inst.cranes
  pub mirrored : GoesUp (mirror inst) (mirror_schedule inst sched)

-- the schedule goes one way, upward or downward
abbrev pub GoesOneWay : InstanceView → List Slot → Type 0
GoesOneWay inst sched = GoesUp inst sched ⊎ GoesDown inst sched

-- the schedules that cranes with this turn may follow: those that go one way, or all that are feasible
abbrev pub IsAllowedBy : Turn → InstanceView → List Slot → Type 0
IsAllowedBy turn.OneWay inst sched = GoesOneWay inst sched
IsAllowedBy turn.Free inst sched = Feasible inst sched

abbrev pub IsAllowed : InstanceView → List Slot → Type 0
IsAllowed inst sched = IsAllowedBy inst.turn inst sched
