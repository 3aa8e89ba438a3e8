-- public: assignments: which tasks have a crane, and which cranes may do each. The order of tasks doesn't count.
use Rattle.std.specs.Prelude.{◌≡◌, ℕ, ◌*◌, ◌<◌, ℤ, pos, ◌-ℤ◌, List, [], ◌∷◌, map, filter, length, replicate, slice_index_or, Option, None, Some}
use Rattle.qc_model.specs.declared.decision.Decision.{Decision}
use Rattle.qc_model.specs.declared.schedule.Slot.{Slot}
use Rattle.qc_model.specs.Instance.{InstanceView, bay_of}
use Rattle.qc_model.specs.Work.{crane_numbers, task_numbers}
use Rattle.qc_model.specs.Nodes.{assigned, reaches}
use Rattle.qc_model.specs.Rules.{crane_of}

-- the crane that task j has in a list with an entry for each task, if it has one
abbrev pub crane_in : List (Option ℕ) → ℕ → Option ℕ
crane_in cranes j = slice_index_or cranes j None

-- no task has a crane
abbrev pub no_cranes : InstanceView → List (Option ℕ)
no_cranes inst = replicate (length inst.tasks) None

-- all cranes in the list are those of the instance
abbrev pub AreInRange : InstanceView → List (Option ℕ) → Type 0
AreInRange inst cranes = (j k : ℕ) → crane_in cranes j ≡ Some k → k < length inst.cranes

-- what decisions say of cranes
abbrev pub cranes_of : InstanceView → List Decision → List (Option ℕ)
cranes_of inst ds = map (assigned ds) (task_numbers inst)

-- each task that has a crane has it in the schedule
abbrev pub Follows : InstanceView → List (Option ℕ) → List Slot → Type 0
Follows inst cranes sched =
    (j k : ℕ) → j < length inst.tasks → crane_in cranes j ≡ Some k → crane_of sched j ≡ k

-- the cranes that may do task j where it has this one, or none: that one, else all that reach it
abbrev pub cranes_by : InstanceView → ℕ → Option ℕ → List ℕ
cranes_by inst j (Some k) = k ∷ []
cranes_by inst j None = filter (reaches inst j) (crane_numbers inst)

-- the cranes that may do task j
abbrev pub cranes_for : InstanceView → List (Option ℕ) → ℕ → List ℕ
cranes_for inst cranes j = cranes_by inst j (crane_in cranes j)

-- where task j lies for crane v, which counts bays from a place one gap further along the rail than the crane below it
-- does: of two tasks on two cranes one must wait for the other where that of the lower crane lies higher
abbrev pub place : InstanceView → ℕ → ℕ → ℤ
place inst j v = bay_of inst j -ℤ pos (inst.gap * v)
