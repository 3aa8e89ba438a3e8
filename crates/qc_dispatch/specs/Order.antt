-- public: which task of a plan leads which, and by how long.
use Rattle.std.specs.Prelude.{◌≡◌, ℕ, ◌<◌, ◌==◌, ◌⊎◌, if◌then◌else◌, List, length}
use Rattle.qc_model.specs.declared.schedule.Slot.{Slot}
use Rattle.qc_model.specs.Instance.{InstanceView, bay_of, IsApart, IsBefore}
use Rattle.qc_model.specs.Nodes.{free}
use Rattle.qc_model.specs.Rules.{crane_of, slot_distance, start_of}
use Rattle.qc_model.specs.Ticks.{travel_between}

-- the two tasks may not run at the same time, whichever of them comes first
abbrev pub ArePaired : InstanceView → ℕ → ℕ → Type 0
ArePaired inst i j = IsApart inst i j ⊎ IsApart inst j i

-- by the plan one crane does both, or two cranes that would come too near
abbrev pub AreNear : InstanceView → List Slot → ℕ → ℕ → Type 0
AreNear inst plan i j = (crane_of plan i ≡ crane_of plan j) ⊎ (0 < slot_distance inst plan i j)

-- some rule keeps the second task off until the first is over, or the other way round
abbrev pub AreTied : InstanceView → List Slot → ℕ → ℕ → Type 0
AreTied inst plan i j = IsBefore inst i j ⊎ (ArePaired inst i j ⊎ AreNear inst plan i j)

-- task i leads task j: the two are tied, and the plan starts i sooner
pub record Leads (inst : InstanceView) (plan : List Slot) (i j : ℕ) : Type 0 where
  pub leader : i < length inst.tasks
  pub led : j < length inst.tasks
  pub sooner : start_of plan i < start_of plan j
  pub tied : AreTied inst plan i j

-- the ticks that pass at least between the end of task i and the start of task j, which it leads: the travel of
-- their crane, or the distance of their cranes
abbrev pub gap : InstanceView → List Slot → ℕ → ℕ → ℕ
gap inst plan i j =
    if crane_of plan i == crane_of plan j
    then travel_between inst (bay_of inst i) (bay_of inst j)
    else slot_distance inst plan i j

-- when task j can start at the least, whatever other tasks do: its crane is there, and all berths are clear
abbrev pub free_of : InstanceView → List Slot → ℕ → ℕ
free_of inst plan j = free inst j (crane_of plan j)
