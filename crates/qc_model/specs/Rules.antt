-- public: the rules of a feasible schedule, after Kim and Park (2004).
use Rattle.std.specs.Prelude.{◌≡◌, ◌≢◌, ℕ, ◌+◌, ◌<◌, ◌≤◌, ◌≤ℤ◌, ◌⊎◌, List, [], ◌∷◌, length, map, max, slice_index_or}
use Rattle.qc_model.specs.declared.task.Task.{Task}
use Rattle.qc_model.specs.declared.schedule.Slot.{Slot}
use Rattle.qc_model.specs.Instance.{InstanceView, bay_of, ticks_of, release_of, crane, IsBefore, IsApart}
use Rattle.qc_model.specs.Ticks.{arrival, berth_clear, berth_distance, task_distance, travel_between}

-- what stands for the slot of a task past the end; no rule speaks of it
abbrev pub no_slot : Slot
no_slot = record { crane = 0; start = 0 }

abbrev pub crane_of : List Slot → ℕ → ℕ
crane_of sched j = (slice_index_or sched j no_slot).crane

abbrev pub start_of : List Slot → ℕ → ℕ
start_of sched j = (slice_index_or sched j no_slot).start

abbrev pub end_of : InstanceView → List Slot → ℕ → ℕ
end_of inst sched j = start_of sched j + ticks_of inst j

-- the distance of tasks i and j on their cranes
abbrev pub slot_distance : InstanceView → List Slot → ℕ → ℕ → ℕ
slot_distance inst sched i j = task_distance inst i (crane_of sched i) j (crane_of sched j)

-- one of the two tasks ends at least so many ticks before the other starts
abbrev pub IsClear : InstanceView → List Slot → ℕ → ℕ → ℕ → Type 0
IsClear inst sched ticks i j =
    (end_of inst sched i + ticks ≤ start_of sched j) ⊎ (end_of inst sched j + ticks ≤ start_of sched i)

-- Reach: the task's bay lies within the reach of its crane
abbrev pub KeepsReach : InstanceView → List Slot → ℕ → Type 0
KeepsReach inst sched j =
    let c = crane inst (crane_of sched j) in
    (c.from ≤ℤ bay_of inst j) × (bay_of inst j ≤ℤ c.to)

-- Ready: the task is held back no longer, and the crane is ready and has come from its start bay
abbrev pub KeepsReady : InstanceView → List Slot → ℕ → Type 0
KeepsReady inst sched j =
    (release_of inst j ≤ start_of sched j)
    × (arrival inst (crane_of sched j) (bay_of inst j) ≤ start_of sched j)

-- Travel: between two tasks a crane has the time to go from one to the other
abbrev pub KeepsTravel : InstanceView → List Slot → ℕ → ℕ → Type 0
KeepsTravel inst sched i j =
    crane_of sched i ≡ crane_of sched j
    → IsClear inst sched (travel_between inst (bay_of inst i) (bay_of inst j)) i j

-- Before: a task starts after those before it
abbrev pub KeepsBefore : InstanceView → List Slot → ℕ → ℕ → Type 0
KeepsBefore inst sched i j = IsBefore inst i j → end_of inst sched i ≤ start_of sched j

-- Apart: two apart tasks don't run at the same time
abbrev pub KeepsApart : InstanceView → List Slot → ℕ → ℕ → Type 0
KeepsApart inst sched i j = IsApart inst i j → IsClear inst sched 0 i j

-- Margin: tasks of two cranes that would come too near are clear of each other by their distance
abbrev pub KeepsMargin : InstanceView → List Slot → ℕ → ℕ → Type 0
KeepsMargin inst sched i j =
    let ticks = slot_distance inst sched i j in
    crane_of sched i ≢ crane_of sched j → 0 < ticks → IsClear inst sched ticks i j

-- Berth: crane v stands at its start bay until it is ready, and then has the time to give way to task j
abbrev pub KeepsBerth : InstanceView → List Slot → ℕ → ℕ → Type 0
KeepsBerth inst sched j v =
    let w = crane_of sched j in
    let x = bay_of inst j in
    v ≢ w → 0 < berth_distance inst v w x → berth_clear inst v w x ≤ start_of sched j

-- every task is done once, by a crane of the instance, and the seven rules hold for all tasks, pairs
-- and cranes
pub record Feasible (inst : InstanceView) (sched : List Slot) : Type 0 where
  pub all_tasks : length sched ≡ length inst.tasks
  pub crane_range : (j : ℕ) → j < length inst.tasks → crane_of sched j < length inst.cranes
  pub reach : (j : ℕ) → j < length inst.tasks → KeepsReach inst sched j
  pub ready : (j : ℕ) → j < length inst.tasks → KeepsReady inst sched j
  pub travel : (i j : ℕ) → i < length inst.tasks → j < length inst.tasks → i ≢ j
      → KeepsTravel inst sched i j
  pub before : (i j : ℕ) → i < length inst.tasks → j < length inst.tasks → KeepsBefore inst sched i j
  pub apart : (i j : ℕ) → i < length inst.tasks → j < length inst.tasks → KeepsApart inst sched i j
  pub margin : (i j : ℕ) → i < length inst.tasks → j < length inst.tasks → KeepsMargin inst sched i j
  pub berth : (j v : ℕ) → j < length inst.tasks → v < length inst.cranes → KeepsBerth inst sched j v

-- the greatest end of the tasks with these starts, and 0 where there is none
abbrev pub last_end : List Task → List ℕ → ℕ
last_end [] starts = 0
last_end (t ∷ ts) [] = 0
last_end (t ∷ ts) (s ∷ ss) = max (s + t.ticks) (last_end ts ss)

abbrev pub starts : List Slot → List ℕ
starts sched = map (λ slot. slot.start) sched

-- the end of a schedule
abbrev pub ends : InstanceView → List Slot → ℕ
ends inst sched = last_end inst.tasks (starts sched)
