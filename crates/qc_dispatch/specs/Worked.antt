-- public: how the work went in the end, as a schedule.
use Rattle.std.specs.Prelude.{◌≡◌, ℕ, ◌-◌, ◌<◌, ◌≤◌, List, length, map, slice_index_or, IsSomeAnd}
use Rattle.std.specs.List.{range_with_len}
use Rattle.std.specs.Option.{unwrap_or}
use Rattle.qc_model.specs.declared.schedule.Slot.{Slot}
use Rattle.qc_model.specs.declared.task.Task.{Task}
use Rattle.qc_model.specs.Instance.{InstanceView, no_task, task}
use Rattle.qc_model.specs.Rules.{crane_of, end_of, start_of}
use Rattle.qc_dispatch.specs.Course.{Course, end_at, start_at}

-- the instance with other tasks
abbrev pub with_tasks : InstanceView → List Task → InstanceView
with_tasks inst tasks = record inst { tasks = tasks }

-- all tasks have ended: these are the tasks with the lengths that they took, whatever these are, and by the schedule
-- each was on its crane, begun at its granted start or later and over by its reported end
pub record IsWorked (c : Course) (tasks : List Task) (sched : List Slot) : Type 0 where
  pub tasks_count : length tasks ≡ length c.inst.tasks
  pub slots_count : length sched ≡ length c.inst.tasks
  pub same : (j : ℕ) → j < length c.inst.tasks
      → slice_index_or tasks j no_task ≡ record (task c.inst j) { ticks = (slice_index_or tasks j no_task).ticks }
  pub cranes : (j : ℕ) → j < length c.inst.tasks → crane_of sched j ≡ crane_of c.plan j
  pub starts : (j : ℕ) → j < length c.inst.tasks → IsSomeAnd (start_at c j) (λ start. start ≤ start_of sched j)
  pub ends : (j : ℕ) → j < length c.inst.tasks
      → IsSomeAnd (end_at c j) (λ end. end_of (with_tasks c.inst tasks) sched j ≤ end)

-- when a task was granted, and how long it took from then on to its reported end; nothing is said of one without an end
abbrev pub begun_at : Course → ℕ → ℕ
begun_at c j = unwrap_or (start_at c j) 0

abbrev pub ticks_taken : Course → ℕ → ℕ
ticks_taken c j = unwrap_or (end_at c j) 0 - begun_at c j

-- the work as it was granted and reported: the tasks with their lengths, and the schedule
abbrev pub tasks_taken : Course → List Task
tasks_taken c = map (λ j. record (task c.inst j) { ticks = ticks_taken c j }) (range_with_len 0 (length c.inst.tasks))

abbrev pub slots_taken : Course → List Slot
slots_taken c =
    map (λ j. record { crane = crane_of c.plan j; start = begun_at c j }) (range_with_len 0 (length c.inst.tasks))
