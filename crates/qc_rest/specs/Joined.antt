-- public: what was done, and behind it a schedule of what is left.
use Rattle.std.specs.Prelude.{◌≡◌, ℕ, ◌+◌, ◌<◌, ◌≤◌, List, length, slice_index_or}
use Rattle.qc_dispatch.specs.Course.{Course}
use Rattle.qc_dispatch.specs.Worked.{begun_at, with_tasks}
use Rattle.qc_model.specs.declared.schedule.Slot.{Slot}
use Rattle.qc_model.specs.declared.task.Task.{Task}
use Rattle.qc_model.specs.Instance.{no_task, task, ticks_of}
use Rattle.qc_model.specs.Rules.{crane_of, end_of, start_of}
use Rattle.qc_rest.specs.Progress.{HasBegun, IsLeft, number_of}

-- a task that has begun is on its crane, begun at its granted start or later and over by the time that is known of it
pub record IsAsBegun (c : Course) (over : ℕ → ℕ) (tasks : List Task) (sched : List Slot) (j : ℕ) : Type 0 where
  pub crane : crane_of sched j ≡ crane_of c.plan j
  pub start : begun_at c j ≤ start_of sched j
  pub end : end_of (with_tasks c.inst tasks) sched j ≤ over j

-- a task that was left is as the new schedule has it, counted from now
pub record IsAsPlanned (c : Course) (rest : List Slot) (tasks : List Task) (sched : List Slot) (j : ℕ) : Type 0 where
  pub ticks : ticks_of (with_tasks c.inst tasks) j ≡ ticks_of c.inst j
  pub crane : crane_of sched j ≡ crane_of rest (number_of c j)
  pub start : start_of sched j ≡ c.clock + start_of rest (number_of c j)

-- the tasks with the lengths that they took or take, and the schedule of all
pub record IsJoined (c : Course) (over : ℕ → ℕ) (rest : List Slot) (tasks : List Task) (sched : List Slot) : Type 0 where
  pub tasks_count : length tasks ≡ length c.inst.tasks
  pub slots_count : length sched ≡ length c.inst.tasks
  pub same : (j : ℕ) → j < length c.inst.tasks
      → slice_index_or tasks j no_task ≡ record (task c.inst j) { ticks = (slice_index_or tasks j no_task).ticks }
  pub begun : (j : ℕ) → j < length c.inst.tasks → HasBegun c j → IsAsBegun c over tasks sched j
  pub planned : (j : ℕ) → IsLeft c j → IsAsPlanned c rest tasks sched j
