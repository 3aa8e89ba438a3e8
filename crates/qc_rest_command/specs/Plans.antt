-- public: whoever plans what is left plans the whole.
use Rattle.std.specs.Prelude.{ℕ, ◌+◌, ◌<◌, ◌≤◌, ◌↔◌, List, length}
use Rattle.qc_dispatch.specs.Following.{journal_of}
use Rattle.qc_dispatch.specs.Worked.{with_tasks}
use Rattle.qc_model.specs.declared.schedule.Slot.{Slot}
use Rattle.qc_model.specs.declared.task.Task.{Task}
use Rattle.qc_model.specs.Rules.{Feasible, end_of, ends}
use Rattle.qc_rest.specs.Joined.{IsJoined}
use Rattle.qc_rest.specs.Progress.{HasBegun, IsLeft}
use Rattle.qc_rest.specs.Remaining.{over_at}
use Rattle.qc_rest_command.specs.declared.answer.Renewed.{Renewed}

-- with the lengths that tasks took or take by the log, what was done and behind it a schedule of what is left
abbrev pub IsWhole : Renewed → (new : List Slot) → List Task → (sched : List Slot) → Type 0
IsWhole told = IsJoined told.worked.followed.dispatch (over_at (journal_of told.worked.followed))

-- the whole is over by a moment exactly where all that has begun is, and, counted from now, what is left
pub record EndsTogether (told : Renewed) (new : List Slot) (tasks : List Task) (sched : List Slot) (moment : ℕ) : Type 0 where
  pub by : (ends (with_tasks told.worked.followed.dispatch.inst tasks) sched ≤ moment)
      ↔ (((j : ℕ) → j < length told.worked.followed.dispatch.inst.tasks → HasBegun told.worked.followed.dispatch j
      → end_of (with_tasks told.worked.followed.dispatch.inst tasks) sched j ≤ moment)
      × ((j : ℕ) → IsLeft told.worked.followed.dispatch j → told.rest.now + ends told.rest.instance new ≤ moment))

-- each feasible schedule of what is left makes a feasible schedule of the whole, which ends with it
pub record PlansTheWhole (told : Renewed) : Type 0 where
  pub keeps : (new : List Slot) (tasks : List Task) (sched : List Slot) → Feasible told.rest.instance new
      → IsWhole told new tasks sched → Feasible (with_tasks told.worked.followed.dispatch.inst tasks) sched
  pub ends_with : (new : List Slot) (tasks : List Task) (sched : List Slot) → Feasible told.rest.instance new
      → IsWhole told new tasks sched → (moment : ℕ) → EndsTogether told new tasks sched moment
