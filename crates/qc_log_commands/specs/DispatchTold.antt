-- public: what is told of a plan whose order is followed by a log.
use Rattle.std.specs.Prelude.{◌≡◌, ℕ, List}
use Rattle.qc_dispatch.specs.Course.{left, running}
use Rattle.qc_dispatch.specs.Following.{journal_of}
use Rattle.qc_dispatch.specs.Journal.{IsFollowed}
use Rattle.qc_dispatch.specs.Promises.{Keeps}
use Rattle.qc_dispatch.specs.Worked.{IsWorked, slots_taken, tasks_taken, with_tasks}
use Rattle.qc_freemove.specs.FreeMotion.{IsFreeSafe}
use Rattle.qc_model.specs.declared.schedule.Slot.{Slot}
use Rattle.qc_model.specs.declared.task.Task.{Task}
use Rattle.qc_model.specs.Rules.{Feasible}
use Rattle.qc_run.specs.declared.status.Status.{Status}
use Rattle.qc_run.specs.declared.status.Status.TheVariants as status
use Rattle.qc_run.specs.Broken.{broken_text}
use Rattle.qc_log_commands.specs.declared.dispatching.Dispatched.{Dispatched}
use Rattle.qc_log_commands.specs.declared.dispatching.Dispatching.{Dispatching}
use Rattle.qc_log_commands.specs.declared.dispatching.Dispatching.TheVariants as dispatching
use Rattle.qc_log_commands.specs.DispatchTexts.{journal_text}

-- the plan is feasible, its order was followed by this log, and with the lengths that tasks took all rules were kept
pub record TellsCourse (text : List ℕ) (told : Dispatched) : Type 0 where
  pub feasible : Feasible told.job.inst told.job.sched
  pub followed : IsFollowed told.job.inst told.job.sched text (journal_of told.followed)
  pub keeps : Keeps told.followed.dispatch
  -- where no task is left and none runs, the work as it was granted and reported is a schedule
  pub worked : left told.followed.dispatch ≡ 0 → running told.followed.dispatch ≡ 0
      → IsWorked told.followed.dispatch (tasks_taken told.followed.dispatch) (slots_taken told.followed.dispatch)
  -- each schedule of the work is feasible, and cranes that keep to it move safely, whatever lengths tasks took
  pub safe : (tasks : List Task) (sched : List Slot) → IsWorked told.followed.dispatch tasks sched
      → Feasible (with_tasks told.followed.dispatch.inst tasks) sched
      × IsFreeSafe (with_tasks told.followed.dispatch.inst tasks) sched

-- what is printed, and the status
abbrev pub dispatched_text : Dispatched → List ℕ
dispatched_text told = journal_text (journal_of told.followed)

abbrev pub dispatching_text : Dispatching → List ℕ
dispatching_text (dispatching.Broken told) = broken_text told
dispatching_text (dispatching.Dispatched told) = dispatched_text told

abbrev pub dispatching_status : Dispatching → Status
dispatching_status (dispatching.Broken told) = status.Broken
dispatching_status (dispatching.Dispatched told) = status.Done
