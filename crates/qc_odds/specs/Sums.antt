-- public: what many runs of a plan come to.
use Rattle.std.specs.Prelude.{◌≡◌, ℕ, ◌+◌, ◌<◌, ◌==◌, List, [], Bool, length, slice_index_or, sum_by, count_by}
use Rattle.qc_model.specs.declared.schedule.Slot.{Slot}
use Rattle.qc_model.specs.Instance.{InstanceView}
use Rattle.qc_past.specs.declared.task.PastTask.{PastTask}
use Rattle.qc_odds.specs.Course.{AreStarts, IsLastEnd}
use Rattle.qc_odds.specs.Critical.{AreMarked, is_marked}
use Rattle.qc_odds.specs.Lengths.{AreDrawn}
use Rattle.qc_odds.specs.Runs.{crane_end, held, over}
use Rattle.qc_odds.specs.declared.sums.CraneSum.{CraneSum}
use Rattle.qc_odds.specs.declared.sums.TaskSum.{TaskSum}

-- how long tasks take in a run and when they start, the last end, and which tasks are marked as critical
pub record Run : Type 0 where
  pub lengths : List ℕ
  pub starts : List ℕ
  pub last : ℕ
  pub marked : List Bool

-- the run of this number: its lengths are drawn, each task starts as soon as it may, and the critical tasks are marked
pub record IsRun (past : List PastTask) (inst : InstanceView) (plan : List Slot) (seed number : ℕ) (run : Run) : Type 0 where
  pub drawn : AreDrawn past inst seed number run.lengths
  pub starts : AreStarts inst plan run.lengths run.starts
  pub last : IsLastEnd run.lengths run.starts run.last
  pub marked : AreMarked inst plan run.lengths run.starts run.last run.marked

-- what stands for a run past the end of a list, for the sums of a crane and of a task
abbrev pub no_run : Run
no_run = record { lengths = []; starts = []; last = 0; marked = [] }

abbrev pub no_crane_sum : CraneSum
no_crane_sum = record { ends = 0; held = 0; lasts = 0 }

abbrev pub no_task_sum : TaskSum
no_task_sum = record { critical = 0; over = 0 }

-- the runs of a seed, numbered from 1
abbrev pub AreRuns : List PastTask → InstanceView → List Slot → (seed : ℕ) → List Run → Type 0
AreRuns past inst plan seed runs =
    (n : ℕ) → n < length runs → IsRun past inst plan seed (n + 1) (slice_index_or runs n no_run)

-- what these runs come to for crane k: when it was through, for how long it waited at its tasks, each in all, and in how
-- many runs it was through when all was done
abbrev pub crane_sum : InstanceView → List Slot → List Run → ℕ → CraneSum
crane_sum inst plan runs k = record {
  ends = sum_by (λ run. crane_end inst plan run.lengths run.starts k) runs;
  held = sum_by (λ run. held inst plan run.lengths run.starts k) runs;
  lasts = count_by (λ run. crane_end inst plan run.lengths run.starts k == run.last) runs;
}

-- what they come to for task j: in how many it was critical, and by how much it took longer than planned there, in all
abbrev pub task_sum : InstanceView → List Run → ℕ → TaskSum
task_sum inst runs j = record {
  critical = count_by (λ run. is_marked run.marked j) runs;
  over = sum_by (λ run. over inst run.lengths run.marked j) runs;
}

-- each crane's and each task's are those of these runs
pub record AreSums (inst : InstanceView) (plan : List Slot) (runs : List Run) (cranes : List CraneSum) (tasks : List TaskSum) : Type 0 where
  pub crane_count : length cranes ≡ length inst.cranes
  pub each_crane : (k : ℕ) → k < length inst.cranes → slice_index_or cranes k no_crane_sum ≡ crane_sum inst plan runs k
  pub task_count : length tasks ≡ length inst.tasks
  pub each_task : (j : ℕ) → j < length inst.tasks → slice_index_or tasks j no_task_sum ≡ task_sum inst runs j
