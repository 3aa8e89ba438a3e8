-- inner: the runs so far.
use Rattle.std.specs.Prelude.{◌≡◌, ℕ, ◌+◌, ◌<◌, ◌≤◌, List, [], ◌∷◌, ◌++◌, Bool, length, map, replicate, slice_index, slice_index_or, vec_capacity}
use Rattle.qc_model.specs.declared.schedule.Slot.{Slot}
use Rattle.qc_model.specs.Instance.{InstanceView}
use Rattle.qc_past.specs.declared.task.PastTask.{PastTask}
use Rattle.qc_odds.specs.Added.{crane_added, task_added}
use Rattle.qc_odds.specs.Small.{AreSmallCranes, AreSmallTasks}
use Rattle.qc_odds.specs.Moments.{most_end}
use Rattle.qc_odds.specs.Sums.{AreRuns, AreSums, Run, no_crane_sum, no_task_sum}
use Rattle.qc_odds.specs.Watched.{most_watched}
use Rattle.qc_odds.specs.declared.odds.Odds.{Odds}
use Rattle.qc_odds.specs.declared.simulation.Simulation.{Simulation}

-- no run is over, and there is room for so many
pub record HasNone (inst : InstanceView) (room : ℕ) (odds : Odds) : Type 0 where
  pub ends : odds.tally.ends ≡ []
  pub room_is : odds.tally.room ≡ room
  pub cranes : odds.cranes.items ≡ replicate (length inst.cranes) no_crane_sum
  pub tasks : odds.tasks.items ≡ replicate (length inst.tasks) no_task_sum
  pub watched : odds.watched.items ≡ []
  pub watch_room : vec_capacity odds.watched ≡ most_watched

-- a run more has room
pub record HasRoom (inst : InstanceView) (odds : Odds) : Type 0 where
  pub cranes : length odds.cranes.items ≡ length inst.cranes
  pub tasks : length odds.tasks.items ≡ length inst.tasks
  pub ends : length odds.tally.ends < odds.tally.room
  pub few : odds.tally.room ≤ 10000
  pub small_cranes : AreSmallCranes (length odds.tally.ends) odds.cranes.items
  pub small_tasks : AreSmallTasks (length odds.tally.ends) odds.tasks.items

-- a run with these lengths, starts, last end and critical tasks is added
pub record AddsRun (inst : InstanceView) (plan : List Slot) (lengths starts : List ℕ) (last : ℕ) (marked : List Bool)
    (old new : Odds) : Type 0 where
  pub ends : new.tally.ends ≡ old.tally.ends ++ last ∷ []
  pub room : new.tally.room ≡ old.tally.room
  pub crane_count : length new.cranes.items ≡ length old.cranes.items
  pub each_crane : (k : ℕ) → k < length new.cranes.items → slice_index_or new.cranes.items k no_crane_sum
      ≡ crane_added inst plan lengths starts last k (slice_index_or old.cranes.items k no_crane_sum)
  pub task_count : length new.tasks.items ≡ length old.tasks.items
  pub each_task : (j : ℕ) → j < length new.tasks.items → slice_index_or new.tasks.items j no_task_sum
      ≡ task_added inst lengths marked j (slice_index_or old.tasks.items j no_task_sum)
  pub small_cranes : (runs : ℕ) → AreSmallCranes runs old.cranes.items → AreSmallCranes (runs + 1) new.cranes.items
  pub small_tasks : (runs : ℕ) → AreSmallTasks runs old.tasks.items → AreSmallTasks (runs + 1) new.tasks.items
  pub watched : new.watched ≡ old.watched

-- the first so many runs of a seed are over, and there is room for so many in all
pub record HasRuns (past : List PastTask) (inst : InstanceView) (plan : List Slot) (seed count room : ℕ) (odds : Odds) : Type 0 where
  pub runs : List Run
  pub number : length runs ≡ count
  pub are : AreRuns past inst plan seed runs
  pub ends : odds.tally.ends ≡ map (λ run. run.last) runs
  pub sums : AreSums inst plan runs odds.cranes.items odds.tasks.items
  pub small_ends : (n : ℕ) → slice_index odds.tally.ends n ≤ most_end
  pub small_cranes : AreSmallCranes count odds.cranes.items
  pub small_tasks : AreSmallTasks count odds.tasks.items
  pub room_is : odds.tally.room ≡ room
  pub watched : odds.watched.items ≡ []
  pub watch_room : vec_capacity odds.watched ≡ most_watched

-- a plan that is worked run after run
pub record IsSimulated (past : List PastTask) (inst : InstanceView) (plan : List Slot) (seed count room : ℕ) (s : Simulation)
    : Type 0 where
  pub inst_is : s.course.inst ≡ inst
  pub plan_is : s.course.plan ≡ plan
  pub lengths : length s.lists.lengths.items ≡ length inst.tasks
  pub marked : length s.lists.marked.items ≡ length inst.tasks
  pub runs : HasRuns past inst plan seed count room s.odds
