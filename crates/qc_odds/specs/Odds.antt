-- public: what many runs of a plan come to, and what of it is told.
use Rattle.std.specs.Prelude.{◌≡◌, ℕ, ◌<◌, ◌^◌, List, IsSorted, length, map, sum}
use Rattle.std.specs.List.Sorted.{IsPermutation}
use Rattle.std.specs.Ordering.{nat_cmp}
use Rattle.qc_model.specs.declared.schedule.Slot.{Slot}
use Rattle.qc_model.specs.Instance.{InstanceView}
use Rattle.qc_past.specs.declared.task.PastTask.{PastTask}
use Rattle.qc_odds.specs.Small.{AreSmallCranes, AreSmallTasks}
use Rattle.qc_odds.specs.Sums.{AreRuns, AreSums, Run}
use Rattle.qc_odds.specs.Watched.{AreWorst}
use Rattle.qc_odds.specs.declared.odds.Odds.{Odds}

-- the first so many runs of a seed, and what they come to: their ends in rising order, the sums of each crane and each task,
-- and the tasks to watch
pub record AreOdds (past : List PastTask) (inst : InstanceView) (plan : List Slot) (seed count : ℕ) (odds : Odds) : Type 0 where
  pub runs : List Run
  pub number : length runs ≡ count
  pub are : AreRuns past inst plan seed runs
  pub ends : IsPermutation (map (λ run. run.last) runs) odds.tally.ends
  pub sorted : IsSorted nat_cmp odds.tally.ends
  pub sums : AreSums inst plan runs odds.cranes.items odds.tasks.items
  pub watched : AreWorst odds.tasks.items odds.watched.items

-- no sum of so many runs is out of range
pub record AreSmall (count : ℕ) (odds : Odds) : Type 0 where
  pub ends : sum odds.tally.ends < 2 ^ 64
  pub cranes : AreSmallCranes count odds.cranes.items
  pub tasks : AreSmallTasks count odds.tasks.items
