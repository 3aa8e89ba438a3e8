-- inner: what runs must have come to where their figures are told.
use Rattle.std.specs.Prelude.{◌≡◌, ℕ, ◌^◌, ◌<◌, ◌≤◌, List, length, slice_index, sum}
use Rattle.qc_model.specs.Instance.{InstanceView}
use Rattle.qc_odds.specs.Small.{AreSmallCranes, AreSmallTasks}
use Rattle.qc_odds.specs.declared.odds.Odds.{Odds}

-- there are some ends, and they are neither too many nor too late
pub record CanBeCounted (ends : List ℕ) : Type 0 where
  pub some : 1 ≤ length ends
  pub few : length ends ≤ 10000
  pub small : sum ends < 2 ^ 64

-- the sums are those of all cranes and tasks, and none is too great
pub record CanBeSummed (inst : InstanceView) (odds : Odds) : Type 0 where
  pub cranes : length odds.cranes.items ≡ length inst.cranes
  pub tasks : length odds.tasks.items ≡ length inst.tasks
  pub small_cranes : AreSmallCranes (length odds.tally.ends) odds.cranes.items
  pub small_tasks : AreSmallTasks (length odds.tally.ends) odds.tasks.items
  pub watched : (p : ℕ) → p < length odds.watched.items → slice_index odds.watched.items p < length inst.tasks
