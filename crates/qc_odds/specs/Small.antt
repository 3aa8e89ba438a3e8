-- public: how much many runs come to at most.
use Rattle.std.specs.Prelude.{ℕ, ◌*◌, ◌<◌, ◌≤◌, List, length, slice_index_or}
use Rattle.qc_odds.specs.Lengths.{most_length}
use Rattle.qc_odds.specs.Moments.{most_end, most_held}
use Rattle.qc_odds.specs.Sums.{no_crane_sum, no_task_sum}
use Rattle.qc_odds.specs.declared.sums.CraneSum.{CraneSum}
use Rattle.qc_odds.specs.declared.sums.TaskSum.{TaskSum}

-- no more than so many runs may come to for a crane
pub record IsSmallCrane (runs : ℕ) (sum : CraneSum) : Type 0 where
  pub ends : sum.ends ≤ runs * most_end
  pub held : sum.held ≤ runs * most_held
  pub lasts : sum.lasts ≤ runs

-- and for a task
pub record IsSmallTask (runs : ℕ) (sum : TaskSum) : Type 0 where
  pub critical : sum.critical ≤ runs
  pub over : sum.over ≤ runs * most_length

abbrev pub AreSmallCranes : (runs : ℕ) → List CraneSum → Type 0
AreSmallCranes runs sums = (k : ℕ) → k < length sums → IsSmallCrane runs (slice_index_or sums k no_crane_sum)

abbrev pub AreSmallTasks : (runs : ℕ) → List TaskSum → Type 0
AreSmallTasks runs sums = (j : ℕ) → j < length sums → IsSmallTask runs (slice_index_or sums j no_task_sum)
