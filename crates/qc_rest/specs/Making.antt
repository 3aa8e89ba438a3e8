-- inner: numbers among the tasks that are left.
use Rattle.std.specs.Prelude.{◌≡◌, ℕ, ◌<◌, List, length, slice_index, slice_index_or}
use Rattle.qc_dispatch.specs.Course.{Course}
use Rattle.qc_model.specs.declared.pair.Pair.{Pair}
use Rattle.qc_model.specs.Instance.{pair_of}
use Rattle.qc_rest.specs.Progress.{number_of}

-- the number of each task
pub record AreNumbers (c : Course) (numbers : List ℕ) : Type 0 where
  pub count : length numbers ≡ length c.inst.tasks
  pub each_one : (j : ℕ) → j < length c.inst.tasks → slice_index numbers j ≡ number_of c j

-- the tasks of each pair are tasks of the instance
abbrev pub ArePairs : Course → List Pair → Type 0
ArePairs c pairs = (at : ℕ) → at < length pairs
    → ((slice_index_or pairs at (pair_of 0 0)).first < length c.inst.tasks)
    × ((slice_index_or pairs at (pair_of 0 0)).second < length c.inst.tasks)
