-- inner: packed tasks that show when a node ends at the soonest.
use Rattle.std.specs.Prelude.{◌≡◌, ℕ, ◌+◌, ◌*◌, ◌≤◌, List, Some}
use Rattle.std.specs.Option.{option_map_or}
use Rattle.qc_close.specs.Model.{Decision, MOST_DISTANCE, MOST_START, MOST_TASKS, MOST_WORK, early, InstanceView, packed_end}

-- from when a task can start; 0 where that isn't known
abbrev pub early_at : InstanceView → List Decision → ℕ → ℕ
early_at inst ds j = option_map_or (λ begins. begins j) (early inst ds) 0

-- so soon that packed tasks which begin then end by the last start
abbrev pub IsSoon : ℕ → Type 0
IsSoon tick = tick + (MOST_TASKS * MOST_WORK + MOST_DISTANCE) ≤ MOST_START

-- the tasks are packed and show this end
pub record IsPackedShown (inst : InstanceView) (ds : List Decision) (tasks : List ℕ) (end : ℕ) : Type 0 where
  pub shows : packed_end inst ds tasks ≡ Some end
  pub soon : end ≤ MOST_START

-- they do, and it is this end or a later one
pub record IsPackedFrom (inst : InstanceView) (ds : List Decision) (least : ℕ) (tasks : List ℕ) (end : ℕ) : Type 0 where
  pub shown : IsPackedShown inst ds tasks end
  pub late : least ≤ end
