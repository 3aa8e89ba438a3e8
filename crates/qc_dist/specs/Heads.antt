-- inner: when tasks can start at the least, as it is kept for an instance.
use Rattle.std.specs.Prelude.{◌≡◌, ℕ, ◌+◌, ◌<◌, ◌≤◌, List, [], length, slice_index, slice_index_or}
use Rattle.qc_model.specs.declared.limits.TheConstants.{MOST_DISTANCE, MOST_READY}
use Rattle.qc_dist.specs.declared.heads.Heads.{Heads}
use Rattle.qc_model.specs.Instance.{InstanceView}
use Rattle.qc_model.specs.Nodes.{free, head}

-- when each crane can first begin task j, with all berths clear
pub record IsFreeRow (inst : InstanceView) (j : ℕ) (row : List ℕ) : Type 0 where
  pub count : length inst.cranes ≤ length row
  pub values : (k : ℕ) → k < length inst.cranes
      → (slice_index row k ≡ free inst j k) × (slice_index row k ≤ MOST_READY + MOST_DISTANCE)

-- when task j can start at the least: with each crane, and while it has none
pub record IsHeads (inst : InstanceView) (j : ℕ) (heads : Heads) : Type 0 where
  pub free : IsFreeRow inst j heads.free
  pub least : heads.least ≡ head inst [] j
  pub bound : heads.least ≤ MOST_READY + MOST_DISTANCE

-- when each task can start at the least
pub record IsHeadTable (inst : InstanceView) (table : List Heads) : Type 0 where
  pub count : length table ≡ length inst.tasks
  pub heads : (j : ℕ) (d : Heads) → j < length inst.tasks → IsHeads inst j (slice_index_or table j d)
