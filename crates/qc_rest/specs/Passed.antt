-- inner: one task passed.
use Rattle.std.specs.Prelude.{◌≡◌, ℕ, ◌+◌, ◌≤◌, List, Option, Some, false, slice_index, slice_set}
use Rattle.qc_dispatch.specs.Course.{past_moments}
use Rattle.qc_dispatch.specs.Following.{most_passed}
use Rattle.qc_dispatch.specs.Order.{Leads, gap}
use Rattle.qc_model.specs.declared.schedule.Slot.{Slot}
use Rattle.qc_model.specs.Instance.{InstanceView, ticks_of}
use Rattle.qc_model.specs.Numbers.{most_distance, most_work}
use Rattle.qc_rest.specs.declared.pass.Pass.{Pass}
use Rattle.qc_rest.specs.Passing.{EndBy, IsBegin, end_in, most_rise}

-- the last moment from which on a task may be passed, and the last one at which one is over
abbrev pub most_first : ℕ
most_first = past_moments + most_passed

abbrev pub most_base : ℕ
most_base = most_first + most_rise

-- by this moment task i lets task j start
abbrev pub LetsBy : InstanceView → List Slot → List (Option ℕ) → (i j moment : ℕ) → Type 0
LetsBy inst plan ends i j moment =
    Leads inst plan i j → (end : ℕ) → end_in ends i ≡ Some end → end + gap inst plan i j ≤ moment

-- task j is passed
pub record IsStep (inst : InstanceView) (plan : List Slot) (old : Pass) (j : ℕ) (new : Pass) : Type 0 where
  pub start : ℕ
  pub is : IsBegin inst plan (slice_index old.starts.items j) old.ends.items j start
  pub soon : (base : ℕ) → slice_index old.starts.items j ≤ base → EndBy old.ends.items base → start ≤ base + most_distance
  pub starts : new.starts.items ≡ slice_set old.starts.items j start
  pub ends : new.ends.items ≡ slice_set old.ends.items j (Some (start + ticks_of inst j))
  pub left : new.left.items ≡ slice_set old.left.items j false
  pub long : ticks_of inst j ≤ most_work
