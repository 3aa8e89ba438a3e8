-- inner: tasks that are passed one after the other, each as soon as those that lead it let it.
use Rattle.std.specs.Prelude.{◌≡◌, ℕ, ◌+◌, ◌*◌, ◌<◌, ◌≤◌, ◌↔◌, Bool, true, false, List, length, Option, None, Some, slice_index, slice_index_or}
use Rattle.qc_dispatch.specs.Order.{Leads, gap}
use Rattle.qc_model.specs.declared.schedule.Slot.{Slot}
use Rattle.qc_model.specs.Instance.{InstanceView, ticks_of}
use Rattle.qc_model.specs.Numbers.{most_distance, most_tasks, most_work}
use Rattle.qc_model.specs.Rules.{start_of}
use Rattle.qc_rest.specs.declared.pass.Pass.{Pass}

-- task j is still to be passed
abbrev pub is_open : List Bool → ℕ → Bool
is_open left j = slice_index_or left j false

-- when task j ends, if that is known
abbrev pub end_in : List (Option ℕ) → ℕ → Option ℕ
end_in ends j = slice_index_or ends j None

-- of the first n tasks this one is to be passed, and none of those starts sooner by the plan
pub record IsSoonestOf (plan : List Slot) (left : List Bool) (n j : ℕ) : Type 0 where
  pub inside : j < n
  pub is : is_open left j ≡ true
  pub soonest : (i : ℕ) → i < n → is_open left i ≡ true → start_of plan j ≤ start_of plan i

abbrev pub IsSoonest : List Slot → List Bool → (n : ℕ) → Option ℕ → Type 0
IsSoonest plan left n None = (j : ℕ) → j < n → is_open left j ≡ false
IsSoonest plan left n (Some j) = IsSoonestOf plan left n j

-- by this moment task j may start: it is no sooner than its first one, and each task that leads it and has an end is
-- over, by the gap
pub record MayBy (inst : InstanceView) (plan : List Slot) (first : ℕ) (ends : List (Option ℕ)) (j moment : ℕ) : Type 0 where
  pub from : first ≤ moment
  pub clear : (i end : ℕ) → Leads inst plan i j → end_in ends i ≡ Some end → end + gap inst plan i j ≤ moment

abbrev pub IsBegin : InstanceView → List Slot → (first : ℕ) → List (Option ℕ) → (j start : ℕ) → Type 0
IsBegin inst plan first ends j start = (moment : ℕ) → (start ≤ moment) ↔ MayBy inst plan first ends j moment

-- no end is later than this
abbrev pub EndBy : List (Option ℕ) → ℕ → Type 0
EndBy ends moment = (j end : ℕ) → end_in ends j ≡ Some end → end ≤ moment

-- nor a start
abbrev pub StartBy : List ℕ → ℕ → Type 0
StartBy starts moment = (j : ℕ) → slice_index starts j ≤ moment

-- with each task that is passed the last end rises by no more than this
abbrev pub most_step : ℕ
most_step = most_work + most_distance

abbrev pub most_rise : ℕ
most_rise = most_tasks * most_step

-- each list has an entry a task
pub record HasRoom (inst : InstanceView) (p : Pass) : Type 0 where
  pub left : length p.left.items ≡ length inst.tasks
  pub starts : length p.starts.items ≡ length inst.tasks
  pub ends : length p.ends.items ≡ length inst.tasks

-- task j was passed: it starts as soon as it may, and ends when it has had its length
pub record IsPassed (inst : InstanceView) (plan : List Slot) (first : ℕ) (p : Pass) (j : ℕ) : Type 0 where
  pub start : IsBegin inst plan first p.ends.items j (slice_index p.starts.items j)
  pub end : end_in p.ends.items j ≡ Some (slice_index p.starts.items j + ticks_of inst j)

-- all tasks that were to be passed are, and nothing else changed
pub record ArePassed (inst : InstanceView) (plan : List Slot) (old new : Pass) : Type 0 where
  pub room : HasRoom inst new
  pub passed : (j : ℕ) → j < length inst.tasks → is_open old.left.items j ≡ true
      → IsPassed inst plan (slice_index old.starts.items j) new j
  pub others : (j : ℕ) → is_open old.left.items j ≡ false → end_in new.ends.items j ≡ end_in old.ends.items j
  pub soon : (base : ℕ) → StartBy old.starts.items base → EndBy old.ends.items base
      → StartBy new.starts.items (base + most_rise) × EndBy new.ends.items (base + most_rise)
