-- public: critical tasks: a tick more of one ends the run later.
use Rattle.std.specs.Prelude.{◌≡◌, ℕ, ◌+◌, ◌<◌, ◌↔◌, ◌⊎◌, Bool, true, false, IsTrue, List, length, slice_index, slice_index_or, slice_set}
use Rattle.qc_dispatch.specs.Order.{Leads, gap}
use Rattle.qc_model.specs.declared.schedule.Slot.{Slot}
use Rattle.qc_model.specs.Instance.{InstanceView}
use Rattle.qc_odds.specs.Course.{end_in}

-- the lengths with a tick more of one task
abbrev pub with_tick_more : List ℕ → ℕ → List ℕ
with_tick_more lengths j = slice_set lengths j (slice_index lengths j + 1)

-- task j is marked
abbrev pub is_marked : List Bool → ℕ → Bool
is_marked marked j = slice_index_or marked j false

-- a marked task starts at the very end of task j, by their gap
pub record HoldsUp (inst : InstanceView) (plan : List Slot) (lengths starts : List ℕ) (marked : List Bool) (j next : ℕ) : Type 0 where
  pub leads : Leads inst plan j next
  pub tight : end_in lengths starts j + gap inst plan j next ≡ slice_index starts next
  pub is : is_marked marked next ≡ true

-- task j ends last, or holds up a marked one
abbrev pub Matters : InstanceView → List Slot → (lengths starts : List ℕ) → (last : ℕ) → List Bool → ℕ → Type 0
Matters inst plan lengths starts last marked j =
    (end_in lengths starts j ≡ last) ⊎ ((next : ℕ) × HoldsUp inst plan lengths starts marked j next)

-- those are marked that matter
pub record AreMarked (inst : InstanceView) (plan : List Slot) (lengths starts : List ℕ) (last : ℕ) (marked : List Bool) : Type 0 where
  pub count : length marked ≡ length inst.tasks
  pub each_one : (j : ℕ) → j < length inst.tasks → IsTrue (is_marked marked j) ↔ Matters inst plan lengths starts last marked j
