-- Longer tasks start no sooner, so the starts are one.
use Rattle.std.proofs.Common.{ℕ, zero, suc, ◌+◌, ◌<◌, ◌≤◌, List, length, slice_index, arith}
use Rattle.qc_model.specs.declared.schedule.Slot.{Slot}
use Rattle.qc_model.specs.Instance.{InstanceView}
use Rattle.qc_model.specs.Rules.{start_of}
use Rattle.qc_odds.specs.Course.{AreStarts, MayStartBy}

module _ (inst : InstanceView) (plan : List Slot) (lengths starts : List ℕ) (are : AreStarts inst plan lengths starts) where
  -- starts that leave each task room, with lengths that are no less
  pub record LeaveRoom (begin long : ℕ → ℕ) : Type 0 where
    pub longer : (j : ℕ) → j < length inst.tasks → slice_index lengths j ≤ long j
    pub room : (j : ℕ) → j < length inst.tasks → MayStartBy inst plan (λ i. begin i + long i) j (begin j)

  module _ (begin long : ℕ → ℕ) (leave : LeaveRoom begin long) where
    below : (bound j : ℕ) → start_of plan j < bound → j < length inst.tasks → slice_index starts j ≤ begin j
    below zero j early low = absurd (omega arith)
    below (suc bound) j early low = (are.each_one j low (begin j)).1 (record {
      free = (leave.room j low).free;
      clear = λ i leads. omega (
        arith,
        below bound i (omega (arith, early, leads.sooner)) leads.leader,
        leave.longer i leads.leader,
        (leave.room j low).clear i leads,
      );
    })

    pub no_later : (j : ℕ) → j < length inst.tasks → slice_index starts j ≤ begin j
    no_later j low = below (start_of plan j + 1) j (omega arith) low

-- the starts with other lengths are such
pub starts_leave_room : (inst : InstanceView) (plan : List Slot) (lengths starts others later : List ℕ) (are : AreStarts inst plan lengths starts) → AreStarts inst plan others later
    → ((j : ℕ) → j < length inst.tasks → slice_index lengths j ≤ slice_index others j)
    → (j : ℕ) → j < length inst.tasks → slice_index starts j ≤ slice_index later j
starts_leave_room inst plan lengths starts others later are those longer =
    no_later inst plan lengths starts are (λ j. slice_index later j) (λ j. slice_index others j)
    (record { longer = longer; room = λ j low. (those.each_one j low (slice_index later j)).0 (omega arith) })
