-- public: a table of which task of a plan leads which.
use Rattle.std.specs.Prelude.{◌≡◌, ℕ, ◌+◌, ◌*◌, ◌<◌, ◌↔◌, Bool, false, IsTrue, List, length, slice_index_or}
use Rattle.qc_dispatch.specs.Order.{Leads}
use Rattle.qc_model.specs.declared.limits.TheConstants.{MOST_TASKS}
use Rattle.qc_model.specs.declared.schedule.Slot.{Slot}
use Rattle.qc_model.specs.Instance.{InstanceView}

-- what a table of pairs of tasks holds for a pair
abbrev pub mark : List Bool → ℕ → ℕ → Bool
mark marks i j = slice_index_or marks (MOST_TASKS * i + j) false

-- the table says which task leads which
pub record AreMarks (inst : InstanceView) (plan : List Slot) (marks : List Bool) : Type 0 where
  pub count : length marks ≡ length inst.tasks * MOST_TASKS
  pub says : (i j : ℕ) → i < length inst.tasks → j < length inst.tasks
      → IsTrue (mark marks i j) ↔ Leads inst plan i j
