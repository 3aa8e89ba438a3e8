-- What is kept of a plan, where it is kept in copies.
use Rattle.std.proofs.Common.{◌≡◌, ℕ, Bool, List, length}
use Rattle.qc_dispatch.specs.Marks.{AreMarks}
use Rattle.qc_model.specs.declared.schedule.Slot.{Slot}
use Rattle.qc_model.specs.Instance.{InstanceView}
use Rattle.qc_model.specs.Rules.{Feasible}
use Rattle.qc_odds.specs.Kept.{AreKept}
use Rattle.qc_odds.specs.Order.{AreTurns}
use Rattle.qc_odds.specs.declared.order.PlannedStart.{PlannedStart}

pub kept_made : (inst copied : InstanceView) (plan slots : List Slot) (starts : List ℕ) → copied ≡ inst → slots ≡ plan → Feasible inst plan
    → (marks : List Bool) → AreMarks inst plan marks → (turns : List PlannedStart) → AreTurns inst plan turns → length starts ≡ length inst.tasks
    → AreKept (record { inst = copied; plan = slots; starts = starts }) marks turns
kept_made inst copied plan slots starts same_inst same_plan feasible marks are_marks turns are_turns count =
    rw (same_inst, same_plan) (record { feasible = feasible; marks_are = are_marks; turns_are = are_turns; starts_count = count })
