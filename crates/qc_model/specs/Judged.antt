-- public: what is judged, and the searches of the judge.
use Rattle.std.specs.Prelude.{ℕ, ◌<◌, List, length}
use Rattle.qc_model.specs.declared.rules.Rule.{Rule}
use Rattle.qc_model.specs.declared.schedule.Slot.{Slot}
use Rattle.qc_model.specs.Instance.{InstanceView}
use Rattle.qc_model.specs.Judge.{IsJudgedAt, Keeps}

-- an instance and a schedule of it, as they are seen with a direction
pub record Judged : Type 0 where
  pub inst : InstanceView
  pub sched : List Slot

-- the rule holds at task i and each task below n beside which it is judged
abbrev pub KeepsBeside : Judged → Rule → ℕ → ℕ → Type 0
KeepsBeside it rule i n = (j : ℕ) → IsJudgedAt rule i j → j < n → Keeps it.inst it.sched rule i j

-- beside task i the rule fails at task j first
pub record IsFirstBeside (it : Judged) (rule : Rule) (i j : ℕ) : Type 0 where
  pub judged : IsJudgedAt rule i j
  pub range : j < length it.inst.tasks
  pub fails : ¬ Keeps it.inst it.sched rule i j
  pub first : KeepsBeside it rule i j
