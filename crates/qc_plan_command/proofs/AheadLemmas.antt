-- The turn of an instance is no part of what can be judged.
use Rattle.std.proofs.Common.{List, Option, None, Some, IfSome}
use Rattle.qc_model.specs.declared.schedule.Slot.{Slot}
use Rattle.qc_model.specs.declared.turn.Turn.TheVariants.{OneWay}
use Rattle.qc_model.specs.Instance.{InstanceView, with_turn}
use Rattle.qc_model.specs.Judge.{IsJudgeable}

pub judgeable_back : (inst : InstanceView) (sched : List Slot) → IsJudgeable (with_turn inst OneWay) sched
    → IsJudgeable inst sched
judgeable_back inst sched judged =
    record { all_tasks = judged.all_tasks; crane_range = judged.crane_range; start_range = judged.start_range }

pub judgeable_turned : (inst : InstanceView) {R : Type 0} (now : R → List Slot) (own : Option R)
    → IfSome own (λ s. IsJudgeable inst (now s)) → IfSome own (λ s. IsJudgeable (with_turn inst OneWay) (now s))
judgeable_turned inst now None judged = tt
judgeable_turned inst now (Some s) judged =
    record { all_tasks = judged.all_tasks; crane_range = judged.crane_range; start_range = judged.start_range }
