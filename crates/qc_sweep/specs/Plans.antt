-- public: what holds of a first plan.
use Rattle.std.specs.Prelude.{◌≤◌}
use Rattle.qc_model.specs.Instance.{InstanceView}
use Rattle.qc_model.specs.Judge.{IsDirection, IsJudgeable}
use Rattle.qc_model.specs.Numbers.{most_start}
use Rattle.qc_model.specs.Rules.{ends}
use Rattle.qc_sweep.specs.declared.going.Going.{Going}

-- a schedule that a search can begin with: it can be judged, this is its direction, and it ends at a tick of at most
-- twelve digits
pub record IsFirstPlan (inst : InstanceView) (plan : Going) : Type 0 where
  pub judgeable : IsJudgeable inst plan.sched
  pub direction : IsDirection inst plan.sched plan.way
  pub soon : ends inst plan.sched ≤ most_start
