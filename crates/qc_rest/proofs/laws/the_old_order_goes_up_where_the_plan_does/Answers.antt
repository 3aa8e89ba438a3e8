use Rattle.qc_rest.proofs.OldLemmas.{old_feasible, old_upward}
use Rattle.qc_rest.proofs.laws.the_old_order_goes_up_where_the_plan_does.Goals as goal

pub returns : goal.returns
returns c = λ course over stands places rest sched valid plan keeps exact old. record {
  feasible = old_feasible course over stands places rest sched valid plan.feasible keeps exact old;
  upward = old_upward course over stands places rest sched valid plan.feasible keeps exact old plan.upward;
}
