use Rattle.std.proofs.Common.{arith}
use Rattle.qc_rest.proofs.LateLemmas.{goes_first, starts_soon}
use Rattle.qc_rest.proofs.OldLemmas.{old_feasible}
use Rattle.qc_rest.proofs.laws.the_old_order_is_late_by_less_than_a_bay.Goals as goal

pub returns : goal.returns
returns c = record {
  feasible = old_feasible;
  no_sooner = goes_first;
  soon = λ o valid plan keeps known stand gone tops places are rest exact sched old j waits.
      omega (arith, starts_soon o valid plan keeps known stand gone tops places are rest exact sched old j waits);
}
