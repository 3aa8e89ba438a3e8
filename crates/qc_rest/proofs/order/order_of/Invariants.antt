use Rattle.qc_rest.proofs.FollowLemmas.{IsOrderFor}
use Rattle.qc_rest.proofs.order.order_of.Given as goal

abbrev pub invariant-loop-task : goal.invariant-loop-task
invariant-loop-task l = IsOrderFor l.journal.dispatch l.starts.items l.task l.order
