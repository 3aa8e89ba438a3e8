use Rattle.qc_starts.specs.Found.{IsLast}
use Rattle.qc_starts.proofs.latest.latest.Given as goal

abbrev pub invariant-loop-task : goal.invariant-loop-task
invariant-loop-task l = IsLast l.network.inst l.values.cells l.task l.last
