use Rattle.qc_close.specs.Bands.{IsReach}
use Rattle.qc_close.proofs.crew.Crew.reach.Given as goal

abbrev pub invariant-loop-task : goal.invariant-loop-task
invariant-loop-task l = IsReach l.self.inst l.self.cranes l.tasks l.task-index l.low l.high
