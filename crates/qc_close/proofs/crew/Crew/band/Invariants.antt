use Rattle.qc_close.specs.Bands.{IsBandOf}
use Rattle.qc_close.proofs.crew.Crew.band.Given as goal

abbrev pub invariant-loop-task : goal.invariant-loop-task
invariant-loop-task l = IsBandOf l.self.inst l.self.cranes l.tasks l.crane l.task-index l.band
