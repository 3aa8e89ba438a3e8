use Rattle.std.proofs.Common.{◌-◌}
use Rattle.qc_close.specs.Bands.{AreBelow}
use Rattle.qc_close.proofs.crew.Crew.nearest.Given as goal

abbrev pub invariant-loop-above : goal.invariant-loop-above
invariant-loop-above l = AreBelow l.self.inst l.self.cranes l.task (l.fn.cranes - l.above) l.low
