use Rattle.qc_motion.specs.Sweep.{IsFirst, IsHigher, passing}
use Rattle.qc_motion.proofs.sweep.Sweep.first_above.Given as goal

abbrev pub invariant-loop-task : goal.invariant-loop-task
invariant-loop-task l = IsFirst (IsHigher l.self l.place) (passing l.self l.place) l.task l.end l.first
