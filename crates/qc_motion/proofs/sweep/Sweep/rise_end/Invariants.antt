use Rattle.qc_model.specs.Rules.{start_of}
use Rattle.qc_motion.specs.Sweep.{IsLast, IsOnRise}
use Rattle.qc_motion.proofs.sweep.Sweep.rise_end.Given as goal

abbrev pub invariant-loop-task : goal.invariant-loop-task
invariant-loop-task l = IsLast (IsOnRise l.self l.at l.place) (start_of l.self.sched) l.task l.at l.end
