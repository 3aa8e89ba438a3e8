use Rattle.qc_motion.specs.Sweep.{IsHighest}
use Rattle.qc_motion.proofs.sweep.Sweep.place_by_tasks.Given as goal

abbrev pub invariant-loop-task : goal.invariant-loop-task
invariant-loop-task l = IsHighest l.self l.at l.task 0 l.place
