use Rattle.std.proofs.Common.{length}
use Rattle.qc_motion.specs.Sweep.{IsHighest}
use Rattle.qc_motion.proofs.sweep.Sweep.place.Given as goal

abbrev pub invariant-loop-number : goal.invariant-loop-number
invariant-loop-number l = IsHighest l.self l.at (length l.self.inst.tasks) l.number l.place
