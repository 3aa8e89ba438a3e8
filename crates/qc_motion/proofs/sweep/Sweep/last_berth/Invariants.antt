use Rattle.std.proofs.Common.{◌+◌}
use Rattle.qc_motion.specs.Sweep.{IsBerthAt, IsLast, ready_of}
use Rattle.qc_motion.proofs.sweep.Sweep.last_berth.Given as goal

abbrev pub invariant-loop-number : goal.invariant-loop-number
invariant-loop-number l = IsLast (IsBerthAt l.self l.place) (ready_of l.self) l.number (l.at + 1) l.last
