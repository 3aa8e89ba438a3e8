use Rattle.qc_freemove.specs.FreeSweep.{AreSteady}
use Rattle.qc_freemove.proofs.sweep.Sweep.next_change.Given as goal

abbrev pub invariant-loop-number : goal.invariant-loop-number
invariant-loop-number l = AreSteady l.self l.at l.number l.end l.next
