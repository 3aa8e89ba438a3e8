use Rattle.qc_watch.proofs.Soonest.{IsSoonest}
use Rattle.qc_watch.proofs.cursors.Cursors.soonest.Given as goal

-- the first of the next reports of the cranes so far
abbrev pub invariant-loop-crane : goal.invariant-loop-crane
invariant-loop-crane l = IsSoonest l.reports l.self.next l.crane l.soonest
