use Rattle.qc_close.proofs.WalkLemmas.{WalkedTo}
use Rattle.qc_close.proofs.count.Count.walk_along.Given as goal

abbrev pub invariant-loop-count : goal.invariant-loop-count
invariant-loop-count l = WalkedTo l.self.travel l.tick l.self.frames.now l.self.left.now l.way l.count l.walk
