use Rattle.qc_rest.proofs.PassLemmas.{IsGoing, open_count}
use Rattle.qc_rest.proofs.pass.Pass.run.Given as goal

abbrev pub invariant-loop-j : goal.invariant-loop-j
invariant-loop-j l = IsGoing l.inst l.slots l.initial.self l.self

abbrev pub decreases-loop-j : goal.decreases-loop-j
decreases-loop-j l = open_count l.self.left.items
