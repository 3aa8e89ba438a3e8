use Rattle.qc_close.specs.Lefts.{IsLeft}
use Rattle.qc_close.proofs.CrewLemmas.{opened}
use Rattle.qc_close.proofs.left.add_tasks.Given as goal

abbrev pub invariant-loop-number : goal.invariant-loop-number
invariant-loop-number l = IsLeft l.inst (opened l.inst l.number) l.left
