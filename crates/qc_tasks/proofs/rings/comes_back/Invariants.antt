use Rattle.qc_tasks.specs.Marks.{AreReached, unmarked}
use Rattle.qc_tasks.proofs.rings.comes_back.Given as goal

abbrev pub invariant-loop : goal.invariant-loop
invariant-loop l = AreReached l.pairs l.task l.marks

abbrev pub decreases-loop : goal.decreases-loop
decreases-loop l = unmarked l.marks
