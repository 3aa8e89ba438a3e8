use Rattle.qc_dispatch.proofs.TableLemmas.{MarksBelow}
use Rattle.qc_dispatch.proofs.order.lead_marks.Given as goal

abbrev pub invariant-loop-at : goal.invariant-loop-at
invariant-loop-at l = MarksBelow l.inst l.slots l.at l.marks.items
