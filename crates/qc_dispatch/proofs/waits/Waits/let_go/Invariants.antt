use Rattle.qc_dispatch.proofs.TableLemmas.{LetGoBelow}
use Rattle.qc_dispatch.proofs.waits.Waits.let_go.Given as goal

abbrev pub invariant-loop-j : goal.invariant-loop-j
invariant-loop-j l = LetGoBelow l.inst l.slots l.marks l.task l.moment l.j l.initial.self.items.items l.self.items.items
