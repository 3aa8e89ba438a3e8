use Rattle.qc_dispatch.proofs.TableLemmas.{WaitsBelow}
use Rattle.qc_dispatch.proofs.waits.Waits.new.Given as goal

abbrev pub invariant-loop-j : goal.invariant-loop-j
invariant-loop-j l = WaitsBelow l.inst l.slots l.marks l.j l.items.items
