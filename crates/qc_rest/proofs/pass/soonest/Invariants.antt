use Rattle.qc_rest.specs.Passing.{IsSoonest}
use Rattle.qc_rest.proofs.pass.soonest.Given as goal

abbrev pub invariant-loop-j : goal.invariant-loop-j
invariant-loop-j l = IsSoonest l.slots l.left l.j l.found
