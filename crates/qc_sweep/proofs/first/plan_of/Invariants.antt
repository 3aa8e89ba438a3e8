use Rattle.std.specs.Prelude.{IfSome}
use Rattle.qc_sweep.specs.Plans.{IsFirstPlan}
use Rattle.qc_sweep.proofs.first.plan_of.Given as goal

abbrev pub invariant-loop-width : goal.invariant-loop-width
invariant-loop-width l = IfSome l.hunt.best (IsFirstPlan l.inst)
