use Rattle.std.specs.Prelude.{IfSome}
use Rattle.qc_sweep.specs.Plans.{IsFirstPlan}
use Rattle.qc_sweep.proofs.first.climb.Given as goal

abbrev pub invariant-loop : goal.invariant-loop
invariant-loop l = IfSome l.hunt.best (IsFirstPlan l.inst)
