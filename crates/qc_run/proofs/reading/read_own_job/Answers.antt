use Rattle.std.proofs.Common.{refl}
use Rattle.qc_run.proofs.StepLemmas.{instance_steady, step_same, step_stops, step_then}
use Rattle.qc_run.proofs.reading.read_own_job.Goals as goal

pub returns-in_err-inst-clause-step : goal.returns-in_err-inst-clause-step
returns-in_err-inst-clause-step g c =
    step_stops _ _ _ c.in_err-inst.ensures.step c.from_residual.ensures.1

pub returns-in_err-own-clause-step : goal.returns-in_err-own-clause-step
returns-in_err-own-clause-step g c =
    step_then _ _ _ instance_steady c.in_ok-inst.ensures.step
    (step_stops _ _ _ c.in_err-own.ensures.step c.from_residual-in_err-own.ensures.1)

pub returns-clause-step : goal.returns-clause-step
returns-clause-step g c =
    step_then _ _ _ instance_steady c.in_ok-inst.ensures.step
    (step_same _ _ _ c.in_ok-own.ensures.step (λ held. refl))
