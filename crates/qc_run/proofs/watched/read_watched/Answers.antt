use Rattle.std.proofs.Common.{refl}
use Rattle.qc_run.proofs.StepLemmas.{ship_steady, step_same, step_stops, step_then}
use Rattle.qc_run.proofs.watched.read_watched.Goals as goal

pub returns-in_err-ship-clause-step : goal.returns-in_err-ship-clause-step
returns-in_err-ship-clause-step g c =
    step_stops _ _ _ c.in_err-ship.ensures c.from_residual.ensures.1

pub returns-in_err-reports-clause-step : goal.returns-in_err-reports-clause-step
returns-in_err-reports-clause-step g c =
    step_then _ _ _ ship_steady c.in_ok-ship.ensures
    (step_stops _ _ _ c.in_err-reports.ensures.step c.from_residual-in_err-reports.ensures.1)

pub returns-clause-step : goal.returns-clause-step
returns-clause-step g c =
    step_then _ _ _ ship_steady c.in_ok-ship.ensures
    (step_same _ _ _ c.in_ok-reports.ensures.step (λ held. refl))
