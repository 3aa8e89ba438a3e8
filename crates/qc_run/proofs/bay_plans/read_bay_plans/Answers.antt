use Rattle.std.proofs.Common.{refl}
use Rattle.qc_bayplan.specs.declared.plan.Which.TheVariants.{Arrival}
use Rattle.qc_run.proofs.StepLemmas.{plan_steady, step_same, step_stops, step_then}
use Rattle.qc_run.proofs.bay_plans.read_bay_plans.Goals as goal

pub returns-in_err-arrival : goal.returns-in_err-arrival
returns-in_err-arrival g c = step_stops _ _ _ c.in_err-arrival.ensures c.from_residual.ensures.1

pub returns-in_err-departure : goal.returns-in_err-departure
returns-in_err-departure g c =
    step_then _ _ _ (plan_steady Arrival) c.in_ok-arrival.ensures
    (step_stops _ _ _ c.in_err-departure.ensures c.from_residual-in_err-departure.ensures.1)

pub returns : goal.returns
returns g c =
    step_then _ _ _ (plan_steady Arrival) c.in_ok-arrival.ensures
    (step_same _ _ _ c.in_ok-departure.ensures (λ held. refl))
