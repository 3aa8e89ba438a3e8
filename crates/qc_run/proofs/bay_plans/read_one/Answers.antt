use Rattle.std.proofs.Common.{ap, sym, ◌∙◌}
use Rattle.qc_bayplan.specs.Reading.{bay_plan_in}
use Rattle.qc_num.specs.Reading.{with_fault}
use Rattle.qc_run.specs.declared.refusal.Refusal.TheVariants as refusal
use Rattle.qc_run.specs.Inputs.{moving}
use Rattle.qc_run.proofs.StepLemmas.{plan_refused, step_same}
use Rattle.qc_run.proofs.bay_plans.read_one.Goals as goal

pub returns-in-Ok : goal.returns-in-Ok
returns-in-Ok g c =
    step_same _ _ _ c.in_ok-bytes.ensures.step
    (λ held. ap (with_fault (refusal.BadBayPlan c.args.which)) (ap (bay_plan_in c.args.which) (sym c.as_slice.ensures) ∙ c.in-Ok.ensures))

pub returns-in-Err-Fault : goal.returns-in-Err-Fault
returns-in-Err-Fault g c =
    plan_refused c.args.which (moving c.args.asked.now) c.in_ok-bytes.ensures.step c.in-Err-Fault.fault
    (ap (bay_plan_in c.args.which) (sym c.as_slice.ensures) ∙ (rw c.in-Err-Fault.field-0-is at c.in-Err-Fault.ensures))
