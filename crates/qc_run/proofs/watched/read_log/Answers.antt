use Rattle.std.proofs.Common.{ap, sym, ◌∙◌}
use Rattle.qc_num.specs.Reading.{with_fault}
use Rattle.qc_watch.specs.Log.{reports_in}
use Rattle.qc_run.specs.declared.refusal.LogFault.TheVariants as log
use Rattle.qc_run.specs.declared.refusal.Refusal.TheVariants as refusal
use Rattle.qc_run.proofs.StepLemmas.{step_same}
use Rattle.qc_run.proofs.watched.read_log.Goals as goal

pub returns-in-Ok-clause-step : goal.returns-in-Ok-clause-step
returns-in-Ok-clause-step g c =
    step_same _ _ _ c.in_ok-bytes.ensures
    (λ held. ap (with_fault (λ fault. refusal.BadLog (log.Watch fault))) (ap (reports_in c.args.ship.now) (sym c.as_slice.ensures) ∙ c.in-Ok.ensures.reports))
