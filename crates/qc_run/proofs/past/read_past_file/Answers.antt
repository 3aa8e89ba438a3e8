use Rattle.std.proofs.Common.{ap, sym, ◌∙◌}
use Rattle.qc_num.specs.Reading.{with_fault}
use Rattle.qc_past.specs.PastFile.{past_in}
use Rattle.qc_run.specs.declared.refusal.Refusal.TheVariants as refusal
use Rattle.qc_run.proofs.StepLemmas.{step_same}
use Rattle.qc_run.proofs.past.read_past_file.Goals as goal

pub returns-in-Ok : goal.returns-in-Ok
returns-in-Ok g c =
    step_same _ _ _ c.in_ok-bytes.ensures
    (λ held. ap (with_fault refusal.BadPast) (ap past_in (sym c.as_slice.ensures) ∙ c.in-Ok.ensures))
