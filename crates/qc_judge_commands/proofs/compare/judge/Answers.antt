use Rattle.std.proofs.Common.{Err, ap, inl}
use Rattle.qc_run.specs.Due.{job_due}
use Rattle.qc_run.specs.Inputs.{names_of}
use Rattle.qc_run.proofs.AccountLemmas.{reads_stopped}
use Rattle.qc_run.proofs.StepLemmas.{job_early, no_fault_yet}
use Rattle.qc_judge_commands.specs.Shown.{IsNoneShown}
use Rattle.qc_judge_commands.proofs.ReadLemmas.{judging_from}
use Rattle.qc_judge_commands.proofs.compare.judge.Goals as goal

pub returns-in-Err : goal.returns-in-Err
returns-in-Err g c =
    let step = c.in-Err.ensures.step in
    reads_stopped step (
      inl step.err,
      λ fault e. no_fault_yet job_due job_early (names_of c.args.inputs.now) (g.S.Sink.view c.args.shelf.now)
          (g.S.Sink.view c.read_job.new.shelf) (Err c.in-Err.stop) step.err fault (ap Err e)
          (λ held. IsNoneShown (names_of c.args.inputs.now) held),
    )

pub returns-in-None : goal.returns-in-None
returns-in-None g c =
    let step = c.in-Ok.ensures.step in
    judging_from (names_of c.args.inputs.now) (g.S.Sink.view c.args.shelf.now) (g.S.Sink.view c.read_job.new.shelf)
    (g.S.Sink.view c.compare.new.shelf) c.compare.result step.files step.made step.faults step.ok.0 c.compare.ensures
