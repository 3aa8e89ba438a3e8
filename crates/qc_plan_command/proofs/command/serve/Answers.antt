use Rattle.std.proofs.Common.{Ok, Option, ap, sym, subst, ◌∙◌}
use Rattle.qc_io.specs.Outside.{Files, View}
use Rattle.qc_run.specs.Due.{own_job_due}
use Rattle.qc_run.specs.Inputs.{planning}
use Rattle.qc_run.specs.Steps.{ComesTo}
use Rattle.qc_plan_command.proofs.StoreLemmas.{over_read, own_broken, seen_allowed}
use Rattle.qc_plan_command.proofs.command.serve.Goals as goal

pub returns-in-Err-clause-serves : goal.returns-in-Err-clause-serves
returns-in-Err-clause-serves g c =
    let view = g.S.Sink.view in
    own_broken (planning c.args.asked.now) (view c.args.shelf.now) (view c.read_own_job.new.shelf) c.in_ok-job.job
    c.in-Err.broken c.in_ok-job.ensures.step c.in_ok-job.ensures.turn c.in-Err.ensures.broken

pub plan_job-requires-clause-due : goal.plan_job-requires-clause-due
plan_job-requires-clause-due g c =
    let step = c.in_ok-job.ensures.step in
    let asked = (planning c.args.asked.now).inputs in
    subst (λ (files : Option Files). ComesTo (own_job_due asked.own) asked files (Ok c.in_ok-job.job))
    (sym (ap (λ (v : View). v.files) c.open_for.ensures.stays ∙ step.files)) step.ok.1

pub returns-clause-serves : goal.returns-clause-serves
returns-clause-serves g c =
    let view = g.S.Sink.view in
    let step = c.in_ok-job.ensures.step in
    let stays = c.open_for.ensures.stays in
    over_read (planning c.args.asked.now) (view c.args.shelf.now) (view c.open_for.new.shelf)
    (view c.plan_job.new.shelf) (ap (λ (v : View). v.files) stays ∙ step.files) (ap (λ (v : View). v.made) stays ∙ step.made)
    (ap (λ (v : View). v.faults) stays ∙ step.faults) (ap (λ (v : View). v.read_faults) stays ∙ step.ok.0)
    c.plan_job.result c.plan_job.ensures.serves

pub plan_job-requires-clause-allowed : goal.plan_job-requires-clause-allowed
plan_job-requires-clause-allowed g c =
    let job = c.in_ok-job.job in
    seen_allowed job.inst c.in-Ok.way job.own c.in-Ok.ensures.seen
