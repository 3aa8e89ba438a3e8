use Rattle.std.proofs.Common.{Err, Ok}
use Rattle.qc_run.specs.Due.{instance_due}
use Rattle.qc_run.proofs.AccountLemmas.{step_account}
use Rattle.qc_judge_commands.proofs.tasks.list_tasks.Goals as goal

pub returns-in-Ok-clause-account : goal.returns-in-Ok-clause-account
returns-in-Ok-clause-account g c =
    record { answer = Ok c.in-Ok.inst; serves = step_account instance_due _ _ _ (Ok c.in-Ok.inst) c.in-Ok.ensures.step; reports = c.report_tasks.ensures }

pub returns-in-Err-clause-account : goal.returns-in-Err-clause-account
returns-in-Err-clause-account g c =
    record { answer = Err c.in-Err.stop; serves = step_account instance_due _ _ _ (Err c.in-Err.stop) c.in-Err.ensures.step; reports = c.report_stop.ensures.report }
