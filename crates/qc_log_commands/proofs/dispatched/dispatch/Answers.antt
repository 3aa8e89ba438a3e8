use Rattle.std.proofs.Common.{Err, Ok}
use Rattle.qc_log_commands.proofs.dispatched.dispatch.Goals as goal

pub returns-in-Ok-clause-account : goal.returns-in-Ok-clause-account
returns-in-Ok-clause-account g c =
    record { answer = Ok c.in-Ok.answer; serves = c.in-Ok.ensures; reports = c.report.ensures }

pub returns-in-Err-clause-account : goal.returns-in-Err-clause-account
returns-in-Err-clause-account g c =
    record { answer = Err c.in-Err.stop; serves = c.in-Err.ensures; reports = c.report_stop.ensures.report }
