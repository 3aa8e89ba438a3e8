use Rattle.std.proofs.Common.{Err, Ok}
use Rattle.qc_rest_command.proofs.RestLemmas.{rest_promises}
use Rattle.qc_rest_command.proofs.command.write_rest.Goals as goal

pub returns-in-Ok-clause-account : goal.returns-in-Ok-clause-account
returns-in-Ok-clause-account g c =
    record { answer = Ok c.in-Ok.answer; serves = c.in-Ok.ensures.serves; reports = c.report.ensures }

pub returns-in-Ok-clause-promises : goal.returns-in-Ok-clause-promises
unfolding returns-in-Ok-clause-account
returns-in-Ok-clause-promises g c = rest_promises _ _ _ _ _ _ (returns-in-Ok-clause-account g c)

pub returns-in-Err-clause-account : goal.returns-in-Err-clause-account
returns-in-Err-clause-account g c =
    record { answer = Err c.in-Err.stop; serves = c.in-Err.ensures.serves; reports = c.report_stop.ensures.report }

pub returns-in-Err-clause-promises : goal.returns-in-Err-clause-promises
unfolding returns-in-Err-clause-account
returns-in-Err-clause-promises g c = rest_promises _ _ _ _ _ _ (returns-in-Err-clause-account g c)
