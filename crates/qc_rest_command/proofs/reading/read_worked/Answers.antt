use Rattle.qc_rest_command.proofs.ReadLemmas.{log_followed, log_refused, log_unheld, log_unread}
use Rattle.qc_rest_command.proofs.reading.read_worked.Goals as goal

pub returns-in-Err-read_input : goal.returns-in-Err-read_input
returns-in-Err-read_input g c = log_unread c.in-Ok.ensures.step c.in_default.ensures.feasible c.in-Err-read_input.ensures

pub returns-in-Ok-follow_log : goal.returns-in-Ok-follow_log
returns-in-Ok-follow_log g c =
    log_followed c.in-Ok.ensures.step c.in_default.ensures.feasible c.in-Ok-read_input.ensures c.in-Ok-follow_log.followed
    (rw c.as_slice.ensures at c.in-Ok-follow_log.ensures.following)
    c.in-Ok.ensures.load c.in-Ok-follow_log.ensures.plan.0 c.in-Ok-follow_log.ensures.keeps

pub returns-in-Err-Fault : goal.returns-in-Err-Fault
returns-in-Err-Fault g c =
    log_refused c.in-Ok.ensures.step c.in_default.ensures.feasible c.in-Ok-read_input.ensures c.requires.log c.in-Err-Fault.fault
    (rw (c.in-Err-Fault.field-0-is, c.as_slice.ensures) at c.in-Err-Fault.ensures.following)

pub returns : goal.returns
returns g c = log_unheld c.in-Ok.ensures.step c.in_default.ensures.feasible c.in-Ok-read_input.ensures
