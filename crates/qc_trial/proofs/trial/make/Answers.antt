use Rattle.std.proofs.Common.{◌≡◌, ◌∙◌, Err, Ok}
use Rattle.qc_trial.specs.Texts.{made_text}
use Rattle.qc_trial.proofs.MadeLemmas.{trial_promises}
use Rattle.qc_trial.proofs.trial.make.Goals as goal

pub returns-in-Ok-clause-account : goal.returns-in-Ok-clause-account
returns-in-Ok-clause-account g c =
    let text : c.as_bytes.result.now ≡ made_text c.in-Ok.told = c.as_bytes.ensures.bytes ∙ c.made_text.ensures in
    record { answer = Ok c.in-Ok.told; serves = c.in-Ok.ensures; reports = rw text at c.report_text.ensures }

pub returns-in-Ok-clause-promises : goal.returns-in-Ok-clause-promises
unfolding returns-in-Ok-clause-account
returns-in-Ok-clause-promises g c = trial_promises _ _ _ _ _ _ (returns-in-Ok-clause-account g c)

pub returns-in-Err-clause-account : goal.returns-in-Err-clause-account
returns-in-Err-clause-account g c =
    record { answer = Err c.in-Err.why; serves = c.in-Err.ensures; reports = c.report_stop.ensures.report }

pub returns-in-Err-clause-promises : goal.returns-in-Err-clause-promises
unfolding returns-in-Err-clause-account
returns-in-Err-clause-promises g c = trial_promises _ _ _ _ _ _ (returns-in-Err-clause-account g c)
