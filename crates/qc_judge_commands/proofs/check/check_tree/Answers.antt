use Rattle.std.proofs.Common.{Err, Ok}
use Rattle.qc_judge_commands.proofs.ReadLemmas.{tree_checked}
use Rattle.qc_judge_commands.proofs.TreeLemmas.{tree_promises}
use Rattle.qc_judge_commands.proofs.check.check_tree.Goals as goal

pub returns-in-Ok-clause-account : goal.returns-in-Ok-clause-account
returns-in-Ok-clause-account g c = record {
  answer = Ok c.in-Ok.read;
  serves = tree_checked _ _ _ (Ok c.in-Ok.read) c.in-Ok.ensures.step c.in-Ok.ensures.shown c.in-Ok.ensures.none;
  reports = c.report_bound.ensures;
}

pub returns-in-Ok-clause-promises : goal.returns-in-Ok-clause-promises
unfolding returns-in-Ok-clause-account
returns-in-Ok-clause-promises g c = tree_promises _ _ _ _ _ _ (returns-in-Ok-clause-account g c)

pub returns-in-Err-clause-account : goal.returns-in-Err-clause-account
returns-in-Err-clause-account g c = record {
  answer = Err c.in-Err.stop;
  serves = tree_checked _ _ _ (Err c.in-Err.stop) c.in-Err.ensures.step c.in-Err.ensures.shown c.in-Err.ensures.none;
  reports = c.report_stop.ensures.report;
}

pub returns-in-Err-clause-promises : goal.returns-in-Err-clause-promises
unfolding returns-in-Err-clause-account
returns-in-Err-clause-promises g c = tree_promises _ _ _ _ _ _ (returns-in-Err-clause-account g c)
