use Rattle.qc_rest.proofs.RemainingLemmas.{over_known}
use Rattle.qc_rest.proofs.laws.logs_tell_when_tasks_are_over.Goals as goal

pub returns : goal.returns
returns c = over_known
