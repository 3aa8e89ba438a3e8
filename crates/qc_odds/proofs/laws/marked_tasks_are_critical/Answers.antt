use Rattle.qc_odds.proofs.CriticalLemmas.{marked_is_critical}
use Rattle.qc_odds.proofs.laws.marked_tasks_are_critical.Goals as goal

pub returns : goal.returns
returns c = marked_is_critical
