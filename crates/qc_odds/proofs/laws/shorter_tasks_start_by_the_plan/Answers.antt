use Rattle.qc_odds.proofs.PlanLemmas.{no_later_than_planned}
use Rattle.qc_odds.proofs.laws.shorter_tasks_start_by_the_plan.Goals as goal

pub returns : goal.returns
returns c = no_later_than_planned
