use Rattle.qc_odds.proofs.WorkLemmas.{work_feasible}
use Rattle.qc_odds.proofs.laws.courses_are_feasible.Goals as goal

pub returns : goal.returns
returns c = work_feasible
