use Rattle.qc_odds.proofs.RiseLemmas.{starts_leave_room}
use Rattle.qc_odds.proofs.laws.longer_tasks_start_no_sooner.Goals as goal

pub returns : goal.returns
returns c = starts_leave_room
