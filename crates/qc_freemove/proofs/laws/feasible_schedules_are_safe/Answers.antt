use Rattle.qc_freemove.proofs.FreeSafe.{free_safe}
use Rattle.qc_freemove.proofs.laws.feasible_schedules_are_safe.Goals as goal

pub returns : goal.returns
returns c = free_safe
