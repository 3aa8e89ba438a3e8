use Rattle.qc_dispatch.proofs.WorkedLemmas.{worked}
use Rattle.qc_dispatch.proofs.laws.work_is_feasible.Goals as goal

pub returns : goal.returns
returns c = worked
