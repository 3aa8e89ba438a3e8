use Rattle.qc_changes.proofs.StayLemmas.{staying_free}
use Rattle.qc_changes.proofs.laws.moves_leave_what_stays.Goals as goal

pub returns : goal.returns
returns c = staying_free
