use Rattle.qc_laws.proofs.ClosedLemmas.{closed_end_le}
use Rattle.qc_laws.proofs.closed_ends_are_bounds.Goals as goal

pub returns : goal.returns
returns c = closed_end_le
