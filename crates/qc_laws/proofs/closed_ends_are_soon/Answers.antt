use Rattle.qc_close.proofs.LimitLemmas.{closed_soon}
use Rattle.qc_laws.proofs.closed_ends_are_soon.Goals as goal

pub returns : goal.returns
returns c = closed_soon
