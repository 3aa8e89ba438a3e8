use Rattle.qc_close.proofs.KeptLemmas.{closed_falls}
use Rattle.qc_laws.proofs.closed_ends_go_down.Goals as goal

pub returns : goal.returns
returns c = closed_falls
