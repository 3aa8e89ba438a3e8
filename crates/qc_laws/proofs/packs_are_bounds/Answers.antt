use Rattle.qc_laws.proofs.PackLemmas.{pack_end_le}
use Rattle.qc_laws.proofs.packs_are_bounds.Goals as goal

pub returns : goal.returns
returns c = pack_end_le
