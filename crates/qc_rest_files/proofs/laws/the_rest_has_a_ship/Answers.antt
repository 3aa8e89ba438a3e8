use Rattle.qc_rest_files.proofs.KeptLemmas.{rest_ship_kept}
use Rattle.qc_rest_files.proofs.laws.the_rest_has_a_ship.Goals as goal

pub returns : goal.returns
returns c = rest_ship_kept
