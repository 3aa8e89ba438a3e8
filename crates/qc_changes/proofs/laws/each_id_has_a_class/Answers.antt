use Rattle.qc_changes.proofs.StayLemmas.{one_class}
use Rattle.qc_changes.proofs.laws.each_id_has_a_class.Goals as goal

pub returns : goal.returns
returns c = one_class
