use Rattle.qc_rest.proofs.BerthLemmas.{rest_is_valid}
use Rattle.qc_rest.proofs.laws.the_rest_is_an_instance.Goals as goal

pub returns : goal.returns
returns c = rest_is_valid
