use Rattle.qc_rest.proofs.RestLemmas.{rest_exact}
use Rattle.qc_rest.proofs.laws.the_rest_is_what_is_left.Goals as goal

pub returns : goal.returns
returns c = rest_exact
