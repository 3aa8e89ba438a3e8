use Rattle.qc_rest.proofs.EndLemmas.{the_end}
use Rattle.qc_rest.proofs.laws.the_whole_ends_with_the_rest.Goals as goal

pub returns : goal.returns
returns c = the_end
