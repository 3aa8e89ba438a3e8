use Rattle.qc_odds.proofs.TallyLemmas.{done_of}
use Rattle.qc_odds.proofs.laws.the_end_that_is_told_is_the_first.Goals as goal

pub returns : goal.returns
returns c = done_of
