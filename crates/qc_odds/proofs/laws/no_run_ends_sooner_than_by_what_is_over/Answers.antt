use Rattle.qc_odds.proofs.OverLemmas.{over_sooner}
use Rattle.qc_odds.proofs.laws.no_run_ends_sooner_than_by_what_is_over.Goals as goal

pub returns : goal.returns
returns c = over_sooner
