use Rattle.qc_odds.proofs.OverLemmas.{tick_later}
use Rattle.qc_odds.proofs.laws.a_tick_more_ends_a_tick_later.Goals as goal

pub returns : goal.returns
returns c = tick_later
