use Rattle.qc_odds.proofs.DrawLemmas.{next_wraps}
use Rattle.qc_odds.proofs.draws.next_state.Goals as goal

pub returns : goal.returns
returns c = next_wraps c.args.x
