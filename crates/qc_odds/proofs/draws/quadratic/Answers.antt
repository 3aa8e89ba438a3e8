use Rattle.qc_odds.proofs.DrawLemmas.{quadratic_wraps}
use Rattle.qc_odds.proofs.draws.quadratic.Goals as goal

pub returns : goal.returns
returns c = quadratic_wraps c.args.y
