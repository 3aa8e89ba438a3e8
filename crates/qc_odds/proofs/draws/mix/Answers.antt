use Rattle.std.proofs.Common.{rules}
use Rattle.qc_odds.specs.Draws.{mix}
use Rattle.qc_odds.proofs.draws.mix.Goals as goal

pub returns : goal.returns
unfolding mix
returns c = search rules
