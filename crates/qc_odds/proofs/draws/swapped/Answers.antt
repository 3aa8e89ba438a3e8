use Rattle.std.proofs.Common.{rules}
use Rattle.qc_odds.specs.Draws.{swapped}
use Rattle.qc_odds.proofs.draws.swapped.Goals as goal

pub returns : goal.returns
unfolding swapped
returns c = search rules
