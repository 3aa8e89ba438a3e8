use Rattle.std.proofs.Common.{◌+◌}
use Rattle.qc_odds.proofs.DrawLemmas.{mix_wraps}
use Rattle.qc_odds.proofs.draws.mixed_in.Goals as goal

pub returns : goal.returns
returns c = rw c.mix.ensures (mix_wraps (c.args.x + c.args.number))
