use Rattle.qc_close.proofs.KeptLemmas.{bare_closed}
use Rattle.qc_close.proofs.crew.Crew.bare_end.Goals as goal

pub returns : goal.returns
returns c = bare_closed c.self.inside c.self.invariant c.args.self.now c.self.view_is
