use Rattle.qc_starts.proofs.KeptLemmas.{end_kept, end_soon, soon_kept}
use Rattle.qc_starts.proofs.starts.Starts.ends.Goals as goal

pub latest-requires-clause-soon : goal.latest-requires-clause-soon
latest-requires-clause-soon c = soon_kept c.self.inside _ c.self.invariant c.self.view_is c.requires

pub returns-clause-end : goal.returns-clause-end
returns-clause-end c = end_kept c.self.inside _ c.self.invariant c.self.view_is c.requires c.latest.result c.latest.ensures

pub returns-clause-bound : goal.returns-clause-bound
returns-clause-bound c = end_soon c.self.inside _ c.self.invariant c.self.view_is c.requires c.latest.result c.latest.ensures
