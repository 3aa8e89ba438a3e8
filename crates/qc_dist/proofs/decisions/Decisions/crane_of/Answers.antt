use Rattle.std.proofs.Common.{◌∙◌, reverse}
use Rattle.qc_dist.proofs.Facts.{assigned_range}
use Rattle.qc_dist.proofs.decisions.Decisions.crane_of.Goals as goal

pub returns-clause-range : goal.returns-clause-range
returns-clause-range c =
    let kept = c.self.invariant in
    let inside = rw (← c.self.view_is) at c.requires in
    let f = c.self.inside in
    rw (← c.self.view_is)
    (rw (c.index.ensures ∙ kept.cranes.values c.args.task c.index.result.now inside)
    (assigned_range f.inst (reverse f.made.items) kept.fits c.args.task))
