use Rattle.std.proofs.Common.{◌∙◌}
use Rattle.qc_close.proofs.KeptLemmas.{closed_early, closed_late}
use Rattle.qc_close.proofs.crew.Crew.closed.Goals as goal

pub returns-then-end-self : goal.returns-then-end-self
returns-then-end-self c = record {
  closed = closed_early c.self.inside c.self.invariant c.args.self.now c.self.view_is c.args.end c.requires.some c.requires.limit
      c.if-end-self.true;
}

pub returns-else-end-self : goal.returns-else-end-self
returns-else-end-self c = record {
  closed = c.is_short.ensures
      ∙ closed_late c.self.inside c.self.invariant c.args.self.now c.self.view_is c.args.end c.requires.some c.requires.limit
      c.if-end-self.false;
}
