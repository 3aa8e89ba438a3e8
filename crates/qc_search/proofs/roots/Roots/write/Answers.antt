use Rattle.std.proofs.Common.{[], sym, subst}
use Rattle.qc_model.specs.Instance.{InstanceView}
use Rattle.qc_search.specs.Progress.{IsProgress, WritesTree}
use Rattle.qc_search.proofs.roots.Roots.write.Goals as goal

pub returns-in-Some-clause-writes : goal.returns-in-Some-clause-writes
returns-in-Some-clause-writes g c = λ first begun.
    subst (λ (i : InstanceView). WritesTree (g.K.Sink.view c.args.sink.now) (g.K.Sink.view c.write_both.new.sink) i first
    c.args.progress.now c.write_both.new.progress c.write_both.result) c.self.view_is
    (c.write_both.ensures.writes first
    (subst (λ (i : InstanceView). IsProgress i first c.args.progress.now []) (sym c.self.view_is) begun))

pub returns-in-None-clause-writes : goal.returns-in-None-clause-writes
returns-in-None-clause-writes g c = λ first begun.
    subst (λ (i : InstanceView). WritesTree (g.K.Sink.view c.args.sink.now) (g.K.Sink.view c.write_one.new.sink) i first
    c.args.progress.now c.write_one.new.progress c.write_one.result) c.self.view_is
    (c.write_one.ensures.writes first
    (subst (λ (i : InstanceView). IsProgress i first c.args.progress.now []) (sym c.self.view_is) begun))
