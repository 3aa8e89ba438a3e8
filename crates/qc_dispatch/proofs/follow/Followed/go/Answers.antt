use Rattle.std.proofs.Common.{[], ◌∷◌, ◌++◌, ◌∙◌, ap, arith}
use Rattle.qc_dispatch.specs.declared.event.Event.{Event}
use Rattle.qc_dispatch.specs.Events.{started_event}
use Rattle.qc_dispatch.specs.Following.{journal_of}
use Rattle.qc_dispatch.proofs.LogLemmas.{one_left, one_start, quiet_then}
use Rattle.qc_model.specs.Instance.{InstanceView}
use Rattle.qc_dispatch.proofs.follow.Followed.go.Goals as goal

pub loop-grant-preserved : goal.loop-grant-preserved
loop-grant-preserved c =
    let items = c.loop-grant.self.events.items in
    let named = c.started-start.ensures ∙ ap (λ (i : InstanceView). started_event i c.in-Some.grant) c.instance.ensures in
    one_start (journal_of c.args.self.now) (journal_of c.loop-grant.self) c.args.to c.in-Some.grant c.advance.new.self c.push.new.self.items
    c.loop-grant.invariant c.in-Some.ensures.advanced (c.in_ok-push.ensures.items ∙ ap (λ (e : Event). items ++ e ∷ []) named)

pub loop-grant-smaller : goal.loop-grant-smaller
loop-grant-smaller c =
    omega (arith, one_left c.loop-grant.self.dispatch c.advance.new.self c.args.to c.in-Some.grant c.in-Some.ensures.keeps.stages c.in-Some.ensures.advanced)

pub returns-clause-quiet : goal.returns-clause-quiet
returns-clause-quiet c = quiet_then c.loop-grant.self.dispatch c.advance.new.self c.args.to c.loop-grant.invariant.from c.in_default.ensures.advanced
