use Rattle.std.proofs.Common.{Some, ap, subst, ◌∙◌}
use Rattle.qc_model.specs.Instance.{InstanceView}
use Rattle.qc_search.specs.Run.{IsOffered, SearchView, search_from}
use Rattle.qc_plan_command.proofs.ahead.InitialPlan.offer_to.Goals as goal

pub returns-in-Some-clause-offered : goal.returns-in-Some-clause-offered
returns-in-Some-clause-offered c = (
  Some c.in-Some.found.sched,
  subst (λ (i : InstanceView). IsOffered i c.in-Some.found.sched c.args.search.now.first c.offer.new.self.first)
      (ap (λ (s : SearchView). s.inst) c.requires.plain) c.offer.ensures.offered,
)

pub returns-in-Some-clause-stays : goal.returns-in-Some-clause-stays
returns-in-Some-clause-stays c =
    c.offer.ensures.stays
    ∙ ap (λ (s : SearchView). search_from s.inst s.nodes c.offer.new.self.first) c.requires.plain
