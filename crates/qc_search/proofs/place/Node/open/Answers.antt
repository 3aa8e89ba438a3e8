use Rattle.std.proofs.Common.{List, sym, ap, subst, ◌∙◌}
use Rattle.qc_close.specs.Crews.{CrewView, IsCrewOf}
use Rattle.qc_close.specs.Model.{Decision, Turn, no_cranes, InstanceView, Fits}
use Rattle.qc_close.proofs.DecidedCranes.{crew_root}
use Rattle.qc_search.proofs.place.Node.open.Goals as goal

abbrev root_crew : InstanceView → CrewView
root_crew inst = record { inst = inst; turn = inst.turn; cranes = no_cranes inst }

abbrev turned_crew : InstanceView → Turn → CrewView
turned_crew inst turn = record { inst = inst; turn = turn; cranes = no_cranes inst }

pub invariant_of-result : goal.invariant_of-result
invariant_of-result c =
    let inst = c.in_ok-starts.starts.inst in
    let none = sym c.in_ok-starts.ensures.decisions in
    record {
      valid = c.instance-home.ensures.valid;
      fits = subst (λ (ds : List Decision). Fits inst ds) none tt;
      crew = subst (λ (ds : List Decision). IsCrewOf c.in_ok-crew.crew inst ds) none
          (crew_root inst c.in_ok-crew.crew (c.in_ok-crew.ensures ∙ ap (turned_crew c.instance-home.result.now) c.turn.ensures
          ∙ ap root_crew c.instance-home.ensures.same));
    }
