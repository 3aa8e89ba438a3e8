use Rattle.std.proofs.Common.{None, Some, ap, refl, subst, sym, ◌∙◌}
use Rattle.qc_search.specs.Run.{IsOffered, SearchView, search_from}
use Rattle.qc_trial.specs.Stored.{IsSearchFor}
use Rattle.qc_trial.proofs.stored.search_for.Goals as goal
use Rattle.qc_trial.proofs.stored.search_for.Goals.{in-Some, in_default}

pub returns : goal.returns
returns c =
    let inst = c.args.inst.now in
    let opened = c.in_ok-search.ensures in
    elim c.match-branch-3.branch [
      | in-Some w ↦
          let new = w.offer.new.self in
          let sched = w.in-Some.found.sched in
          let is : IsSearchFor inst new = record {
            is = w.offer.ensures.stays ∙ ap (λ (s : SearchView). search_from s.inst s.nodes new.first) opened;
            found = Some sched;
            offered = subst (λ (s : SearchView). IsOffered s.inst sched s.first new.first) opened w.offer.ensures.offered;
          } in
          subst (IsSearchFor inst) (sym w.search-is) is
      | in_default w ↦
          subst (IsSearchFor inst) (sym (w.search-is ∙ opened)) (record { is = refl; found = None; offered = refl })
    ]
