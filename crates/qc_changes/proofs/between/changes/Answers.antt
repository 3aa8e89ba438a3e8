use Rattle.std.proofs.Common.{◌∙◌, sym, subst}
use Rattle.std.proofs.lemmas.Result.{IfOk-weaker}
use Rattle.qc_bayplan.specs.Plan.{AreContainers}
use Rattle.qc_changes.proofs.ChangesLemmas.{changes_add_up, changes_lead, changes_least, same_plans}
use Rattle.qc_changes.proofs.ReadLemmas.{list_reads}
use Rattle.qc_changes.proofs.between.changes.Goals as goal

pub changes_between-found-requires-clause-first : goal.changes_between-found-requires-clause-first
changes_between-found-requires-clause-first c =
    subst AreContainers (sym (c.in_ok-first.ensures ∙ c.containers.ensures.containers)) c.containers.ensures.apart

pub changes_between-found-requires-clause-second : goal.changes_between-found-requires-clause-second
changes_between-found-requires-clause-second c =
    subst AreContainers (sym (c.in_ok-second.ensures ∙ c.containers-2.ensures.containers)) c.containers-2.ensures.apart

pub returns-clause-moves : goal.returns-clause-moves
returns-clause-moves c =
    IfOk-weaker c.changes_between-found.result _ _
    (λ view are. same_plans c.args.first.now.containers c.args.second.now.containers c.in_ok-first.first c.in_ok-second.second view
    (c.in_ok-first.ensures ∙ c.containers.ensures.containers) (c.in_ok-second.ensures ∙ c.containers-2.ensures.containers) are) c.changes_between-found.ensures

pub returns-clause-sums : goal.returns-clause-sums
returns-clause-sums c =
    IfOk-weaker c.changes_between-found.result _ _
    (λ view are. changes_add_up c.args.first.now.containers c.args.second.now.containers view c.containers.ensures.apart c.containers-2.ensures.apart are)
    (returns-clause-moves c)

pub returns-clause-leads : goal.returns-clause-leads
returns-clause-leads c =
    IfOk-weaker c.changes_between-found.result _ _
    (λ view are. changes_lead c.args.first.now.containers c.args.second.now.containers view c.containers.ensures.apart c.containers-2.ensures.apart are)
    (returns-clause-moves c)

pub returns-clause-least : goal.returns-clause-least
returns-clause-least c =
    IfOk-weaker c.changes_between-found.result _ _
    (λ view are. changes_least c.args.first.now.containers c.args.second.now.containers view c.containers.ensures.apart c.containers-2.ensures.apart are)
    (returns-clause-moves c)

pub returns-clause-reads : goal.returns-clause-reads
returns-clause-reads c =
    IfOk-weaker c.changes_between-found.result _ _
    (λ view are ship. list_reads c.args.first.now.containers c.args.second.now.containers view c.containers.ensures.apart c.containers-2.ensures.apart are ship
    (changes_add_up c.args.first.now.containers c.args.second.now.containers view c.containers.ensures.apart c.containers-2.ensures.apart are).most)
    (returns-clause-moves c)
