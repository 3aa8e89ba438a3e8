-- What the list of changes keeps.
use Rattle.std.proofs.Common.{◌≡◌, ◌≢◌, ◌≤◌, ◌++◌, ◌∙◌, List, length, map, ap, subst, arith}
use Rattle.std.proofs.lemmas.List.{length-append, length-map}
use Rattle.std.proofs.lemmas.List.Sorted.{length_permutation}
use Rattle.qc_bayplan.specs.Plan.{AreContainers}
use Rattle.qc_bayplan.specs.declared.plan.Container.{Container}
use Rattle.qc_stow.specs.declared.row.Row.{Row}
use Rattle.qc_stow.specs.declared.row.Move.TheVariants.{Discharge, Load}
use Rattle.qc_changes.specs.declared.class.Class.TheVariants as class
use Rattle.qc_changes.specs.Classes.{changed, stands}
use Rattle.qc_changes.specs.Changes.{AddUp, AreChanges, ChangesView}
use Rattle.qc_changes.specs.MoveList.{AreParts, row_of}
use Rattle.qc_changes.specs.States.{Leads}
use Rattle.qc_changes.proofs.CountLemmas.{changed_is, discharged_is, first_is, lifted_counted, loaded_is, restowed_is, second_is, still_both, still_is, staying_is}
use Rattle.qc_changes.proofs.Elements.{pairs_from_index}
use Rattle.qc_changes.proofs.LeadLemmas.{list_leads}
use Rattle.qc_changes.proofs.LeastLemmas.{list_least}

-- so many go as there are of what changes and what is lifted
pub off_is : (first second lifted : List Container) (off on : List Row) → AreParts first second lifted off on
    → length off ≡ length (changed first second ++ lifted)
off_is first second lifted off on parts =
    length_permutation (map (row_of Discharge) (changed first second ++ lifted)) off parts.off_are
    ∙ length-map (changed first second ++ lifted) (row_of Discharge)

pub on_is : (first second lifted : List Container) (off on : List Row) → AreParts first second lifted off on
    → length on ≡ length (changed second first ++ lifted)
on_is first second lifted off on parts =
    length_permutation (map (row_of Load) (changed second first ++ lifted)) on parts.on_are
    ∙ length-map (changed second first ++ lifted) (row_of Load)

pub same_plans : (first second one other : List Container) (view : ChangesView) → one ≡ first → other ≡ second
    → AreChanges one other view → AreChanges first second view
same_plans first second one other view one_is other_is are =
    subst (λ (cs : List Container). AreChanges cs second view) one_is
    (subst (λ (cs : List Container). AreChanges one cs view) other_is are)

pub changes_add_up : (first second : List Container) (view : ChangesView) → AreContainers first → AreContainers second
    → AreChanges first second view → AddUp first second view
changes_add_up first second view a b changes =
    let lifted = changes.lifted in
    let far = pairs_from_index (λ (x y : Container). x.id ≢ y.id) first a.ids in
    let far' = pairs_from_index (λ (x y : Container). x.id ≢ y.id) second b.ids in
    let are = changes.are in
    let list = changes.rows_are in
    let d = changes.counts_are class.Discharged ∙ discharged_is first second lifted far far' are in
    let l = changes.counts_are class.Loaded ∙ loaded_is first second lifted far far' are in
    let r = changes.counts_are class.Restowed ∙ restowed_is first second lifted far far' are in
    let k = changes.counts_are class.Lifted ∙ lifted_counted first second lifted far far' are in
    let s = changes.counts_are class.Staying ∙ staying_is first second lifted far far' are in
    let still = still_is first second lifted far far' are in
    let one = first_is first second lifted far far' are in
    let two = second_is first second lifted far far' are in
    let both = still_both first second lifted far far' are in
    let off = off_is first second lifted list.off list.on list.parts ∙ length-append (changed first second) lifted in
    let on = on_is first second lifted list.off list.on list.parts ∙ length-append (changed second first) lifted in
    let goes = changed_is first second lifted far far' are first second in
    let comes = changed_is first second lifted far far' are second first in
    let rows = ap (λ (rs : List Row). length rs) list.rows_are ∙ length-append list.off list.on in
    record {
      first_sum = omega (arith, d, r, k, s, still, one);
      second_sum = omega (arith, l, r, k, s, still, two);
      rows_sum = omega (arith, d, l, r, k, still, one, two, both, off, on, goes, comes, rows);
      most = omega (arith, off, on, goes, comes, rows, still, both, a.count, b.count);
    }

pub changes_lead : (first second : List Container) (view : ChangesView) → AreContainers first → AreContainers second → AreChanges first second view
    → Leads (stands first) view.rows (stands second)
changes_lead first second view a b changes = list_leads first second changes.lifted view.rows a b changes.are changes.rows_are

pub changes_least : (first second : List Container) (view : ChangesView) → AreContainers first → AreContainers second → AreChanges first second view
    → (rows : List Row) → Leads (stands first) rows (stands second) → length view.rows ≤ length rows
changes_least first second view a b changes rows leads = list_least first second changes.lifted view.rows rows a b changes.are changes.rows_are leads
