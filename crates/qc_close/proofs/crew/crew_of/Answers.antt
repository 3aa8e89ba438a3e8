use Rattle.std.proofs.Common.{◌≡◌, List, Option, ℕ, None, Some, ap, length, refl, subst, sym, ◌∙◌}
use Rattle.std.proofs.lemmas.List.{length-replicate}
use Rattle.qc_close.specs.Model.{AreInRange, crane_in, no_cranes, is_short_before, InstanceView}
use Rattle.qc_close.specs.Bars.{IsTable}
use Rattle.qc_close.specs.Lasts.{IsLast}
use Rattle.qc_close.specs.Lefts.{IsLeft}
use Rattle.qc_close.specs.declared.closed.TheConstants.{LAST_CLOSED}
use Rattle.qc_close.proofs.CrewLemmas.{none_there}
use Rattle.qc_close.proofs.KeptLemmas.{kept_open}
use Rattle.qc_close.proofs.crew.crew_of.Goals as goal

none_range : (inst : InstanceView) (cranes : List (Option ℕ)) → cranes ≡ no_cranes inst → AreInRange inst cranes
none_range inst cranes is = λ j k some.
    let no : None ≡ Some k = sym (none_there (length inst.tasks) j) ∙ ap (λ cs. crane_in cs j) (sym is) ∙ some in
    cc

pub last_short_end-bare-requires-clause-count : goal.last_short_end-bare-requires-clause-count
last_short_end-bare-requires-clause-count c =
    ap length (c.as_slice.ensures.value ∙ c.requires.cranes) ∙ length-replicate (length c.args.inst.tasks) None

pub last_short_end-bare-requires-clause-range : goal.last_short_end-bare-requires-clause-range
last_short_end-bare-requires-clause-range c =
    none_range c.args.inst _ (c.as_slice.ensures.value ∙ c.requires.cranes)

pub last_short_end-bare-requires-clause-table : goal.last_short_end-bare-requires-clause-table
last_short_end-bare-requires-clause-table c =
    subst (λ (xs : List (Option ℕ)). IsTable c.args.inst xs c.args.lists.spots c.args.lists.table)
    (sym (c.as_slice.ensures.value ∙ c.requires.cranes)) c.requires.table

pub last_short_end-bare-requires-clause-left : goal.last_short_end-bare-requires-clause-left
last_short_end-bare-requires-clause-left c =
    subst (λ (xs : List (Option ℕ)). IsLeft c.args.inst xs c.as_slice-2.result.now)
    (sym (c.as_slice.ensures.value ∙ c.requires.cranes))
    (subst (IsLeft c.args.inst (no_cranes c.args.inst)) (sym c.as_slice-2.ensures.value) c.requires.left)

pub invariant_of-result : goal.invariant_of-result
invariant_of-result c =
    let inst = c.args.inst in
    let lists = c.requires in
    kept_open _ inst refl c.task_count-tasks.ensures.valid lists.cranes lists.spots lists.soonest lists.table lists.trips
    lists.left c.grain-step.ensures
    (subst (λ (xs : List (Option ℕ)). IsLast (is_short_before inst c.args.turn xs) LAST_CLOSED c.last_short_end-bare.result)
    (c.as_slice.ensures.value ∙ lists.cranes) c.last_short_end-bare.ensures)
