use Rattle.std.proofs.Common.{length, ap, sym, subst, ◌∙◌, arith}
use Rattle.std.proofs.lemmas.List.{length-replicate}
use Rattle.qc_close.specs.Model.{Slot, InstanceView, no_slot}
use Rattle.qc_search.specs.declared.progress.Progress.{Progress}
use Rattle.qc_search.specs.Progress.{IsBegun}
use Rattle.qc_search.proofs.GivenLemmas.{begins_without}
use Rattle.qc_search.proofs.search.Search.open.Goals as goal

pub invariant_of-result : goal.invariant_of-result
invariant_of-result c =
    let home = c.in_ok-roots.roots in
    let made = sym c.in_ok-roots.ensures in
    let count = ap (length {A = Slot}) c.in_ok-incumbent.ensures
    ∙ length-replicate c.task_count.result no_slot
    ∙ c.task_count.ensures.count
    ∙ ap (λ (i : InstanceView). length i.tasks) made in
    subst (λ (p : Progress). IsBegun home p) (sym c.first_progress.ensures)
    (begins_without home c.args.limit c.in_ok-incumbent.incumbent c.in_ok-path.path count
    (omega (arith, c.in_ok-path.ensures.capacity)) c.requires.few)
