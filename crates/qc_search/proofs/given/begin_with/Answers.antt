use Rattle.std.proofs.Common.{◌≤◌, List, ap₂, sym, subst, ◌∙◌}
use Rattle.qc_close.specs.Model.{Slot, InstanceView, most_start, start_of, seen_schedule}
use Rattle.qc_search.proofs.GivenLemmas.{seen_soon}
use Rattle.qc_search.proofs.given.begin_with.Goals as goal

pub tighten-end-requires-clause-soon : goal.tighten-end-requires-clause-soon
tighten-end-requires-clause-soon c = λ j low.
    let way = c.args.way in
    let is = c.see.ensures
    ∙ ap₂ (λ (i : InstanceView) (s : List Slot). seen_schedule i s way) c.instance-2.ensures.same c.copy_slots.ensures in
    subst (λ (s : List Slot). start_of s j ≤ most_start) (sym is)
    (seen_soon c.args.roots.now c.args.given.now way c.requires.judgeable j low)
