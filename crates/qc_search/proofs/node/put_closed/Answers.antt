use Rattle.std.proofs.Common.{ℕ, ap, sym, subst, ◌∙◌}
use Rattle.smallvec.specs.SmallVec.{SmallVec}
use Rattle.qc_search.specs.declared.progress.Progress.{Progress}
use Rattle.qc_search.specs.Lines.{IsWritable}
use Rattle.qc_search.specs.Progress.{cutoff, emptied}
use Rattle.qc_search.proofs.LeafSteps.{closed_written, leaf_closes, visits_leaf}
use Rattle.qc_search.proofs.LineLemmas.{writable}
use Rattle.qc_search.proofs.StepLemmas.{same_but}
use Rattle.qc_search.proofs.node.put_closed.Goals as goal

pub leave-requires : goal.leave-requires
leave-requires g c =
    let inst = c.args.starts.now.inst in
    let ds = c.args.starts.now.decisions in
    let old = c.args.progress.now in
    let mid = c.meet_closed-value.new.progress in
    let same = same_but inst c.args.way ds old mid c.meet_closed-value.ensures.meets in
    subst (IsWritable c.args.leaf) (sym (ap (λ (p : SmallVec ℕ). p.items) same.path))
    (writable inst ds c.args.leaf old.path.items c.requires.met.valid.tasks.count
    (leaf_closes inst ds (cutoff old) c.args.leaf old.path.items c.requires.leaf))

pub returns : goal.returns
returns g c =
    let node = c.args.starts.now in
    let old = c.args.progress.now in
    let mid = c.meet_closed-value.new.progress in
    let new = c.leave.new.progress in
    let same = same_but node.inst c.args.way node.decisions old mid c.meet_closed-value.ensures.meets in
    visits_leaf node c.args.way old new c.leave.result c.leave.ensures.none
    (closed_written node.inst c.args.way node.decisions c.args.leaf old new c.meet_closed-value.result
    c.meet_closed-value.ensures.soon (emptied c.leave.result) mid c.meet_closed-value.ensures.meets c.requires.met.in_reach
    c.requires.leaf c.meet_closed-value.ensures.value c.leave.ensures.progress c.leave.ensures.room c.leave.ensures.writes)
    (ap (λ (p : Progress). p.branched) c.leave.ensures.progress ∙ same.branched)
    (ap (λ (p : Progress). p.limit) c.leave.ensures.progress ∙ same.limit) c.requires.met.few
