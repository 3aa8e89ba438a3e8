use Rattle.std.proofs.Common.{ap}
use Rattle.qc_search.specs.declared.progress.Progress.{Progress}
use Rattle.qc_search.specs.Progress.{emptied}
use Rattle.qc_search.proofs.LeafSteps.{leaf_spends, spent_written, visits_leaf}
use Rattle.qc_search.proofs.LineLemmas.{writable}
use Rattle.qc_search.proofs.node.put_spent.Goals as goal

pub leave-requires : goal.leave-requires
leave-requires g c =
    let inst = c.args.starts.now.inst in
    let ds = c.args.starts.now.decisions in
    let tasks = c.args.progress.now.path.items in
    writable inst ds c.args.leaf tasks c.requires.met.valid.tasks.count (leaf_spends inst ds c.args.leaf tasks c.requires.leaf)

pub returns : goal.returns
returns g c =
    let node = c.args.starts.now in
    let old = c.args.progress.now in
    let new = c.leave.new.progress in
    let holds = leaf_spends node.inst node.decisions c.args.leaf old.path.items c.requires.leaf in
    visits_leaf node c.args.way old new c.leave.result c.leave.ensures.none
    (spent_written node.inst c.args.way node.decisions c.args.leaf old new c.value_of-value.result
    (c.value_of-value.ensures.soon _ holds) (emptied c.leave.result) c.requires.open c.requires.spent c.requires.leaf
    (c.value_of-value.ensures.value _ holds) c.leave.ensures.progress c.leave.ensures.room c.leave.ensures.writes)
    (ap (λ (p : Progress). p.branched) c.leave.ensures.progress) (ap (λ (p : Progress). p.limit) c.leave.ensures.progress)
    c.requires.met.few
