use Rattle.std.proofs.Common.{inr, sym, ◌∙◌, arith}
use Rattle.std.proofs.lemmas.Bool.{false≢true}
use Rattle.qc_bounds.proofs.ClosedLemmas.{chain_spends, work_spends}
use Rattle.qc_bounds.proofs.PackedLemmas.{clash_leaf, early_known}
use Rattle.qc_bounds.proofs.leaves.spent.Goals as goal

pub latest_tasks-requires-clause-known : goal.latest_tasks-requires-clause-known
latest_tasks-requires-clause-known c =
    early_known c.args.node.now.inst c.args.node.now.decisions c.instance-inst.ensures.valid c.if-stuck.ensures.in_reach
    c.ends-end.result c.ends-end.ensures.end

pub returns-then-bound-end-clause-leaf : goal.returns-then-bound-end-clause-leaf
returns-then-bound-end-clause-leaf c =
    chain_spends c.args.node.now.inst c.args.node.now.decisions c.why_path-then-bound-end.new.path.items c.ends-end.result
    c.work_bound-bound.result c.why_path-then-bound-end.ensures.why c.ends-end.ensures.end
    (c.work_bound-bound.ensures.bound c.args.node.now.inst c.args.node.now.decisions c.requires.crew)
    (inr (omega (arith, c.if-bound-end.true)))

pub returns-in-Some-clause-leaf : goal.returns-in-Some-clause-leaf
returns-in-Some-clause-leaf c =
    let inst = c.args.node.now.inst in
    let ds = c.args.node.now.decisions in
    let found = c.in-Some.ensures.shows in (
      clash_leaf inst ds _ c.in-Some.later c.if-stuck.ensures.none
          (λ every. false≢true (sym c.if-complete.false ∙ c.complete.ensures.1 every)) found.shown,
      (c.work_bound-bound.result, c.work_bound-bound.ensures.bound inst ds c.requires.crew, omega (arith, found.late)),
      (c.ends-end.result, c.ends-end.ensures.end, omega (arith, found.late)),
    )

pub returns-clause-leaf : goal.returns-clause-leaf
returns-clause-leaf c =
    let inst = c.args.node.now.inst in
    let ds = c.args.node.now.decisions in
    work_spends inst ds _ c.ends-end.result c.work_bound-bound.result c.if-stuck.ensures.none
    (λ every. false≢true (sym c.if-complete.false ∙ c.complete.ensures.1 every)) c.ends-end.ensures.end
    (c.work_bound-bound.ensures.bound inst ds c.requires.crew) c.work_bound-bound.ensures.soon c.if-bound-end.false c.clear.ensures.items
