use Rattle.std.proofs.Common.{◌⊎◌, inl, inr, sym, ◌∙◌, arith}
use Rattle.std.proofs.lemmas.Bool.{false≢true}
use Rattle.qc_num.specs.Bounds.{IsAtMost}
use Rattle.qc_num.specs.declared.bound.Bound.TheVariants.{Least}
use Rattle.qc_model.specs.Nodes.{IsComplete}
use Rattle.qc_bounds.proofs.ClosedLemmas.{chain_closes, later, never_closable, work_closes}
use Rattle.qc_bounds.proofs.PackedLemmas.{clash_leaf, early_known}
use Rattle.qc_bounds.proofs.leaves.close.Goals as goal
use Rattle.qc_bounds.proofs.leaves.close.Goals.{then-is_late-via-then-is_late, then-is_late-via-else-is_late+then-complete}

pub late_by-requires-clause-known : goal.late_by-requires-clause-known
late_by-requires-clause-known c =
    early_known c.args.node.now.inst c.args.node.now.decisions c.instance-inst.ensures.valid c.if-stuck.ensures.in_reach
    c.ends.result c.ends.ensures.end

pub returns-then-is_late-clause-leaf : goal.returns-then-is_late-clause-leaf
returns-then-is_late-clause-leaf c =
    let inst = c.args.node.now.inst in
    let ds = c.args.node.now.decisions in
    let due : IsComplete inst ds ⊎ IsAtMost c.args.best (Least c.ends.result) =
    elim c.then-is_late.branch [
      | then-is_late-via-then-is_late w ↦ inr (c.is_late.ensures.0 w.if-is_late.true)
      | then-is_late-via-else-is_late+then-complete w ↦
          inl (w.complete.ensures.0 w.if-complete.true)
    ] in
    chain_closes inst ds c.args.best c.why_path.new.path.items c.ends.result c.why_path.ensures.why c.ends.ensures.end due

pub returns-in_err-end-clause-closed : goal.returns-in_err-end-clause-closed
returns-in_err-end-clause-closed c =
    let inst = c.args.node.now.inst in
    let ds = c.args.node.now.decisions in
    λ closable. absurd (never_closable inst ds c.args.best c.ends.result c.if-stuck.ensures.in_reach c.if-stuck.ensures.none
    (λ every. false≢true (sym c.if-complete.false ∙ c.complete.ensures.1 every)) c.ends.ensures.end
    (λ sooner. false≢true (sym c.if-is_late.false ∙ c.is_late.ensures.1 sooner))
    (c.in_err-end.ensures inst ds c.requires.crew) closable)

pub returns-clause-leaf : goal.returns-clause-leaf
returns-clause-leaf c =
    let inst = c.args.node.now.inst in
    let ds = c.args.node.now.decisions in
    work_closes inst ds c.args.best c.clear.new.self.items c.in_ok-end.end c.if-stuck.ensures.none
    (λ every. false≢true (sym c.if-complete.false ∙ c.complete.ensures.1 every)) c.clear.ensures.items
    (c.in_ok-end.ensures inst ds c.requires.crew)

pub returns-in-Some-clause-leaf : goal.returns-in-Some-clause-leaf
returns-in-Some-clause-leaf c =
    let shows = c.in-Some.ensures.shows in (
      clash_leaf c.args.node.now.inst c.args.node.now.decisions _ c.in-Some.end c.if-stuck.ensures.none
          (λ every. false≢true (sym c.if-complete.false ∙ c.complete.ensures.1 every)) shows.0,
      shows.1,
    )

pub late_work-requires : goal.late_work-requires
late_work-requires c = λ at.
    false≢true (sym c.if-is_late.false ∙ c.is_late.ensures.1 (later c.args.best 0 c.ends.result (omega arith) at))
