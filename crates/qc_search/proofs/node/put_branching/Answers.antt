use Rattle.std.proofs.Common.{[], ◌∷◌, ◌+◌, ◌<◌, Ok, sym, subst, arith}
use Rattle.qc_model.specs.declared.decision.Decision.{Decision}
use Rattle.qc_search.specs.Progress.{WritesNodes}
use Rattle.qc_search.specs.Walk.{IsChild, from_node, steps_left}
use Rattle.qc_search.proofs.DescentLemmas.{branch_child, branch_fewer, branch_named}
use Rattle.qc_search.proofs.LeafSteps.{branch_written}
use Rattle.qc_search.proofs.NodesLemmas.{none_asked, on_fault}
use Rattle.qc_search.proofs.RunLemmas.{not_ok}
use Rattle.qc_search.proofs.node.put_branching.Goals as goal

pub put_branch-requires : goal.put_branch-requires
put_branch-requires g c =
    branch_named c.args.starts.now.inst c.requires.met.valid c.args.starts.now.decisions c.pick-branch.result
    c.pick-branch.ensures

pub returns-in_err-put_branch : goal.returns-in_err-put_branch
returns-in_err-put_branch g c =
    let fails = c.from_residual.ensures.0 in
    record {
      line = on_fault _ _ c.from_residual.result fails
          (branch_written c.args.starts.now.inst c.args.way c.args.starts.now.decisions c.pick-branch.result
          c.args.progress.now _ c.requires.met.valid c.pick-branch.ensures c.requires.open c.requires.left
          c.in_err-put_branch.ensures);
      child = none_asked _ c.from_residual.result fails;
      fewer = none_asked _ c.from_residual.result fails;
      few = not_ok _ c.from_residual.result fails;
    }

pub returns : goal.returns
returns g c =
    let inst = c.args.starts.now.inst in
    let ds = c.args.starts.now.decisions in
    let old = c.args.progress.now in
    let new = record old { branched = old.branched + 1 } in
    record {
      line = subst (λ (d : Decision). WritesNodes [] (g.K.Sink.view c.args.sink.now) (g.K.Sink.view c.put_branch.new.sink) inst
          c.args.way (from_node inst ds) (from_node inst (d ∷ ds)) old new (Ok tt)) (sym c.first_child.ensures)
          (branch_written inst c.args.way ds c.pick-branch.result old (Ok tt) c.requires.met.valid
          c.pick-branch.ensures c.requires.open c.requires.left c.in_ok-put_branch.ensures);
      child = subst (IsChild inst ds) (sym c.first_child.ensures)
          (branch_child inst c.requires.met.valid ds c.pick-branch.result c.pick-branch.ensures c.requires.starts);
      fewer = subst (λ (d : Decision). steps_left (from_node inst (d ∷ ds)) old.limit (old.branched + 1)
          < steps_left (from_node inst ds) old.limit old.branched) (sym c.first_child.ensures)
          (branch_fewer inst c.requires.met.valid ds c.pick-branch.result c.pick-branch.ensures old.limit old.branched
          c.requires.left);
      few = omega (arith, c.requires.left);
    }
