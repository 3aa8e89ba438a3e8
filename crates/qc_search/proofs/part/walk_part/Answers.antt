use Rattle.std.proofs.Common.{List, [], ◌∷◌, Ok, length, refl, ap, sym, subst, ◌∙◌}
use Rattle.qc_close.specs.Crews.{IsCrewOf}
use Rattle.qc_dist.specs.Node.{Node}
use Rattle.qc_close.specs.Model.{Decision, InstanceView, IsInReach}
use Rattle.qc_search.specs.Progress.{IsMet, WritesNodes}
use Rattle.qc_search.specs.Walk.{WereMade, from_node}
use Rattle.qc_search.proofs.DescentLemmas.{made_in_reach}
use Rattle.qc_search.proofs.NodesLemmas.{nodes_then, none_written, on_fault_whole}
use Rattle.qc_search.proofs.part.walk_part.Goals as goal

pub loop-child-init : goal.loop-child-init
loop-child-init g c =
    let inst = c.args.node.now.inst in
    let none = sym c.requires.root in
    record {
      same = refl;
      made = subst (WereMade inst) none tt;
      count = c.requires.count;
      room = c.requires.room;
      few = c.requires.few;
      goes = subst (λ (ds : List Decision). WritesNodes [] (g.K.Sink.view c.args.sink.now) (g.K.Sink.view c.args.sink.now)
          inst c.args.way ([] ∷ []) (from_node inst ds) c.args.progress.now c.args.progress.now (Ok tt)) none
          (none_written (g.K.Sink.view c.args.sink.now) ([] ∷ []) c.args.progress.now);
    }

pub visit-requires-clause-met : goal.visit-requires-clause-met
visit-requires-clause-met g c =
    let inv = c.loop-child.invariant in
    subst (λ (n : Node). IsMet n c.loop-child.progress) (sym c.starts.ensures.same) (record {
      valid = c.starts.ensures.valid;
      in_reach = subst (λ (i : InstanceView). IsInReach i c.loop-child.node.decisions) (sym inv.same)
          (made_in_reach c.args.node.now.inst c.loop-child.node.decisions inv.made);
      count = inv.count ∙ sym (ap (λ (i : InstanceView). length i.tasks) inv.same);
      room = inv.room;
      few = inv.few;
    })

pub visit-requires-clause-crew : goal.visit-requires-clause-crew
visit-requires-clause-crew g c =
    subst (λ (n : Node). IsCrewOf c.crew.result.now n.inst n.decisions) (sym c.starts.ensures.same) c.crew.ensures

pub returns-in_err-child-clause-writes : goal.returns-in_err-child-clause-writes
returns-in_err-child-clause-writes g c =
    on_fault_whole _ c.from_residual.result c.from_residual.ensures.0
    (nodes_then c.loop-child.invariant.goes
    (rw c.loop-child.invariant.same at (rw c.starts.ensures.same at c.in_err-child.ensures.line)))

pub returns-in_err-advance-clause-writes : goal.returns-in_err-advance-clause-writes
returns-in_err-advance-clause-writes g c =
    let visited = nodes_then c.loop-child.invariant.goes
    (rw c.loop-child.invariant.same at (rw c.starts.ensures.same at c.in_ok-child.ensures.line)) in
    on_fault_whole _ c.from_residual-in_err-advance.result c.from_residual-in_err-advance.ensures.0
    (nodes_then visited (rw c.loop-child.invariant.same at (c.in_err-advance.ensures.goes c.args.way)))

pub returns-then-not-branch-clause-writes : goal.returns-then-not-branch-clause-writes
returns-then-not-branch-clause-writes g c =
    let visited = nodes_then c.loop-child.invariant.goes
    (rw c.loop-child.invariant.same at (rw c.starts.ensures.same at c.in_ok-child.ensures.line)) in
    nodes_then visited (rw c.if-not-branch.true at (rw c.loop-child.invariant.same at
    (c.in_ok-advance.ensures.goes c.args.way)))

pub loop-child-preserved : goal.loop-child-preserved
loop-child-preserved g c =
    let visit = c.in_ok-child.ensures in
    let went = rw c.loop-child.invariant.same at (rw c.starts.ensures.same at visit.line) in
    let advance = c.in_ok-advance.ensures in
    let onward = rw c.if-not-branch.false at (rw c.loop-child.invariant.same at (advance.goes c.args.way)) in
    record {
      same = advance.inst ∙ c.loop-child.invariant.same;
      made = rw c.loop-child.invariant.same at advance.made;
      count = went.comes.along.count c.loop-child.invariant.count;
      room = went.comes.along.room c.loop-child.invariant.room;
      few = visit.few;
      goes = nodes_then (nodes_then c.loop-child.invariant.goes went) onward;
    }
