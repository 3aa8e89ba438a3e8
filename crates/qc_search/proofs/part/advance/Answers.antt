use Rattle.std.proofs.Common.{◌≡◌, ◌≤◌, List, [], ◌∷◌, None, Ok, Err, IfSome, Option, length, true, refl, ap, sym, subst, ◌∙◌, arith, rules}
use Rattle.std.proofs.lemmas.Bool.{false≢true}
use Rattle.qc_dist.specs.Children.{IsNextChild, behind}
use Rattle.qc_dist.specs.Node.{Node}
use Rattle.qc_close.specs.Model.{Decision, InstanceView}
use Rattle.qc_search.specs.Progress.{WritesNodes}
use Rattle.qc_search.specs.Walk.{IsChild, WereMade, from_child}
use Rattle.qc_search.proofs.DescentLemmas.{next_child_is, next_count, next_due}
use Rattle.qc_search.proofs.LeafSteps.{reach_written}
use Rattle.qc_search.proofs.NodesLemmas.{nodes_then, none_written, on_fault}
use Rattle.qc_search.proofs.part.advance.Goals as goal

pub loop-next-init : goal.loop-next-init
loop-next-init g c = record {
  same = refl;
  made = c.requires.made;
  child = c.requires.child;
  fewer = omega arith;
  goes = λ way. none_written (g.K.Sink.view c.args.sink.now)
      (from_child c.args.node.now.inst c.args.node.now.decisions c.args.child) c.args.progress.now;
}

pub returns-in_err-put_reach-clause-goes : goal.returns-in_err-put_reach-clause-goes
returns-in_err-put_reach-clause-goes g c = λ way.
    let inst = c.args.node.now.inst in
    let away = rw c.loop-next.invariant.same at c.descend.ensures.out (λ t. false≢true (sym c.if-descend.false ∙ t)) in
    on_fault _ _ c.from_residual.result c.from_residual.ensures.0
    (nodes_then (rw c.in-Some.is at c.loop-next.invariant.goes way)
    (reach_written inst way c.loop-next.node.decisions c.in-Some.decision c.args.progress.now (Err (record {})) away
    c.in_err-put_reach.ensures))

pub loop-next-preserved-in-Some : goal.loop-next-preserved-in-Some
loop-next-preserved-in-Some g c =
    let inst = c.args.node.now.inst in
    let ds = c.loop-next.node.decisions in
    let d = c.in-Some.decision in
    let next = c.next_child-next.result in
    let out = λ (t : c.descend.result ≡ true). false≢true (sym c.if-descend.false ∙ t) in
    let away = rw c.loop-next.invariant.same at c.descend.ensures.out out in
    let stays = sym (c.descend.ensures.stays out) in
    let same = c.descend.ensures.inst ∙ c.loop-next.invariant.same in
    let is = subst (λ (i : InstanceView). IsNextChild i d next) (c.instance.ensures.same ∙ same) c.next_child-next.ensures in
    let child : IsChild inst ds d =
    subst (λ (o : Option Decision). IfSome o (IsChild inst ds)) c.in-Some.is c.loop-next.invariant.child in
    let count = next_count inst ds d next is child in
    let now = ap (λ (o : Option Decision). length (from_child inst ds o)) c.in-Some.is in
    record {
      same = same;
      made = subst (λ (s : Node). WereMade inst s.decisions) stays c.loop-next.invariant.made;
      child = subst (λ (s : Node). IfSome next (IsChild inst s.decisions)) stays (next_child_is inst ds d next is child);
      fewer = subst (λ (s : Node). length (from_child inst s.decisions next)
          ≤ length (from_child inst c.args.node.now.decisions c.args.child)) stays
          (omega (arith, count, now, c.loop-next.invariant.fewer));
      goes = λ way. subst (λ (s : Node). WritesNodes [] (g.K.Sink.view c.args.sink.now)
          (g.K.Sink.view c.put_reach.new.sink) inst way (from_child inst c.args.node.now.decisions c.args.child)
          (from_child inst s.decisions next) c.args.progress.now c.args.progress.now (Ok tt)) stays
          (subst (λ (l : List (List Decision)). WritesNodes [] (g.K.Sink.view c.args.sink.now)
          (g.K.Sink.view c.put_reach.new.sink) inst way (from_child inst c.args.node.now.decisions c.args.child)
          l c.args.progress.now c.args.progress.now (Ok tt)) (next_due inst ds d next is child.0)
          (nodes_then (rw c.in-Some.is at c.loop-next.invariant.goes way)
          (reach_written inst way ds d c.args.progress.now (Ok tt) away c.in_ok-put_reach.ensures)));
    }

pub loop-next-preserved : goal.loop-next-preserved
loop-next-preserved g c =
    let inst = c.args.node.now.inst in
    let ds = c.go_back.new.self.decisions in
    let d = c.in-Some-go_back.newest in
    let next = c.next_child-next-in-Some-go_back.result in
    let same = c.go_back.ensures.inst ∙ c.loop-next.invariant.same in
    let is = subst (λ (i : InstanceView). IsNextChild i d next) (c.instance-in-Some-go_back.ensures.same ∙ same)
    c.next_child-next-in-Some-go_back.ensures in
    let stands = subst (λ (o : Option Decision). IfSome o (λ newest. c.loop-next.node.decisions ≡ newest ∷ ds)) c.in-Some-go_back.is
    c.go_back.ensures.some in
    let made = subst (λ (ds : List Decision). WereMade inst ds) stands c.loop-next.invariant.made in
    let none : c.loop-next.next ≡ None = search rules in
    let due = ap (from_child inst c.loop-next.node.decisions) none ∙ ap (behind inst) stands ∙ next_due inst ds d next is made.0.0 in
    record {
      same = same;
      made = made.2;
      child = next_child_is inst ds d next is made.0;
      fewer = omega (arith, ap (λ (l : List (List Decision)). length l) due, c.loop-next.invariant.fewer);
      goes = λ way. subst (λ (l : List (List Decision)). WritesNodes [] (g.K.Sink.view c.args.sink.now)
          (g.K.Sink.view c.loop-next.sink) inst way (from_child inst c.args.node.now.decisions c.args.child)
          l c.args.progress.now c.args.progress.now (Ok tt)) due (c.loop-next.invariant.goes way);
    }
