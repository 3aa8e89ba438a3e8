use Rattle.std.proofs.Common.{◌≡◌, ◌+◌, ◌≤◌, [], Ok, IfSome, length}
use Rattle.qc_model.specs.declared.direction.Direction.{Direction}
use Rattle.qc_search.specs.Progress.{WritesNodes}
use Rattle.qc_search.specs.Walk.{IsChild, WereMade, from_child}
use Rattle.qc_search.proofs.part.advance.Given as goal

abbrev pub invariant-loop-next : goal.invariant-loop-next
invariant-loop-next g l = record {
  same : l.node.inst ≡ l.fn.node.inst;
  made : WereMade l.fn.node.inst l.node.decisions;
  child : IfSome l.next (IsChild l.fn.node.inst l.node.decisions);
  fewer : length (from_child l.fn.node.inst l.node.decisions l.next)
      ≤ length (from_child l.fn.node.inst l.fn.node.decisions l.fn.child);
  goes : (way : Direction) → WritesNodes [] (g.K.Sink.view l.fn.sink) (g.K.Sink.view l.sink) l.fn.node.inst way
      (from_child l.fn.node.inst l.fn.node.decisions l.fn.child)
      (from_child l.fn.node.inst l.node.decisions l.next) l.progress l.progress (Ok tt);
}

abbrev pub decreases-loop-next : goal.decreases-loop-next
decreases-loop-next g l =
    length (from_child l.fn.node.inst l.node.decisions l.next) + length l.node.decisions
