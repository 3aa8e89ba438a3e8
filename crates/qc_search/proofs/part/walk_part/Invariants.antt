use Rattle.std.proofs.Common.{◌≡◌, [], ◌∷◌, ◌≤◌, Ok, length}
use Rattle.qc_model.specs.Numbers.{most_tasks}
use Rattle.qc_num.specs.Paths.{HasRoom}
use Rattle.qc_search.specs.Progress.{WritesNodes}
use Rattle.qc_search.specs.Walk.{WereMade, from_node, steps_left}
use Rattle.qc_search.proofs.part.walk_part.Given as goal

abbrev pub invariant-loop-child : goal.invariant-loop-child
invariant-loop-child g l = record {
  same : l.node.inst ≡ l.fn.node.inst;
  made : WereMade l.fn.node.inst l.node.decisions;
  count : length l.progress.incumbent ≡ length l.fn.node.inst.tasks;
  room : HasRoom most_tasks l.progress.path;
  few : l.progress.branched ≤ l.progress.limit;
  goes : WritesNodes [] (g.K.Sink.view l.fn.sink) (g.K.Sink.view l.sink) l.fn.node.inst l.fn.way
      ([] ∷ []) (from_node l.fn.node.inst l.node.decisions) l.fn.progress l.progress (Ok tt);
}

abbrev pub decreases-loop-child : goal.decreases-loop-child
decreases-loop-child g l = steps_left (from_node l.fn.node.inst l.node.decisions) l.progress.limit l.progress.branched
