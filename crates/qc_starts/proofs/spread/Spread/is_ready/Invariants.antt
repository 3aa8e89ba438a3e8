use Rattle.std.proofs.Common.{◌≡◌, ◌⊎◌, false}
use Rattle.qc_arena.specs.declared.edge.Edge.{Edge}
use Rattle.qc_starts.specs.Spread.{IsIn, is_pending}
use Rattle.qc_starts.proofs.spread.Spread.is_ready.Given as goal

abbrev pub invariant-loop-arc : goal.invariant-loop-arc
invariant-loop-arc l = record {
  can : goal.iterator-loop-arc.can_next l.arc-iterator;
  finite : goal.iterator-loop-arc.is_finite l.arc-iterator;
  met : (arc : Edge) → IsIn l.network.arcs arc → arc.to ≡ l.task
      → (is_pending l.self.pending.items arc.from ≡ false) ⊎ IsIn l.arc-iterator arc;
  inside : (arc : Edge) → IsIn l.arc-iterator arc → IsIn l.network.arcs arc × (arc.to ≡ l.task);
}
