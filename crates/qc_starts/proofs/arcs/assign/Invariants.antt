use Rattle.std.proofs.Common.{reverse}
use Rattle.qc_starts.specs.Arcs.{AreLow, IsOver, IsRoomy}
use Rattle.qc_starts.proofs.ArcLemmas.{IsAssigning}
use Rattle.qc_starts.proofs.arcs.assign.Given as goal

abbrev pub invariant-loop-other : goal.invariant-loop-other
invariant-loop-other l = record {
  room : IsRoomy l.fn.decisions.inst l.arena;
  so_far : IsAssigning l.fn.decisions.inst l.fn.decisions.decisions l.task l.crane (reverse l.arena.arcs) l.other;
  low : AreLow (reverse l.arena.arcs);
  over : IsOver (reverse l.fn.arena.arcs) (reverse l.arena.arcs);
}
