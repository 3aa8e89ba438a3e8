use Rattle.std.proofs.Common.{◌*◌, reverse}
use Rattle.qc_starts.specs.Arcs.{AreLow, AreOpening, IsRoomy}
use Rattle.qc_starts.proofs.arcs.open_arena.Given as goal

abbrev pub invariant-loop-from : goal.invariant-loop-from
invariant-loop-from l = record {
  room : IsRoomy l.decisions.inst l.arena;
  low : AreLow (reverse l.arena.arcs);
  opening : AreOpening l.decisions.inst (reverse l.arena.arcs) (240 * l.from);
}
