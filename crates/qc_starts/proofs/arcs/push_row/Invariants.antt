use Rattle.std.proofs.Common.{◌+◌, ◌*◌, reverse}
use Rattle.qc_starts.specs.Arcs.{AreLow, AreOpening, IsRoomy}
use Rattle.qc_starts.proofs.arcs.push_row.Given as goal

abbrev pub invariant-loop-to : goal.invariant-loop-to
invariant-loop-to l = record {
  room : IsRoomy l.decisions.inst l.arena;
  low : AreLow (reverse l.fn.arena.arcs) → AreLow (reverse l.arena.arcs);
  opening : AreOpening l.decisions.inst (reverse l.arena.arcs) (240 * l.from + l.to);
}
