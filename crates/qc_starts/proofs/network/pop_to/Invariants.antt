use Rattle.std.proofs.Common.{◌≡◌, ◌-◌, ◌≤◌, drop, length, reverse}
use Rattle.qc_starts.proofs.network.pop_to.Given as goal

abbrev pub invariant-loop-arena : goal.invariant-loop-arena
invariant-loop-arena l = record {
  some : l.mark ≤ length l.arena.arcs;
  count : length l.arena.arcs ≤ length l.fn.arena.arcs;
  arcs : reverse l.arena.arcs ≡ drop (length l.fn.arena.arcs - length l.arena.arcs) (reverse l.fn.arena.arcs);
  nodes : l.arena.nodes ≡ l.fn.arena.nodes;
  cap : l.arena.cap ≡ l.fn.arena.cap;
}

abbrev pub decreases-loop-arena : goal.decreases-loop-arena
decreases-loop-arena l = length l.arena.arcs
