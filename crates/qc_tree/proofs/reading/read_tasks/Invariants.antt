use Rattle.std.proofs.Common.{◌≡◌, ◌≤◌, length}
use Rattle.qc_tree.proofs.OneSpelling.{SoFar}
use Rattle.qc_tree.proofs.reading.read_tasks.Given as goal

abbrev pub invariant-loop-rest : goal.invariant-loop-rest
invariant-loop-rest l = record {
  room_stays : l.path.capacity ≡ l.fn.path.capacity;
  room : 240 ≤ l.path.capacity;
  few : length l.path.items ≤ 240;
  so_far : SoFar l.text l.path.items l.rest;
}

abbrev pub decreases-loop-rest : goal.decreases-loop-rest
decreases-loop-rest l = length l.rest
