use Rattle.std.proofs.Common.{◌≡◌, ◌-◌, length}
use Rattle.qc_starts.specs.Found.{why_in}
use Rattle.qc_starts.specs.Ways.{IsWay}
use Rattle.qc_starts.proofs.walk.ring_behind.Given as goal

abbrev pub invariant-loop-raiser : goal.invariant-loop-raiser
invariant-loop-raiser l = record {
  way : IsWay (why_in l.count l.values.cells) l.fn.root l.task l.path.items;
  room : l.path.capacity ≡ l.fn.path.capacity;
}

abbrev pub decreases-loop-raiser : goal.decreases-loop-raiser
decreases-loop-raiser l = l.count - length l.path.items
