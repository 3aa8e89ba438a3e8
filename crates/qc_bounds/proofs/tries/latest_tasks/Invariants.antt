use Rattle.std.proofs.Common.{◌≡◌, ◌+◌, ◌≤◌}
use Rattle.qc_model.specs.declared.limits.TheConstants.{MOST_START}
use Rattle.qc_bounds.proofs.tries.latest_tasks.Given as goal

abbrev pub invariant-loop : goal.invariant-loop
invariant-loop l = record {
  room : l.path.capacity ≡ l.fn.path.capacity;
  later : l.fn.end ≤ l.next;
  soon : l.next ≤ MOST_START + 1;
}
