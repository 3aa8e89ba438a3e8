use Rattle.std.proofs.Common.{◌≡◌, ◌≤◌, slice_index}
use Rattle.qc_close.proofs.trip.first_at.Given as goal

abbrev pub invariant-walking : goal.invariant-walking
invariant-walking l = record {
  within : l.first ≤ l.fn.task;
  same : slice_index l.spots l.first ≡ slice_index l.spots l.fn.task;
  spot : l.spot ≡ slice_index l.spots l.fn.task;
}

abbrev pub decreases-walking : goal.decreases-walking
decreases-walking l = l.first
