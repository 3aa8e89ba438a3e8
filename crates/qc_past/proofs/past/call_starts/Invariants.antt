use Rattle.std.proofs.Common.{◌≡◌}
use Rattle.std.specs.List.{filter, range_with_len}
use Rattle.qc_past.specs.Past.{begins}
use Rattle.qc_past.proofs.past.call_starts.Given as goal

abbrev pub invariant-loop-at : goal.invariant-loop-at
invariant-loop-at l = l.starts.items ≡ filter (begins l.tasks) (range_with_len 0 l.at)
