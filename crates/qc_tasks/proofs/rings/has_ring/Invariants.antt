use Rattle.std.proofs.Common.{◌≡◌, false}
use Rattle.std.specs.List.{list_any, range_with_len}
use Rattle.qc_tasks.specs.Rings.{leads}
use Rattle.qc_tasks.proofs.rings.has_ring.Given as goal

abbrev pub invariant-loop-task : goal.invariant-loop-task
invariant-loop-task l = list_any (λ i. leads l.pairs i i) (range_with_len 0 l.task) ≡ false
