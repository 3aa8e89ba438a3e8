use Rattle.std.proofs.Common.{◌≡◌, ◌≤◌, ◌<◌, ℕ, false, length}
use Rattle.qc_tasks.specs.InstanceOf.{tasks_of}
use Rattle.qc_tasks.specs.Rings.{before_with, has_ring}
use Rattle.qc_tasks.proofs.order.first_ring.Given as goal

abbrev pub invariant-loop-count : goal.invariant-loop-count
invariant-loop-count l = (n : ℕ) → 1 ≤ n → n < l.count → has_ring (length (tasks_of l.ship l.rows)) (before_with l.ship l.rows n) ≡ false
