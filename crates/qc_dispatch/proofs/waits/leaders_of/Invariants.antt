use Rattle.std.proofs.Common.{◌≡◌, ◌≤◌, None}
use Rattle.qc_dispatch.specs.Waits.{open_below}
use Rattle.qc_dispatch.proofs.waits.leaders_of.Given as goal

abbrev pub invariant-loop-i : goal.invariant-loop-i
invariant-loop-i l = (l.leaders ≡ open_below l.i l.marks (λ i. None) l.j) × (l.leaders ≤ l.i)
