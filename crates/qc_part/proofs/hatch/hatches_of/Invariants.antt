use Rattle.std.proofs.Common.{◌-◌, ◌≤◌, length}
use Rattle.qc_part.proofs.hatch.hatches_of.Given as goal

abbrev pub invariant-loop-next : goal.invariant-loop-next
invariant-loop-next l = l.next ≤ length l.inst.tasks

abbrev pub decreases-loop-next : goal.decreases-loop-next
decreases-loop-next l = length l.inst.tasks - l.next
