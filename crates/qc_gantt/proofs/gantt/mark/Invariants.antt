use Rattle.std.proofs.Common.{◌≡◌, length, drop, find}
use Rattle.std.specs.List.{zip}
use Rattle.qc_gantt.specs.GanttText.{is_at}
use Rattle.qc_gantt.proofs.gantt.mark.Given as goal

-- the task of the crane at the tick is among those that are left
abbrev pub invariant-loop-task : goal.invariant-loop-task
invariant-loop-task l =
    find (λ line. is_at l.crane l.at line.0 line.1) (drop (length l.yielded) (zip l.inst.tasks l.sched))
    ≡ find (λ line. is_at l.crane l.at line.0 line.1) (zip l.inst.tasks l.sched)
