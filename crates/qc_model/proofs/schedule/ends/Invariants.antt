use Rattle.std.proofs.Common.{◌≡◌, length, drop, max}
use Rattle.qc_model.specs.Rules.{last_end, ends, starts}
use Rattle.qc_model.proofs.schedule.ends.Given as goal

-- the end so far and the end of the tasks that are left make the whole
abbrev pub invariant-loop-task : goal.invariant-loop-task
invariant-loop-task l = max l.end (last_end (drop (length l.yielded) l.inst.tasks) (starts (drop (length l.yielded) l.sched))) ≡ ends l.inst l.sched
