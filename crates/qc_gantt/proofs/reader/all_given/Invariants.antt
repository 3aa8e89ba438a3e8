use Rattle.std.proofs.Common.{◌≡◌, ◌<◌, ℕ, None, Some, get_or, length}
use Rattle.qc_model.specs.Rules.{no_slot}
use Rattle.qc_gantt.proofs.reader.all_given.Given as goal

abbrev pub invariant-loop-task : goal.invariant-loop-task
invariant-loop-task l = record {
  all : length l.sched ≡ length l.slots;
  same : (k : ℕ) → k < l.task → get_or l.slots k None ≡ Some (get_or l.sched k no_slot);
}
