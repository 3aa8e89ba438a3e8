use Rattle.std.proofs.Common.{◌≡◌, ◌<◌, ◌||◌, ℕ, length, take}
use Rattle.std.specs.List.{list_any}
use Rattle.qc_tasks.specs.InstanceOf.{puts_before, task_at}
use Rattle.qc_tasks.specs.Restows.{is_in}
use Rattle.qc_tasks.proofs.entries.add_entries.Given as goal

abbrev pub invariant-loop-entry : goal.invariant-loop-entry
invariant-loop-entry l = (i j : ℕ) → i < length l.tasks → j < length l.tasks
    → is_in l.pairs i j ≡ (is_in l.initial.pairs i j || list_any (puts_before (task_at l.tasks i) (task_at l.tasks j)) (take l.entry-index l.entries))
