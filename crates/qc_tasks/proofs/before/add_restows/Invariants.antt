use Rattle.std.proofs.Common.{◌≡◌, ◌<◌, ℕ, length, take}
use Rattle.std.specs.List.{list_any}
use Rattle.qc_tasks.specs.InstanceOf.{brings_back, task_at}
use Rattle.qc_tasks.specs.Restows.{is_in}
use Rattle.qc_tasks.proofs.before.add_restows.Given as goal

abbrev pub invariant-loop-row : goal.invariant-loop-row
invariant-loop-row l = (i j : ℕ) → i < length l.tasks → j < length l.tasks
    → is_in l.pairs i j ≡ list_any (brings_back l.rows (task_at l.tasks i) (task_at l.tasks j)) (take l.row-index l.rows)
