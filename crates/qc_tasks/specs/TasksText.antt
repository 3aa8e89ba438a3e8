-- public: the report of an instance's tasks and of the rules between them.
use Rattle.std.specs.Prelude.{ℕ, List, [], ◌++◌, ◌==◌, if◌then◌else◌, codes, decimal, sum_by}
use Rattle.std.specs.List.{flat_map}
use Rattle.std.specs.Fmt.{signed_decimal}
use Rattle.qc_model.specs.declared.task.Task.{Task}
use Rattle.qc_model.specs.declared.pair.Pair.{Pair}
use Rattle.qc_model.specs.Tasks.{task_text}
use Rattle.qc_model.specs.Instance.{InstanceView, task}

-- the line of a task: its name, its crane bay and its length in ticks
abbrev pub task_line : Task → List ℕ
task_line t = codes "task " ++ task_text t ++ codes " " ++ signed_decimal t.bay ++ codes " "
    ++ decimal t.ticks ++ codes "\n"

-- the line of a pair: what it says of two tasks, and their names
abbrev pub pair_line : InstanceView → List ℕ → Pair → List ℕ
pair_line inst title pair = title ++ task_text (task inst pair.first) ++ codes " "
    ++ task_text (task inst pair.second) ++ codes "\n"

-- the line of the tick before which a task doesn't start; none where it may start at any
abbrev pub release_line : Task → List ℕ
release_line t = if t.release == 0 then []
    else codes "not_before " ++ task_text t ++ codes " " ++ decimal t.release ++ codes "\n"

-- the length of all tasks together
abbrev pub total_line : InstanceView → List ℕ
total_line inst = codes "total " ++ decimal (sum_by (λ t. t.ticks) inst.tasks) ++ codes "\n"

-- the report: a line for each task, each pair of which the first is before the second, each pair that is
-- apart, and each task that doesn't start before some tick, and the total
abbrev pub tasks_text : InstanceView → List ℕ
tasks_text inst =
    flat_map task_line inst.tasks ++ (flat_map (pair_line inst (codes "before ")) inst.before
    ++ (flat_map (pair_line inst (codes "apart ")) inst.apart
    ++ (flat_map release_line inst.tasks ++ total_line inst)))
