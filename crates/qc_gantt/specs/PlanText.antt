-- public: the text of a plan file.
use Rattle.std.specs.Prelude.{ℕ, ◌+◌, List, ◌++◌, codes, decimal}
use Rattle.std.specs.List.{flat_map, zip}
use Rattle.qc_model.specs.declared.task.Task.{Task}
use Rattle.qc_model.specs.declared.schedule.Slot.{Slot}
use Rattle.qc_model.specs.Tasks.{task_text}
use Rattle.qc_model.specs.Instance.{InstanceView, crane}

-- the line of a task: its name, its crane's name, its start and its end
abbrev pub plan_line : InstanceView → Task → Slot → List ℕ
plan_line inst t s =
    task_text t ++ codes "," ++ (crane inst s.crane).name ++ codes "," ++ decimal s.start ++ codes ","
    ++ decimal (s.start + t.ticks) ++ codes "\n"

-- the plan file of a schedule: the header and a line for each task in task order
abbrev pub plan_text : InstanceView → List Slot → List ℕ
plan_text inst sched =
    codes "task,crane,start,end\n" ++ flat_map (λ line. plan_line inst line.0 line.1) (zip inst.tasks sched)
