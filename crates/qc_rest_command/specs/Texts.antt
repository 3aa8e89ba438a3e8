-- public: what is told of what is left of a plan, and what is printed.
use Rattle.std.specs.Prelude.{◌≡◌, ◌<◌, ℕ, All, List, ◌++◌, length, codes, decimal}
use Rattle.std.specs.Fmt.{signed_decimal}
use Rattle.std.specs.List.{flat_map}
use Rattle.qc_model.specs.declared.crane.Crane.{Crane}
use Rattle.qc_model.specs.Instance.{InstanceView, crane, task}
use Rattle.qc_model.specs.Tasks.{task_text}
use Rattle.qc_rest.specs.declared.remains.StillRuns.{StillRuns}
use Rattle.qc_rest.specs.declared.rest.RestError.{RestError}
use Rattle.qc_rest.specs.declared.rest.RestError.TheVariants as error
use Rattle.qc_run.specs.declared.no_rest.NoRest.{NoRest}
use Rattle.qc_run.specs.declared.no_rest.NoRestKind.TheVariants as kind
use Rattle.qc_run.specs.declared.status.Status.{Status}
use Rattle.qc_run.specs.declared.status.Status.TheVariants as status
use Rattle.qc_run.specs.Broken.{broken_text}
use Rattle.qc_run.specs.NoRest.{no_rest_text}
use Rattle.qc_rest_command.specs.declared.answer.Renewed.{Renewed}
use Rattle.qc_rest_command.specs.declared.answer.Renewing.{Renewing}
use Rattle.qc_rest_command.specs.declared.answer.Renewing.TheVariants as renewing

-- why what is left can't be planned, and the name of the task or of the crane
abbrev pub TellsNoRest : InstanceView → RestError → NoRest → Type 0
TellsNoRest inst (error.Over i) told = (told.kind ≡ kind.Over) × (told.name ≡ task_text (task inst i))
TellsNoRest inst (error.Ready k) told = (told.kind ≡ kind.Ready) × (told.name ≡ (crane inst k).name)
TellsNoRest inst (error.Bay k) told = (told.kind ≡ kind.Bay) × (told.name ≡ (crane inst k).name)
TellsNoRest inst error.OutOfMemory told = ⊥

-- the line of a task that runs: its crane, and the ticks that it still needs
abbrev pub running_line : InstanceView → StillRuns → List ℕ
running_line inst r =
    codes "running " ++ task_text (task inst r.task) ++ codes " " ++ (crane inst r.crane).name ++ codes " "
    ++ decimal r.ticks ++ codes "\n"

-- the line of a crane of what is left: where it stands, and when it is ready
abbrev pub crane_line : Crane → List ℕ
crane_line c =
    codes "crane " ++ c.name ++ codes " " ++ signed_decimal c.bay ++ codes " " ++ decimal c.ready ++ codes "\n"

-- the tick that it is, and how many tasks are left
abbrev pub now_text : Renewed → List ℕ
now_text told =
    codes "now " ++ decimal told.rest.now ++ codes "\nleft " ++ decimal (length told.rest.instance.tasks) ++ codes "\n"

-- when the old order ends, and by how much that is late
abbrev pub end_text : Renewed → List ℕ
end_text told = codes "end " ++ decimal told.rest.end ++ codes "\nlate " ++ decimal told.rest.late ++ codes "\n"

-- what is printed of what is left
abbrev pub renewed_text : Renewed → List ℕ
renewed_text told =
    now_text told
    ++ (flat_map (running_line told.worked.followed.dispatch.inst) told.rest.running.items
    ++ (flat_map crane_line told.rest.instance.cranes ++ end_text told))

abbrev pub renewing_text : Renewing → List ℕ
renewing_text renewing.WriteFault = codes "WriteFault\n"
renewing_text (renewing.Broken told) = broken_text told
renewing_text (renewing.NoRest told) = no_rest_text told
renewing_text (renewing.Renewed told) = renewed_text told

abbrev pub renewing_status : Renewing → Status
renewing_status renewing.WriteFault = status.WriteFault
renewing_status (renewing.Broken told) = status.Broken
renewing_status (renewing.NoRest told) = status.NoRest
renewing_status (renewing.Renewed told) = status.Done

-- each task that runs and its crane are of the instance
abbrev pub IsInside : InstanceView → StillRuns → Type 0
IsInside inst r = (r.task < length inst.tasks) × (r.crane < length inst.cranes)

abbrev pub CanBeTold : Renewing → Type 0
CanBeTold (renewing.Renewed told) = All (IsInside told.worked.followed.dispatch.inst) told.rest.running.items
CanBeTold _ = Unit {0}
