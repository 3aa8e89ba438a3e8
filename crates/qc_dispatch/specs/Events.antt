-- public: what is told of a start and of an end.
use Rattle.qc_dispatch.specs.declared.event.Event.{Event}
use Rattle.qc_dispatch.specs.declared.event.Event.TheVariants.{Started, Finished}
use Rattle.qc_dispatch.specs.declared.grant.Grant.{Grant}
use Rattle.qc_model.specs.Instance.{InstanceView, crane, task}
use Rattle.qc_model.specs.Tasks.{task_text}
use Rattle.std.specs.Prelude.{ℕ}

-- the start of the task of a grant, by its crane
abbrev pub started_event : InstanceView → Grant → Event
started_event inst grant = Started (task_text (task inst grant.task)) (crane inst grant.crane).name grant.at

-- the end of a task
abbrev pub finished_event : InstanceView → (j at : ℕ) → Event
finished_event inst j at = Finished (task_text (task inst j)) at
