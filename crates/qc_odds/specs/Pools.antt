-- public: which past tasks of a call stand for a task.
use Rattle.std.specs.Prelude.{◌*◌, List, [], ◌∷◌, Bool, true, ◌&&◌, ◌==◌, nat_le, Option, None, Some}
use Rattle.std.specs.List.{filter}
use Rattle.qc_model.specs.Tasks.{phase_rank}
use Rattle.qc_model.specs.declared.task.Phase.{Phase}
use Rattle.qc_model.specs.declared.task.Task.{Task}
use Rattle.qc_past.specs.declared.task.PastTask.{PastTask}

-- a past task of a phase, or of any, is of this one
abbrev pub is_phase : Option Phase → Phase → Bool
is_phase None phase = true
is_phase (Some past) phase = phase_rank past == phase_rank phase

-- the past task is of the task's phase
abbrev pub is_own : Task → PastTask → Bool
is_own task past = is_phase past.phase task.phase

-- and neither was planned to be more than twice as long as the other
abbrev pub is_like : Task → PastTask → Bool
is_like task past = is_own task past && nat_le task.ticks (2 * past.planned) && nat_le past.planned (2 * task.ticks)

-- the first of two lists that isn't empty
abbrev pub or_else : List PastTask → List PastTask → List PastTask
or_else [] others = others
or_else (past ∷ more) others = past ∷ more

-- of the past tasks of a call, those that stand for a task: the like ones; where there are none those of its phase;
-- where there are none all
abbrev pub pool_of : Task → List PastTask → List PastTask
pool_of task tasks = or_else (filter (is_like task) tasks) (or_else (filter (is_own task) tasks) tasks)
