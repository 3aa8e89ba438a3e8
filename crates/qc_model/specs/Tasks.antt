-- public: the order and the names of tasks and phases.
use Rattle.std.specs.Prelude.{ℕ, ◌+◌, ◌*◌, List, ◌∷◌, ◌++◌, codes, decimal}
use Rattle.qc_model.specs.declared.task.Phase.{Phase}
use Rattle.qc_model.specs.declared.task.Phase.TheVariants.{DeckOut, HoldOut, HoldIn, DeckIn}
use Rattle.qc_model.specs.declared.task.Task.{Task}

-- how a phase is printed
abbrev pub phase_text : Phase → List ℕ
phase_text DeckOut = codes "DD"
phase_text HoldOut = codes "DH"
phase_text HoldIn = codes "LH"
phase_text DeckIn = codes "LD"

-- the phases of a hatch in the order in which they are worked
abbrev pub phase_rank : Phase → ℕ
phase_rank DeckOut = 0
phase_rank HoldOut = 1
phase_rank HoldIn = 2
phase_rank DeckIn = 3

-- tasks are in order of this number: by hatch, then by phase
abbrev pub task_rank : Task → ℕ
task_rank t = 4 * t.hatch + phase_rank t.phase

-- the name of a task: its hatch, '-' and its phase
abbrev pub task_text : Task → List ℕ
task_text t = decimal t.hatch ++ 45 ∷ phase_text t.phase
