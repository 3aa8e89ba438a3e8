-- public: the moves of what is left of a plan.
use Rattle.std.specs.Prelude.{Bool, List, filter}
use Rattle.std.specs.List.{list_any}
use Rattle.qc_model.specs.declared.task.Task.{Task}
use Rattle.qc_stow.specs.declared.row.Row.{Row}
use Rattle.qc_tasks.specs.InstanceOf.{is_move_of}

-- the move is one of the moves of these tasks
abbrev pub is_move_of_any : List Task → Row → Bool
is_move_of_any tasks row = list_any (λ t. is_move_of t row) tasks

-- the moves of these tasks, in the order of the list
abbrev pub left_rows : List Task → List Row → List Row
left_rows tasks rows = filter (is_move_of_any tasks) rows
