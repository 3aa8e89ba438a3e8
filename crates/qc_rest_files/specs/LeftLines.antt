-- inner: the lines of what is left, move by move.
use Rattle.std.specs.Prelude.{◌≡◌, ℕ, true, List, [], if◌then◌else◌}
use Rattle.qc_changes.specs.ListText.{IsPlain, row_line}
use Rattle.qc_model.specs.declared.task.Task.{Task}
use Rattle.qc_rest_files.specs.LeftRows.{is_move_of_any}
use Rattle.qc_stow.specs.declared.row.Row.{Row}

-- the line of a move that is left; none of another
abbrev pub left_line : List Task → Row → List ℕ
left_line tasks row = if is_move_of_any tasks row then row_line row else []

-- what is known of a move that is left
abbrev pub IsPlainIfLeft : List Task → Row → Type 0
IsPlainIfLeft tasks row = is_move_of_any tasks row ≡ true → IsPlain row
