use Rattle.std.proofs.Common.{◌≡◌, ◌++◌, map, take}
use Rattle.qc_changes.specs.Classes.{changed}
use Rattle.qc_changes.specs.MoveList.{row_of}
use Rattle.qc_changes.proofs.rows.push_changed.Given as goal

abbrev pub invariant-loop-container : goal.invariant-loop-container
invariant-loop-container l =
    l.rows.items ≡ l.initial.rows.items ++ map (row_of l.kind) (changed (take l.container-index l.plan) l.other)
