use Rattle.std.proofs.Common.{◌≡◌, ◌++◌, take}
use Rattle.std.specs.List.{filter}
use Rattle.qc_changes.specs.Classes.{cells_of, is_still}
use Rattle.qc_changes.proofs.lift.push_still.Given as goal

abbrev pub invariant-loop-container : goal.invariant-loop-container
invariant-loop-container l =
    l.cells.items ≡ l.initial.cells.items ++ cells_of (filter (is_still l.other) (take l.container-index l.plan))
