use Rattle.std.proofs.Common.{◌≡◌, ◌≤◌, take}
use Rattle.std.specs.List.{count_by}
use Rattle.qc_changes.specs.Classes.{is_still}
use Rattle.qc_changes.proofs.counts.count_still.Given as goal

abbrev pub invariant-loop-container : goal.invariant-loop-container
invariant-loop-container l =
    (l.count ≡ count_by (is_still l.other) (take l.container-index l.plan)) × (l.count ≤ l.container-index)
