use Rattle.std.proofs.Common.{◌≡◌, ◌≤◌, take}
use Rattle.std.specs.List.{count_by}
use Rattle.qc_changes.specs.Counts.{is_gone}
use Rattle.qc_changes.proofs.counts.count_gone.Given as goal

abbrev pub invariant-loop-container : goal.invariant-loop-container
invariant-loop-container l =
    (l.count ≡ count_by (is_gone l.other) (take l.container-index l.plan)) × (l.count ≤ l.container-index)
