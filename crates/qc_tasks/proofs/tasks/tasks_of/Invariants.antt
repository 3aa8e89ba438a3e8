use Rattle.std.proofs.Common.{◌≡◌, length, take}
use Rattle.std.specs.List.{flat_map, zip}
use Rattle.qc_tasks.specs.InstanceOf.{phases, tasks_at}
use Rattle.qc_tasks.proofs.tasks.tasks_of.Given as goal

abbrev pub invariant-loop-hatch : goal.invariant-loop-hatch
invariant-loop-hatch l =
    l.tasks.items ≡ flat_map (λ hatch. flat_map (tasks_at l.ship l.rows hatch.0 hatch.1) phases) (take (length l.yielded) (zip l.ship.hatches l.ship.places))
