use Rattle.std.proofs.Common.{take}
use Rattle.qc_changes.specs.Plans.{Tells}
use Rattle.qc_changes.proofs.plan.add_places.Given as goal

abbrev pub invariant-loop-container : goal.invariant-loop-container
invariant-loop-container l = Tells l.places (take l.container-index l.containers)
