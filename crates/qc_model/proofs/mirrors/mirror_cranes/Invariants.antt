use Rattle.std.proofs.Common.{◌≡◌, map, take}
use Rattle.qc_model.specs.OneWay.{mirror_crane}
use Rattle.qc_model.proofs.mirrors.mirror_cranes.Given as goal

abbrev pub invariant-loop-crane : goal.invariant-loop-crane
invariant-loop-crane l = l.cranes.items ≡ map (mirror_crane l.inst) (take l.crane-index l.crane-items)
