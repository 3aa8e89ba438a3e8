use Rattle.std.proofs.Common.{get_or}
use Rattle.qc_model.specs.Instance.{no_crane}
use Rattle.qc_close.specs.Grains.{IsGrainOf}
use Rattle.qc_close.proofs.grain.with_cranes.Given as goal

abbrev pub invariant-loop-crane : goal.invariant-loop-crane
invariant-loop-crane l = IsGrainOf l.start (λ i. (get_or l.cranes i no_crane).ready) l.crane-index l.grain
