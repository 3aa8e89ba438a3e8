use Rattle.std.proofs.Common.{arith}
use Rattle.qc_model.proofs.Bays.{bays}
use Rattle.qc_model.proofs.LimitsOf.{limits_of}
use Rattle.qc_part.proofs.places.gap_bays.Goals as goal

pub returns-clause-bound : goal.returns-clause-bound
returns-clause-bound c =
    let limits = limits_of c.args.inst.now c.gap.ensures.valid in
    omega (arith, bays, c.bays_up.ensures, c.gap.ensures.gap, limits.gap.1)
