use Rattle.std.proofs.Common.{arith}
use Rattle.std.proofs.lemmas.Nat.{mul-le}
use Rattle.qc_part.proofs.places.shift_bays.Goals as goal

pub overflow_sub-crane : goal.overflow_sub-crane
overflow_sub-crane c = omega (arith, c.gap_bays-gap.ensures.valid.cranes.count.1)

pub returns : goal.returns
returns c =
    omega (arith, mul-le c.gap_bays-gap.result c.from.result 2000 8 c.gap_bays-gap.ensures.bound (omega (arith, c.from.ensures)))
