use Rattle.std.proofs.Common.{arith}
use Rattle.std.proofs.lemmas.Int.{ints}
use Rattle.qc_model.proofs.LimitsOf.{limits_of}
use Rattle.qc_model.proofs.seen.seen_bay.Goals as goal

pub overflow_add-result : goal.overflow_add-result
overflow_add-result c = let l = limits_of _ c.bays.ensures.valid in omega (arith, ints)

pub overflow_sub-result : goal.overflow_sub-result
overflow_sub-result c = let l = limits_of _ c.bays.ensures.valid in omega (arith, ints)

pub returns-in-Down : goal.returns-in-Down
returns-in-Down c = let l = limits_of _ c.bays.ensures.valid in rw c.in-Down.is (omega (arith, ints))
