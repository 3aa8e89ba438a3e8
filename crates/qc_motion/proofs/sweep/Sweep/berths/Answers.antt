use Rattle.std.proofs.Common.{ap, subst, arith}
use Rattle.qc_motion.specs.Sweep.{IsSound}
use Rattle.qc_motion.proofs.sweep.Sweep.berths.Goals as goal

pub overflow_add-result : goal.overflow_add-result
overflow_add-result c = omega (arith, c.self.invariant.0.range, c.self.invariant.0.valid.cranes.count)

pub returns-clause-count : goal.returns-clause-count
returns-clause-count c = let k = ap (λ s. s.crane) c.self.view_is in omega arith

pub returns-clause-sound : goal.returns-clause-sound
returns-clause-sound c = subst IsSound c.self.view_is c.self.invariant.0
