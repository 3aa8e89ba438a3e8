use Rattle.std.proofs.Common.{subst}
use Rattle.qc_motion.specs.Sweep.{IsSound}
use Rattle.qc_motion.proofs.sweep.Sweep.tasks.Goals as goal

pub returns-clause-sound : goal.returns-clause-sound
returns-clause-sound c = subst IsSound c.self.view_is c.self.invariant.0
