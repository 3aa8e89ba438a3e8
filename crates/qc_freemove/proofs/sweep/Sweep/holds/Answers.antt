use Rattle.std.proofs.Common.{subst}
use Rattle.qc_freemove.specs.FreeSweep.{IsFreeSound}
use Rattle.qc_freemove.proofs.sweep.Sweep.holds.Goals as goal

pub returns-clause-sound : goal.returns-clause-sound
returns-clause-sound c = subst IsFreeSound c.self.view_is c.self.invariant.0
