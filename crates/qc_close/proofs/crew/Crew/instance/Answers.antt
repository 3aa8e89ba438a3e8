use Rattle.std.proofs.Common.{subst}
use Rattle.qc_model.specs.Assignments.{AreInRange}
use Rattle.qc_close.specs.Crews.{CrewView}
use Rattle.qc_close.proofs.crew.Crew.instance.Goals as goal

pub returns-clause-range : goal.returns-clause-range
returns-clause-range c = subst (λ (v : CrewView). AreInRange v.inst v.cranes) c.self.view_is c.self.invariant.range
