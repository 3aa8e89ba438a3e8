use Rattle.std.proofs.Common.{subst}
use Rattle.qc_starts.specs.Seen.{IsStep}
use Rattle.qc_starts.proofs.KeptLemmas.{step_kept}
use Rattle.qc_starts.proofs.starts.Starts.stuck.Goals as goal

pub returns-in-Cycle-clause-none : goal.returns-in-Cycle-clause-none
returns-in-Cycle-clause-none c =
    subst (IsStep c.args.self.now.inst c.args.self.now.decisions) c.in-Cycle.is (step_kept c.self.inside _ c.self.invariant c.self.view_is)

pub returns-in-Raised-clause-none : goal.returns-in-Raised-clause-none
returns-in-Raised-clause-none c =
    subst (IsStep c.args.self.now.inst c.args.self.now.decisions) c.in-Raised.is (step_kept c.self.inside _ c.self.invariant c.self.view_is)
