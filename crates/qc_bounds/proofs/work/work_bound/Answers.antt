use Rattle.qc_bounds.proofs.WorkLemmas.{bound_of}
use Rattle.qc_bounds.proofs.work.work_bound.Goals as goal

pub returns-clause-bound : goal.returns-clause-bound
returns-clause-bound c =
    λ inst ds of. bound_of c.args.crew.now inst ds of c.latest_closed.result c.latest_closed.ensures.latest
