use Rattle.std.proofs.Common.{length, ap, arith}
use Rattle.qc_dist.specs.Node.{Node}
use Rattle.qc_dist.proofs.decisions.Decisions.is_sooner.Goals as goal

pub cell-requires-clause-first : goal.cell-requires-clause-first
cell-requires-clause-first c =
    omega (arith, c.self.invariant.valid.tasks.count, ap (λ (n : Node). length n.inst.tasks) c.self.view_is)

pub cell-requires-clause-second : goal.cell-requires-clause-second
cell-requires-clause-second c =
    omega (arith, c.self.invariant.valid.tasks.count, ap (λ (n : Node). length n.inst.tasks) c.self.view_is)
