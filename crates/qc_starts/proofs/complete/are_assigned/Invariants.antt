use Rattle.std.proofs.Common.{ℕ, ◌<◌, IsSome}
use Rattle.qc_model.specs.Nodes.{assigned}
use Rattle.qc_starts.proofs.complete.are_assigned.Given as goal

abbrev pub invariant-loop-task : goal.invariant-loop-task
invariant-loop-task l = (j : ℕ) → j < l.task → IsSome (assigned l.decisions.decisions j)
