use Rattle.std.proofs.Common.{ℕ, ◌<◌, IsSome}
use Rattle.qc_model.specs.Nodes.{assigned}
use Rattle.qc_search.proofs.choice.next_open.Given as goal

abbrev pub invariant-loop-task : goal.invariant-loop-task
invariant-loop-task l = (j : ℕ) → j < l.task → IsSome (assigned l.starts.decisions j)
