use Rattle.std.proofs.Common.{◌≡◌, ℕ, None}
use Rattle.qc_model.specs.Nodes.{assigned}
use Rattle.qc_sweep.proofs.local.improved.Given as goal

abbrev pub invariant-loop : goal.invariant-loop
invariant-loop l = record {
  starts : l.starts.inst ≡ l.inst;
  none : (j : ℕ) → assigned l.starts.decisions j ≡ None;
}
