use Rattle.std.proofs.Common.{◌<◌, ℕ}
use Rattle.qc_dispatch.specs.Following.{journal_of}
use Rattle.qc_rest.specs.Remaining.{IsDue}
use Rattle.qc_rest.proofs.remains.first_due.Given as goal

abbrev pub invariant-loop-task : goal.invariant-loop-task
invariant-loop-task l = (h : ℕ) → h < l.task → IsDue (journal_of l.journal) h → ⊥
