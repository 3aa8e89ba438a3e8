use Rattle.std.proofs.Common.{◌≡◌, ℕ, ◌<◌, length, slice_index_or}
use Rattle.qc_model.specs.Rules.{no_slot}
use Rattle.qc_search.proofs.given.copy_slots.Given as goal

abbrev pub invariant-loop-task : goal.invariant-loop-task
invariant-loop-task l = record {
  count : length l.to ≡ l.tasks;
  done : (j : ℕ) → j < l.task → slice_index_or l.to j no_slot ≡ slice_index_or l.from j no_slot;
}
