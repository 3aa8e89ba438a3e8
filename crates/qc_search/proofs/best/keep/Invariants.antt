use Rattle.std.proofs.Common.{◌≡◌, ℕ, ◌<◌, List, length, slice_index_or}
use Rattle.qc_close.specs.Model.{AreLeast, slot_with, no_slot}
use Rattle.qc_search.proofs.best.keep.Given as goal

abbrev pub invariant-loop-task : goal.invariant-loop-task
invariant-loop-task l = record {
  count : length l.incumbent ≡ length l.starts.inst.tasks;
  slots :
      (begins : List ℕ) → AreLeast l.starts.inst l.starts.decisions begins → (j : ℕ) → j < l.task
      → slice_index_or l.incumbent j no_slot ≡ slot_with l.starts.decisions begins j;
}
