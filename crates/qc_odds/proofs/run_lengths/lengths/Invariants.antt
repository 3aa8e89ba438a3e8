use Rattle.std.proofs.Common.{◌≡◌, ◌<◌, ◌≤◌, ℕ, length, slice_index}
use Rattle.qc_model.specs.Instance.{task}
use Rattle.qc_odds.specs.Lengths.{length_of, most_length}
use Rattle.qc_odds.proofs.run_lengths.lengths.Given as goal

abbrev pub invariant-loop-j : goal.invariant-loop-j
invariant-loop-j l = record {
  count : length l.lengths ≡ length l.inst.tasks;
  each_one : (k : ℕ) → k < l.j → slice_index l.lengths k ≡ length_of l.past l.seed l.run (task l.inst k);
  some : (k : ℕ) → k < l.j → 1 ≤ slice_index l.lengths k;
  few : (k : ℕ) → k < l.j → slice_index l.lengths k ≤ most_length;
}
