use Rattle.std.proofs.Common.{ℕ, ◌<◌, slice_index_or}
use Rattle.qc_model.specs.Instance.{pair_of}
use Rattle.qc_starts.proofs.KeptLemmas.{IsSettledPair}
use Rattle.qc_starts.proofs.complete.are_settled.Given as goal

abbrev pub invariant-loop-pair : goal.invariant-loop-pair
invariant-loop-pair l = (k : ℕ) → k < l.pair-index
    → IsSettledPair l.decisions.inst l.decisions.decisions (slice_index_or l.pair-items k (pair_of 0 0))
