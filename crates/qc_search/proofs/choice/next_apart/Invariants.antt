use Rattle.std.proofs.Common.{◌≡◌, ℕ, ◌<◌, None, IfSome, slice_index_or}
use Rattle.qc_close.specs.Model.{IsApart, pair_of, IsSettled}
use Rattle.qc_starts.proofs.KeptLemmas.{IsSettledPair}
use Rattle.qc_search.proofs.choice.next_apart.Given as goal

abbrev pub invariant-loop-number : goal.invariant-loop-number
invariant-loop-number l = record {
  is_open :
      IfSome l.next (λ found. IsApart l.starts.inst found.pair.first found.pair.second
      × (¬ IsSettled l.starts.inst l.starts.decisions found.pair.first found.pair.second));
  none : l.next ≡ None → (k : ℕ) → k < l.number
      → IsSettledPair l.starts.inst l.starts.decisions (slice_index_or l.starts.inst.apart k (pair_of 0 0));
}
