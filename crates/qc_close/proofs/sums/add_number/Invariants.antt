use Rattle.std.proofs.Common.{◌≡◌, ℕ, ◌+◌, ◌-◌, ◌<◌, ◌≤◌, max, length, get_or}
use Rattle.qc_close.proofs.sums.add_number.Given as goal

abbrev pub invariant-loop-done : goal.invariant-loop-done
invariant-loop-done l = record {
  many : length l.sums ≡ 9;
  before : (k : ℕ) → k ≤ l.count + 1 - l.done → get_or l.sums k 0 ≡ get_or l.initial.sums k 0;
  behind : (k : ℕ) → k ≤ l.count → l.count + 1 - l.done ≤ k
      → get_or l.sums (k + 1) 0 ≡ max (l.number + get_or l.initial.sums k 0) (get_or l.initial.sums (k + 1) 0);
  others : (k : ℕ) → l.count + 1 < k → get_or l.sums k 0 ≡ get_or l.initial.sums k 0;
}
