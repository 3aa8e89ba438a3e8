use Rattle.std.proofs.Common.{◌≡◌, ℕ, ◌-◌, ◌*◌, ◌^◌, ◌<◌, ◌≤◌, get_or}
use Rattle.qc_model.specs.Closed.{bays_to}
use Rattle.qc_close.proofs.SumLemmas.{AreLast}
use Rattle.qc_close.proofs.sums.most_legs.Given as goal

abbrev pub invariant-loop-done : goal.invariant-loop-done
invariant-loop-done l = record {
  sums : AreLast (λ f. bays_to l.way f l.to - bays_to l.way f l.from) l.frames l.done l.sums;
  rest : (n : ℕ) → l.done < n → get_or l.sums n 0 ≡ 0;
  small : (n : ℕ) → n ≤ 8 → get_or l.sums n 0 ≤ l.done * 2 ^ 18;
}
