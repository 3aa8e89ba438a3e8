use Rattle.std.proofs.Common.{◌≡◌, ℕ, ◌+◌, ◌-◌, ◌<◌, ◌≤◌, true, false}
use Rattle.qc_model.specs.Closed.{is_short, last_before}
use Rattle.qc_close.specs.Tried.{tried}
use Rattle.qc_close.proofs.count.Count.last_short.Given as goal

abbrev pub invariant-halving : goal.invariant-halving
invariant-halving l = record {
  order : l.low < l.high;
  within : l.high ≤ l.limit + 1;
  passes : 0 < l.low → is_short (tried l.self (last_before l.self.step l.low)) ≡ true;
  others : (end : ℕ) → l.high ≤ end → end ≤ l.limit → is_short (tried l.self (last_before l.self.step end)) ≡ false;
}

abbrev pub decreases-halving : goal.decreases-halving
decreases-halving l = l.high - l.low
