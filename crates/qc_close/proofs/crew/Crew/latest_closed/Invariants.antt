use Rattle.std.proofs.Common.{◌≡◌, ◌+◌, ◌-◌, ◌*◌, ◌<◌, ◌≤◌, true, false}
use Rattle.qc_close.specs.Model.{MOST_START, is_closed}
use Rattle.qc_close.proofs.crew.Crew.latest_closed.Given as goal

abbrev pub invariant-halving : goal.invariant-halving
invariant-halving l = record {
  order : l.low < l.high;
  soon : l.high ≤ 2 * MOST_START + 1;
  passes : 0 < l.low → is_closed l.self.inst l.self.turn l.self.cranes l.low ≡ true;
  fails : is_closed l.self.inst l.self.turn l.self.cranes l.high ≡ false;
}

abbrev pub decreases-halving : goal.decreases-halving
decreases-halving l = l.high - l.low
