use Rattle.std.proofs.Common.{◌≡◌, ◌-◌, ◌*◌, ◌≤◌, filter}
use Rattle.std.specs.List.{range_with_len}
use Rattle.qc_model.specs.declared.limits.TheConstants.{MOST_WORK}
use Rattle.qc_close.specs.Bars.{bars_of, row_at}
use Rattle.qc_close.proofs.bars.bars_at.Given as goal

abbrev pub invariant-loop-done : goal.invariant-loop-done
invariant-loop-done l = record {
  bars : l.bars ≡ bars_of l.inst l.cranes (filter (row_at l.cranes l.spots l.row l.spot) (range_with_len (l.behind - l.done) l.done));
  small : l.bars.ticks ≤ l.done * MOST_WORK;
}
