use Rattle.std.proofs.Common.{◌≡◌, ◌+◌, ◌-◌}
use Rattle.qc_close.specs.Bars.{AreSums, From, sum_from}
use Rattle.qc_close.proofs.bars.sum_up_to.Given as goal

abbrev pub invariant-loop-done : goal.invariant-loop-done
invariant-loop-done l = record {
  sums : AreSums (From l.row (l.spot + 1 - l.done)) (λ r k. sum_from l.grid r k (l.count - k)) l.count l.from;
  sum : l.sum ≡ sum_from l.grid l.row (l.spot + 1 - l.done) (l.count - (l.spot + 1 - l.done));
}
