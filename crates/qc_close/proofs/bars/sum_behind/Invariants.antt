use Rattle.std.proofs.Common.{◌≡◌}
use Rattle.qc_close.specs.Bars.{AreSums, UpTo, sum_before}
use Rattle.qc_close.proofs.bars.sum_behind.Given as goal

abbrev pub invariant-loop-k : goal.invariant-loop-k
invariant-loop-k l = record {
  sums : AreSums (UpTo l.row l.k) (sum_before l.grid) l.count l.before;
  sum : l.sum ≡ sum_before l.grid l.row l.k;
}
