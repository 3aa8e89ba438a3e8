use Rattle.std.proofs.Common.{◌≡◌, ◌+◌, ◌-◌, drop, length}
use Rattle.qc_starts.proofs.starts.Starts.retract.Given as goal

abbrev pub invariant-loop : goal.invariant-loop
invariant-loop l = record {
  inst : l.self.inst ≡ l.fn.self.inst;
  count : length l.self.decisions + l.counter ≡ length l.fn.self.decisions + l.mark;
  dropped : l.self.decisions ≡ drop (l.counter - l.mark) l.fn.self.decisions;
}
