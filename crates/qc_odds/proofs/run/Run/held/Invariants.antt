use Rattle.std.proofs.Common.{◌≡◌, ◌*◌, ◌≤◌, sum_by}
use Rattle.std.specs.List.{range_with_len}
use Rattle.qc_odds.specs.Moments.{most_moment}
use Rattle.qc_odds.specs.Runs.{held_at}
use Rattle.qc_odds.proofs.run.Run.held.Given as goal

abbrev pub invariant-loop-j : goal.invariant-loop-j
invariant-loop-j l = record {
  so_far : l.ticks ≡ sum_by (held_at l.self.inst l.self.plan l.self.lengths l.self.starts l.crane) (range_with_len 0 l.j);
  bound : l.ticks ≤ l.j * most_moment;
}
