use Rattle.std.proofs.Common.{◌≡◌, ◌≤◌, map}
use Rattle.std.specs.List.{range_with_len}
use Rattle.qc_model.specs.Nodes.{greatest}
use Rattle.qc_odds.specs.Moments.{most_end}
use Rattle.qc_odds.specs.Runs.{end_on}
use Rattle.qc_odds.proofs.run.Run.crane_end.Given as goal

abbrev pub invariant-loop-j : goal.invariant-loop-j
invariant-loop-j l = record {
  so_far : l.last ≡ greatest (map (end_on l.self.plan l.self.lengths l.self.starts l.crane) (range_with_len 0 l.j));
  bound : l.last ≤ most_end;
}
