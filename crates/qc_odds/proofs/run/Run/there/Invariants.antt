use Rattle.std.proofs.Common.{◌≡◌, max, map}
use Rattle.std.specs.List.{range_with_len}
use Rattle.qc_model.specs.Instance.{bay_of}
use Rattle.qc_model.specs.Nodes.{greatest}
use Rattle.qc_model.specs.Rules.{crane_of}
use Rattle.qc_model.specs.Ticks.{arrival}
use Rattle.qc_odds.specs.Runs.{there_from}
use Rattle.qc_odds.proofs.run.Run.there.Given as goal

abbrev pub invariant-loop-i : goal.invariant-loop-i
invariant-loop-i l =
    l.tick ≡ max (arrival l.self.inst (crane_of l.self.plan l.j) (bay_of l.self.inst l.j))
    (greatest (map (there_from l.self.inst l.self.plan l.self.lengths l.self.starts l.j) (range_with_len 0 l.i)))
