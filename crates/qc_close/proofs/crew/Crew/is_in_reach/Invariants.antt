use Rattle.std.proofs.Common.{◌≡◌, false}
use Rattle.std.specs.List.{list_any, range_with_len}
use Rattle.qc_model.specs.Nodes.{reaches}
use Rattle.qc_close.proofs.crew.Crew.is_in_reach.Given as goal

abbrev pub invariant-loop-crane : goal.invariant-loop-crane
invariant-loop-crane l = list_any (reaches l.self.inst l.task) (range_with_len 0 l.crane) ≡ false
