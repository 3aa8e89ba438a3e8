use Rattle.std.proofs.Common.{◌≡◌, length}
use Rattle.qc_search.proofs.place.Node.leave.Given as goal

abbrev pub invariant-loop : goal.invariant-loop
invariant-loop l = l.self.inst ≡ l.fn.self.inst

abbrev pub decreases-loop : goal.decreases-loop
decreases-loop l = length l.self.decisions
