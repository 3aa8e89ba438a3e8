use Rattle.std.proofs.Common.{◌≤◌, length}
use Rattle.qc_rest.specs.Limits.{AreTops, view_of}
use Rattle.qc_rest.proofs.places.Outlook.tops.Given as goal

abbrev pub invariant-loop-k : goal.invariant-loop-k
invariant-loop-k l = record {
  are : AreTops (view_of l.self) l.k l.tops;
  within : l.k ≤ length l.self.journal.now.dispatch.inst.cranes;
}

abbrev pub decreases-loop-k : goal.decreases-loop-k
decreases-loop-k l = l.k
