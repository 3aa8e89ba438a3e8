use Rattle.std.proofs.Common.{◌≡◌, ◌<◌, ℕ, None, true, length, get_or}
use Rattle.qc_model.specs.Assignments.{place}
use Rattle.qc_close.specs.Bands.{IsFinding, IsFoundFrom, may}
use Rattle.qc_close.proofs.crew.Crew.span.Given as goal

abbrev pub invariant-loop-index : goal.invariant-loop-index
invariant-loop-index l = record {
  finding : IsFinding l.self.inst l.self.cranes l.tasks None l.least;
  found : (i v : ℕ) → i < l.index → v < length l.self.inst.cranes
      → may l.self.inst l.self.cranes (get_or l.tasks i 0) v ≡ true
      → IsFoundFrom l.self.inst l.self.cranes l.tasks l.least (place l.self.inst (get_or l.tasks i 0) v);
}
