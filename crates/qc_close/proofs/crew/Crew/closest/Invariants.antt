use Rattle.std.proofs.Common.{◌≡◌, ◌<◌, ℕ, true}
use Rattle.qc_model.specs.Assignments.{place}
use Rattle.qc_close.specs.Bands.{IsFinding, IsFoundFrom, may}
use Rattle.qc_close.proofs.crew.Crew.closest.Given as goal

abbrev pub invariant-loop-crane : goal.invariant-loop-crane
invariant-loop-crane l = record {
  finding : IsFinding l.self.inst l.self.cranes l.tasks l.fn.before l.least;
  found : (v : ℕ) → v < l.crane → may l.self.inst l.self.cranes l.task v ≡ true
      → IsFoundFrom l.self.inst l.self.cranes l.tasks l.least (place l.self.inst l.task v);
}
