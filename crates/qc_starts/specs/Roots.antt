-- inner: the task behind which a decision raises starts.
use Rattle.std.specs.Prelude.{ℕ}
use Rattle.qc_model.specs.declared.decision.Decision.{Decision}
use Rattle.qc_model.specs.declared.decision.Decision.TheVariants.{Assign, Order}

abbrev pub root_of : Decision → ℕ
root_of (Assign j k) = j
root_of (Order i j) = j
