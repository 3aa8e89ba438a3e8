use Rattle.std.proofs.Common.{◌≡◌, map}
use Rattle.toml.specs.View.{view}
use Rattle.qc_make.specs.MadeTable.{crane_values}
use Rattle.qc_make.proofs.ship.crane_values.Given as goal

abbrev pub invariant-loop-k : goal.invariant-loop-k
invariant-loop-k l = map view l.values.items ≡ crane_values l.k
