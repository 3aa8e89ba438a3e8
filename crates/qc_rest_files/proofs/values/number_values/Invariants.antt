use Rattle.std.proofs.Common.{◌≡◌, map, take}
use Rattle.toml.specs.View.{view}
use Rattle.qc_rest_files.specs.ShipTable.{number}
use Rattle.qc_rest_files.proofs.values.number_values.Given as goal

abbrev pub invariant-loop-n : goal.invariant-loop-n
invariant-loop-n l = map view l.values.items ≡ map number (take l.n-index l.numbers)
