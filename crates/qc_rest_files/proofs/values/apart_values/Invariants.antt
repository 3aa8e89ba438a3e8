use Rattle.std.proofs.Common.{◌≡◌, map, take}
use Rattle.toml.specs.View.{view}
use Rattle.qc_rest_files.specs.ShipTable.{apart_value}
use Rattle.qc_rest_files.proofs.values.apart_values.Given as goal

abbrev pub invariant-loop-pair : goal.invariant-loop-pair
invariant-loop-pair l = map view l.values.items ≡ map apart_value (take l.pair-index l.pairs)
