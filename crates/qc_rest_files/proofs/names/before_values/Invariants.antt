use Rattle.std.proofs.Common.{◌≡◌, map, take}
use Rattle.std.specs.List.{filter}
use Rattle.toml.specs.View.{view}
use Rattle.qc_rest_files.specs.RestShip.{are_named}
use Rattle.qc_rest_files.specs.ShipTable.{before_value}
use Rattle.qc_rest_files.proofs.names.before_values.Given as goal

abbrev pub invariant-loop-pair : goal.invariant-loop-pair
invariant-loop-pair l = map view l.values.items ≡ map before_value (filter (are_named l.tasks) (take l.pair-index l.pairs))
