use Rattle.std.proofs.Common.{◌≡◌, map, take}
use Rattle.std.specs.List.{filter}
use Rattle.toml.specs.View.{view}
use Rattle.qc_rest_files.specs.RestShip.{is_held}
use Rattle.qc_rest_files.proofs.ValueLemmas.{entry_value}
use Rattle.qc_rest_files.proofs.names.release_values.Given as goal

abbrev pub invariant-loop-j : goal.invariant-loop-j
invariant-loop-j l = map view l.values.items ≡ map entry_value (filter is_held (take l.j l.inst.tasks))
