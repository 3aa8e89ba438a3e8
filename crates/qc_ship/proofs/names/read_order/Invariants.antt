use Rattle.std.proofs.Common.{◌≡◌, [], map, drop, vec_len}
use Rattle.toml.specs.View.{view}
use Rattle.qc_num.specs.Reading.{each}
use Rattle.qc_ship.specs.ShipFile.{names_in}
use Rattle.qc_ship.proofs.names.read_order.Given as goal

abbrev pub invariant-loop-value : goal.invariant-loop-value
invariant-loop-value l = record {
  count : vec_len l.pairs ≡ l.value-index;
  rest : each (names_in l.hatches) [] (map view l.values) ≡ each (names_in l.hatches) l.pairs.items (map view (drop l.value-index l.values));
}
