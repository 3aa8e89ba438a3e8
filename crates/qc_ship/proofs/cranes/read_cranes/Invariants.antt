use Rattle.std.proofs.Common.{◌≡◌, [], map, drop, vec_len}
use Rattle.toml.specs.View.{view}
use Rattle.qc_num.specs.Reading.{each}
use Rattle.qc_ship.specs.ShipFile.{crane_in}
use Rattle.qc_ship.proofs.cranes.read_cranes.Given as goal

abbrev pub invariant-loop-value : goal.invariant-loop-value
invariant-loop-value l = record {
  count : vec_len l.cranes ≡ l.value-index;
  rest : each (crane_in l.in_decimetres l.gap l.places) [] (map view l.values) ≡ each (crane_in l.in_decimetres l.gap l.places) l.cranes.items (map view (drop l.value-index l.values));
}
