use Rattle.std.proofs.Common.{◌≡◌, [], map, drop, vec_len}
use Rattle.toml.specs.View.{view}
use Rattle.qc_num.specs.Reading.{each}
use Rattle.qc_ship.specs.ShipFile.{hatch_in}
use Rattle.qc_ship.proofs.hatches.read_hatches.Given as goal

abbrev pub invariant-loop-value : goal.invariant-loop-value
invariant-loop-value l = record {
  count : vec_len l.hatches ≡ l.value-index;
  rest : each hatch_in [] (map view l.values) ≡ each hatch_in l.hatches.items (map view (drop l.value-index l.values));
}
