use Rattle.std.proofs.Common.{◌≡◌, [], map, drop, vec_len}
use Rattle.toml.specs.View.{view}
use Rattle.qc_num.specs.Reading.{each}
use Rattle.qc_ship.specs.ShipFile.{release_in}
use Rattle.qc_ship.proofs.releases.read_releases.Given as goal

abbrev pub invariant-loop-value : goal.invariant-loop-value
invariant-loop-value l = record {
  count : vec_len l.entries ≡ l.value-index;
  rest : each (release_in l.hatches) [] (map view l.values) ≡ each (release_in l.hatches) l.entries.items (map view (drop l.value-index l.values));
}
