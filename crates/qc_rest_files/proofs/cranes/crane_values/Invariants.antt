use Rattle.std.proofs.Common.{◌≡◌, ◌<◌, ℕ, map, take}
use Rattle.std.specs.Prelude.{IsTrue}
use Rattle.toml.specs.View.{view}
use Rattle.qc_model.specs.Instance.{crane}
use Rattle.qc_model.specs.Names.{is_name}
use Rattle.qc_rest_files.specs.ShipTable.{crane_value}
use Rattle.qc_rest_files.proofs.cranes.crane_values.Given as goal

-- the tables of the cranes so far, each with a name
abbrev pub invariant-loop-k : goal.invariant-loop-k
invariant-loop-k l =
    (map view l.values.items ≡ map (crane_value l.places) (take l.k l.inst.cranes))
    × ((i : ℕ) → i < l.k → IsTrue (is_name (crane l.inst i).name))
