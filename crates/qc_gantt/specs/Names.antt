-- public: tasks and cranes by their names.
use Rattle.std.specs.Prelude.{◌≡◌, ℕ, List, map, Option, position}
use Rattle.std.specs.Borrow.{Bor}
use Rattle.std.specs.Str.{bytes_eq}
use Rattle.indexmap.specs.IndexMap.{IndexMap, get_by}
use Rattle.qc_model.specs.Instance.{InstanceView}
use Rattle.qc_model.specs.Tasks.{task_text}

abbrev pub task_names : InstanceView → List (List ℕ)
task_names inst = map task_text inst.tasks

abbrev pub crane_names : InstanceView → List (List ℕ)
crane_names inst = map (λ c. c.name) inst.cranes

-- the number of a name among these, counted from 0
abbrev pub number_of : List (List ℕ) → List ℕ → Option ℕ
number_of names name = position (bytes_eq name) names

-- the map finds the number of each of these names, and of no other
abbrev pub Finds : {S : Type 0} → IndexMap (Bor (List ℕ)) ℕ S → List (List ℕ) → Type 0
Finds numbers names = (name : List ℕ) → get_by (λ key. bytes_eq name key.now) numbers ≡ number_of names name
