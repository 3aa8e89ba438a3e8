-- public: how many containers have each class.
use Rattle.std.specs.Prelude.{ℕ, Bool, true, false, not, List, ◌++◌, filter, Option, None, Some, is_some}
use Rattle.std.specs.List.{count_by}
use Rattle.qc_bayplan.specs.declared.plan.Container.{Container}
use Rattle.qc_changes.specs.declared.class.Class.{Class}
use Rattle.qc_changes.specs.declared.class.Class.TheVariants as class
use Rattle.qc_changes.specs.declared.counts.Counts.{Counts}
use Rattle.qc_changes.specs.Classes.{class_of, stands}

-- a plan hasn't a container at all
abbrev pub is_gone : List Container → Container → Bool
is_gone plan c = not (is_some (stands plan c.id))

-- the containers that either plan has, each once
abbrev pub either : (first second : List Container) → List Container
either first second = first ++ filter (is_gone first) second

abbrev pub same_class : Class → Class → Bool
same_class class.Discharged class.Discharged = true
same_class class.Loaded class.Loaded = true
same_class class.Restowed class.Restowed = true
same_class class.Lifted class.Lifted = true
same_class class.Staying class.Staying = true
same_class a b = false

abbrev pub is_class : Class → Option Class → Bool
is_class k None = false
is_class k (Some other) = same_class k other

-- how many of them have a class
abbrev pub count_of : (first second lifted : List Container) → Class → ℕ
count_of first second lifted k =
    count_by (λ c. is_class k (class_of first second lifted c.id)) (either first second)

-- how many are counted
abbrev pub count_in : Class → Counts → ℕ
count_in class.Discharged counts = counts.discharged
count_in class.Loaded counts = counts.loaded
count_in class.Restowed counts = counts.restowed
count_in class.Lifted counts = counts.lifted
count_in class.Staying counts = counts.staying
