-- public: the tasks and cranes of an instance by their numbers, and what tasks come to: their ticks, and the bays between
-- which they lie.
use Rattle.std.specs.Prelude.{ℕ, ℤ, List, [], ◌∷◌, length, sum_by}
use Rattle.std.specs.Int.{int_min, int_max}
use Rattle.std.specs.List.{range_with_len}
use Rattle.qc_model.specs.Instance.{InstanceView, bay_of, ticks_of}

-- the tasks of the instance, by their numbers
abbrev pub task_numbers : InstanceView → List ℕ
task_numbers inst = range_with_len 0 (length inst.tasks)

abbrev pub crane_numbers : InstanceView → List ℕ
crane_numbers inst = range_with_len 0 (length inst.cranes)

-- the ticks of these tasks together
abbrev pub ticks_over : InstanceView → List ℕ → ℕ
ticks_over inst tasks = sum_by (ticks_of inst) tasks

-- the bay of the first of these tasks along the rail, and that of the last
abbrev pub lowest : InstanceView → ℕ → List ℕ → ℤ
lowest inst j [] = bay_of inst j
lowest inst j (i ∷ is) = int_min (bay_of inst j) (lowest inst i is)

abbrev pub highest : InstanceView → ℕ → List ℕ → ℤ
highest inst j [] = bay_of inst j
highest inst j (i ∷ is) = int_max (bay_of inst j) (highest inst i is)
