-- public: the instance of the rest, made of what is left.
use Rattle.std.specs.Prelude.{ℕ, ◌-◌, max, Bool, ◌&&◌, ◌||◌, ℤ, if◌then◌else◌, List, length, map, filter}
use Rattle.std.specs.List.{range_with_len}
use Rattle.qc_dispatch.specs.Course.{Course, is_running, is_waiting, stage_of}
use Rattle.qc_model.specs.declared.crane.Crane.{Crane}
use Rattle.qc_model.specs.declared.pair.Pair.{Pair}
use Rattle.qc_model.specs.declared.task.Task.{Task}
use Rattle.qc_model.specs.Instance.{InstanceView, crane, is_apart, pair_of, release_of, task}
use Rattle.qc_model.specs.Nodes.{greatest, is_before}
use Rattle.qc_rest.specs.declared.stand.Stand.{Stand}
use Rattle.qc_rest.specs.Progress.{number_of}
use Rattle.qc_rest.specs.Stands.{stand_of}

-- the tasks that are left, in their order
abbrev pub left_tasks : Course → List ℕ
left_tasks c = filter (λ j. is_waiting (stage_of c j)) (range_with_len 0 (length c.inst.tasks))

-- task i runs, and task j may not start before its end
abbrev pub holds_back : Course → ℕ → ℕ → Bool
holds_back c i j = is_running (stage_of c i) && (is_before c.inst i j || (is_apart c.inst i j || is_apart c.inst j i))

-- for how long task i holds task j back, from now on
abbrev pub held_by : Course → (ℕ → ℕ) → ℕ → ℕ → ℕ
held_by c over j i = if holds_back c i j then over i - c.clock else 0

-- the release of task j counted from now, and no earlier than the end of what holds it back
abbrev pub release_in : Course → (ℕ → ℕ) → ℕ → ℕ
release_in c over j =
    max (release_of c.inst j - c.clock) (greatest (map (held_by c over j) (range_with_len 0 (length c.inst.tasks))))

abbrev pub task_in : Course → (ℕ → ℕ) → ℕ → Task
task_in c over j = record (task c.inst j) { release = release_in c over j }

-- a crane at its place, ready when it is done where it stands
abbrev pub crane_in : Course → List Stand → (ℕ → ℤ) → ℕ → Crane
crane_in c stands places k = record (crane c.inst k) { bay = places k; ready = (stand_of stands k).until - c.clock }

-- both tasks of a pair are left
abbrev pub are_left : Course → Pair → Bool
are_left c pair = is_waiting (stage_of c pair.first) && is_waiting (stage_of c pair.second)

-- the same pair by the numbers that its tasks have among those that are left
abbrev pub renumbered : Course → Pair → Pair
renumbered c pair = pair_of (number_of c pair.first) (number_of c pair.second)

-- the pairs of which both tasks are left
abbrev pub pairs_in : Course → List Pair → List Pair
pairs_in c pairs = map (renumbered c) (filter (are_left c) pairs)

-- what is left of the work as an instance of its own, which begins now
abbrev pub rest_of : Course → (ℕ → ℕ) → List Stand → (ℕ → ℤ) → InstanceView
rest_of c over stands places = record c.inst {
  tasks = map (task_in c over) (left_tasks c);
  cranes = map (crane_in c stands places) (range_with_len 0 (length c.inst.cranes));
  before = pairs_in c c.inst.before;
  apart = pairs_in c c.inst.apart;
}
