-- public: instances that have what is left of the work.
use Rattle.std.specs.Prelude.{◌≡◌, ℕ, ◌+◌, ◌-◌, ◌<◌, ◌≤◌, ◌⊎◌, ℤ, List, length}
use Rattle.qc_dispatch.specs.declared.stage.Stage.TheVariants.{Running}
use Rattle.qc_dispatch.specs.Course.{Course, left, stage_of}
use Rattle.qc_dispatch.specs.Order.{ArePaired}
use Rattle.qc_model.specs.declared.crane.Crane.{Crane}
use Rattle.qc_model.specs.declared.task.Task.{Task}
use Rattle.qc_model.specs.Instance.{InstanceView, IsApart, IsBefore, crane, release_of, task}
use Rattle.qc_rest.specs.declared.stand.Stand.{Stand}
use Rattle.qc_rest.specs.Progress.{IsLeft, number_of}
use Rattle.qc_rest.specs.Stands.{CanBeAt, IsStand, stand_of}

-- task i runs, and task j may not start before its end
pub record HoldsBack (c : Course) (i j : ℕ) : Type 0 where
  pub task : i < length c.inst.tasks
  pub start : ℕ
  pub runs : stage_of c i ≡ Running start
  pub first : IsBefore c.inst i j ⊎ ArePaired c.inst i j

-- task j as it is left: it may not start before its release, nor before the end of what holds it back, counted from now
pub record IsTaskLeft (c : Course) (over : ℕ → ℕ) (j : ℕ) (rest : Task) : Type 0 where
  pub same : rest ≡ record (task c.inst j) { release = rest.release }
  pub released : release_of c.inst j ≤ c.clock + rest.release
  pub held : (i : ℕ) → HoldsBack c i j → over i ≤ c.clock + rest.release

-- crane k as it is now: at a place where it can be, and ready no sooner than it is done where it stands
pub record IsCraneNow (c : Course) (over : ℕ → ℕ) (k : ℕ) (stand : Stand) (rest : Crane) : Type 0 where
  pub from : rest.from ≡ (crane c.inst k).from
  pub to : rest.to ≡ (crane c.inst k).to
  pub stands : IsStand c over k stand
  pub place : CanBeAt c.inst c.clock stand rest.bay
  pub ready : stand.until ≤ c.clock + rest.ready

-- the instance has what is left, and asks no less of it than the whole did. A later ready time, a greater release and a
-- further pair only ask for more, so an instance that was changed by hand in this way is one too
pub record IsRest (c : Course) (over : ℕ → ℕ) (stands : List Stand) (rest : InstanceView) : Type 0 where
  pub travel : rest.travel ≡ c.inst.travel
  pub gap : rest.gap ≡ c.inst.gap
  pub tasks_count : length rest.tasks ≡ left c
  pub cranes_count : length rest.cranes ≡ length c.inst.cranes
  pub tasks : (j : ℕ) → IsLeft c j → IsTaskLeft c over j (task rest (number_of c j))
  pub cranes : (k : ℕ) → k < length c.inst.cranes → IsCraneNow c over k (stand_of stands k) (crane rest k)
  pub before : (i j : ℕ) → IsLeft c i → IsLeft c j → IsBefore c.inst i j
      → IsBefore rest (number_of c i) (number_of c j)
  pub apart : (i j : ℕ) → IsLeft c i → IsLeft c j → IsApart c.inst i j
      → IsApart rest (number_of c i) (number_of c j)

-- the same with nothing asked beyond that: the cranes at these places, ready as soon as they are done where they stand,
-- and no task held back longer than it must be
pub record IsExactRest (c : Course) (over : ℕ → ℕ) (stands : List Stand) (places : ℕ → ℤ) (rest : InstanceView) : Type 0 where
  pub is : IsRest c over stands rest
  pub releases : (j : ℕ) → IsLeft c j → (tick : ℕ) → release_of c.inst j ≤ c.clock + tick
      → ((i : ℕ) → HoldsBack c i j → over i ≤ c.clock + tick) → release_of rest (number_of c j) ≤ tick
  pub placed : (k : ℕ) → k < length c.inst.cranes → (crane rest k).bay ≡ places k
  pub ready : (k : ℕ) → k < length c.inst.cranes → (crane rest k).ready ≡ (stand_of stands k).until - c.clock
  pub only_before : (i j : ℕ) → IsLeft c i → IsLeft c j → IsBefore rest (number_of c i) (number_of c j) → IsBefore c.inst i j
  pub only_apart : (i j : ℕ) → IsLeft c i → IsLeft c j → IsApart rest (number_of c i) (number_of c j) → IsApart c.inst i j
