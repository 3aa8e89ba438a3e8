-- An instance that is put together from parts as they are read.
use Rattle.std.proofs.Common.{◌≡◌, ℕ, ◌≤◌, ℤ, pos, List, refl, ap, arith, to_z, of_z, w32}
use Rattle.std.proofs.lemmas.Int.{ints}
use Rattle.qc_model.specs.declared.crane.Crane.{Crane}
use Rattle.qc_model.specs.declared.pair.Pair.{Pair}
use Rattle.qc_model.specs.declared.task.Task.{Task}
use Rattle.qc_model.specs.Bays.{at_least_zero}
use Rattle.qc_model.specs.Instance.{InstanceView, with_turn}
use Rattle.qc_model.specs.declared.turn.Turn.TheVariants.{OneWay}

-- a count as the code reads it
read_count : (z : ℤ) (n : ℕ) → z ≡ pos n → n ≤ 6000 → at_least_zero (to_z w32 (of_z w32 z)) ≡ n
read_count z n e h =
    let same : to_z w32 (of_z w32 z) ≡ pos n = omega (arith, ints) in
    ap at_least_zero same

-- seven parts that are those of an instance are that instance, with cranes that go one way
pub parts_are : (like : InstanceView) (b g : ℤ) (travel : ℕ) (tasks : List Task) (cranes : List Crane) (before apart : List Pair)
    → b ≡ pos like.bays → like.bays ≤ 6000 → g ≡ pos like.gap → like.gap ≤ 6000
    → travel ≡ like.travel → tasks ≡ like.tasks → cranes ≡ like.cranes → before ≡ like.before → apart ≡ like.apart
    → ◌≡◌ {A = InstanceView} (record {
      bays = at_least_zero (to_z w32 (of_z w32 b));
      travel = travel;
      gap = at_least_zero (to_z w32 (of_z w32 g));
      tasks = tasks;
      cranes = cranes;
      before = before;
      apart = apart;
      turn = OneWay;
    }) (with_turn like OneWay)
parts_are like b g travel tasks cranes before apart bays_is few gap_is low travel_is tasks_is cranes_is before_is apart_is =
    rw (read_count b like.bays bays_is few, read_count g like.gap gap_is low, travel_is, tasks_is, cranes_is, before_is, apart_is) refl
