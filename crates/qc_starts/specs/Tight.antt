-- public: schedules whose tasks start as early as they can.
use Rattle.std.specs.Prelude.{◌≡◌, ℕ, ◌<◌, nat_le, nat_lt, Bool, ◌||◌, ◌==◌, if◌then◌else◌, List, ◌++◌, filter, length, map}
use Rattle.std.specs.List.{flat_map, range_with_len}
use Rattle.qc_model.specs.declared.decision.Decision.{Decision}
use Rattle.qc_model.specs.declared.decision.Decision.TheVariants.{Assign, Order}
use Rattle.qc_model.specs.declared.direction.Direction.{Direction}
use Rattle.qc_model.specs.declared.pair.Pair.{Pair}
use Rattle.qc_model.specs.declared.direction.Direction.TheVariants.{Up}
use Rattle.qc_model.specs.declared.schedule.Slot.{Slot}
use Rattle.qc_model.specs.declared.turn.Turn.{Turn}
use Rattle.qc_model.specs.declared.turn.Turn.TheVariants.{OneWay, Free}
use Rattle.qc_model.specs.Instance.{InstanceView, pair_of, is_apart}
use Rattle.qc_model.specs.Judge.{Goes, IsDirection}
use Rattle.qc_model.specs.Work.{task_numbers}
use Rattle.qc_model.specs.Nodes.{AreLeast}
use Rattle.qc_model.specs.Rules.{Feasible, crane_of, end_of, slot_distance, start_of, starts}
use Rattle.qc_model.specs.Seen.{seen, seen_schedule}

-- the two tasks conflict on their cranes: they are apart, or one crane has both, or the two would come too near
abbrev pub conflicts_in : InstanceView → List Slot → Pair → Bool
conflicts_in inst sched pair =
    is_apart inst pair.first pair.second
    || (crane_of sched pair.first == crane_of sched pair.second)
    || nat_lt 0 (slot_distance inst sched pair.first pair.second)

-- all pairs of tasks, the lower number first
abbrev pub task_pairs : InstanceView → List Pair
task_pairs inst = flat_map (λ j. map (λ i. pair_of i j) (range_with_len 0 j)) (task_numbers inst)

-- the pairs of which a schedule decides the order: where cranes go one way the apart ones, and else all that conflict
abbrev pub ordered_pairs : Turn → InstanceView → List Slot → List Pair
ordered_pairs OneWay inst sched = inst.apart
ordered_pairs Free inst sched = filter (conflicts_in inst sched) (task_pairs inst)

-- the two tasks of a pair in the order that the schedule has
abbrev pub order_in : InstanceView → List Slot → Pair → Decision
order_in inst sched pair =
    if nat_le (end_of inst sched pair.first) (start_of sched pair.second)
    then Order pair.first pair.second
    else Order pair.second pair.first

-- what a schedule decides: each task's crane, and the order of these pairs
abbrev pub decided_by : InstanceView → List Slot → List Decision
decided_by inst sched =
    map (λ j. Assign j (crane_of sched j)) (task_numbers inst)
    ++ map (order_in inst sched) (ordered_pairs inst.turn inst sched)

-- the schedule is one that cranes with this turn may follow, seen this way: in the direction in which it goes, or as it is
-- where cranes go as they like
abbrev pub IsAllowedSo : Turn → InstanceView → List Slot → Direction → Type 0
IsAllowedSo OneWay inst sched way = Goes inst sched way
IsAllowedSo Free inst sched way = Feasible inst sched × (way ≡ Up)

-- the way in which a schedule is seen: of one that goes both ways the upward one
abbrev pub IsSeenSo : Turn → InstanceView → List Slot → Direction → Type 0
IsSeenSo OneWay inst sched way = IsDirection inst sched way
IsSeenSo Free inst sched way = Feasible inst sched × (way ≡ Up)

-- the schedule is semi-active: cranes may follow it, and no task of it could start earlier with the same cranes, the same
-- order of pairs and the same way
pub record IsTight (inst : InstanceView) (sched : List Slot) : Type 0 where
  pub way : Direction
  pub goes : IsAllowedSo inst.turn inst sched way
  pub least :
      AreLeast (seen inst way) (decided_by (seen inst way) (seen_schedule inst sched way))
      (starts (seen_schedule inst sched way))

-- the schedule is the tight form of one that cranes may follow: it has the same cranes, and the least starts with what
-- that one decides as it is seen
pub record IsTightForm (inst : InstanceView) (given sched : List Slot) : Type 0 where
  pub way : Direction
  pub direction : IsSeenSo inst.turn inst given way
  pub cranes : (j : ℕ) → j < length inst.tasks → crane_of sched j ≡ crane_of given j
  pub least :
      AreLeast (seen inst way) (decided_by (seen inst way) (seen_schedule inst given way))
      (starts (seen_schedule inst sched way))
