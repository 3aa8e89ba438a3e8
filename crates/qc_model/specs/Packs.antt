-- public: packed tasks: tasks of which no two can run together, whichever cranes do them, and the ticks that they
-- need from the start of the first to the end of the last.
use Rattle.std.specs.Prelude.{ℕ, ◌+◌, ◌*◌, ◌≤◌, ℤ, Contains, Bool, true, not, ◌&&◌, ◌||◌, ◌==◌, nat_lt, int_le, if◌then◌else◌, List, [], ◌∷◌, map, filter, length, Option, None, Some}
use Rattle.std.specs.List.{flat_map, list_all, list_any}
use Rattle.qc_model.specs.declared.schedule.Slot.{Slot}
use Rattle.qc_model.specs.Bays.{bays_up}
use Rattle.qc_model.specs.Instance.{InstanceView}
use Rattle.qc_model.specs.Work.{ticks_over}
use Rattle.qc_model.specs.Nodes.{least}
use Rattle.qc_model.specs.Rules.{Feasible, ends, start_of}
use Rattle.qc_model.specs.Ticks.{task_distance}
use Rattle.qc_model.specs.Assignments.{Follows, cranes_for, place}

-- whichever cranes do tasks i and j, it is one crane, or the two come too near
abbrev pub clash : InstanceView → List (Option ℕ) → ℕ → ℕ → Bool
clash inst cranes i j =
    list_all (λ v. list_all (λ w. (v == w) || nat_lt 0 (task_distance inst i v j w)) (cranes_for inst cranes j))
    (cranes_for inst cranes i)

-- each of these tasks is another than those behind it
abbrev pub all_differ : List ℕ → Bool
all_differ [] = true
all_differ (i ∷ is) = list_all (λ j. not (i == j)) is && all_differ is

-- each of these tasks clashes with those behind it
abbrev pub all_clash : InstanceView → List (Option ℕ) → List ℕ → Bool
all_clash inst cranes [] = true
all_clash inst cranes (i ∷ is) = list_all (clash inst cranes i) is && all_clash inst cranes is

-- j is a task of the instance, and some crane may do it
abbrev pub is_doable : InstanceView → List (Option ℕ) → ℕ → Bool
is_doable inst cranes j = nat_lt j (length inst.tasks) && nat_lt 0 (length (cranes_for inst cranes j))

-- at least one task, each of which some crane may do, all different, and every two of them clash
abbrev pub is_packed : InstanceView → List (Option ℕ) → List ℕ → Bool
is_packed inst cranes tasks =
    nat_lt 0 (length tasks) && list_all (is_doable inst cranes) tasks && all_differ tasks
    && all_clash inst cranes tasks

-- where these tasks lie, for each crane that may do them
abbrev pub places : InstanceView → List (Option ℕ) → List ℕ → List ℤ
places inst cranes tasks = flat_map (λ j. map (place inst j) (cranes_for inst cranes j)) tasks

-- task j may lie from low to high
abbrev pub may_lie : InstanceView → List (Option ℕ) → ℤ → ℤ → ℕ → Bool
may_lie inst cranes low high j =
    list_any (λ v. int_le low (place inst j v) && int_le (place inst j v) high) (cranes_for inst cranes j)

-- the bays from one of these places to another, for all two between which each of the tasks may lie
abbrev pub stretches : InstanceView → List (Option ℕ) → List ℕ → List ℕ
stretches inst cranes tasks =
    flat_map (λ low. map (λ high. bays_up low high)
    (filter (λ high. list_all (may_lie inst cranes low high) tasks) (places inst cranes tasks)))
    (places inst cranes tasks)

-- the fewest bays among which each of the tasks may lie: so far the cranes that do them must go at the least
abbrev pub span : InstanceView → List (Option ℕ) → List ℕ → ℕ
span inst cranes tasks = least (stretches inst cranes tasks)

-- the ticks that packed tasks need: their own, and the travel over their span; none where they aren't packed
abbrev pub pack : InstanceView → List (Option ℕ) → List ℕ → Option ℕ
pack inst cranes tasks =
    if is_packed inst cranes tasks
    then Some (ticks_over inst tasks + inst.travel * span inst cranes tasks)
    else None

-- no feasible schedule that follows the assignment, and in which each of these tasks starts no earlier than these ticks,
-- ends before so many ticks after the least of them
abbrev pub IsPackBound : InstanceView → List (Option ℕ) → List ℕ → ℕ → Type 0
IsPackBound inst cranes tasks ticks =
    (sched : List Slot) → Feasible inst sched → Follows inst cranes sched
    → (early : ℕ → ℕ) → ((j : ℕ) → Contains tasks j → early j ≤ start_of sched j)
    → least (map early tasks) + ticks ≤ ends inst sched
