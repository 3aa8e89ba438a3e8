-- public: nodes of a search: lists of decisions, and what they ask of every schedule of the instance's turn
-- that agrees with them.
use Rattle.std.specs.Prelude.{◌≡◌, ◌≢◌, ℕ, ◌+◌, ◌-◌, ◌*◌, ◌/◌, ◌<◌, ◌≤◌, ◌⊎◌, max, min, Bool, true, false, IsTrue, IsFalse, ◌&&◌, ◌||◌, ◌==◌, nat_lt, int_le, int_lt, if◌then◌else◌, List, [], ◌∷◌, map, filter, length, slice_index, Option, None, Some, IsSome, is_some, unwrap_or}
use Rattle.std.specs.List.{list_any, range_with_len}
use Rattle.qc_model.specs.declared.decision.Decision.{Decision}
use Rattle.qc_model.specs.declared.decision.Decision.TheVariants.{Assign, Order}
use Rattle.qc_model.specs.declared.schedule.Slot.{Slot}
use Rattle.qc_model.specs.declared.turn.Turn.{Turn}
use Rattle.qc_model.specs.declared.turn.Turn.TheVariants.{OneWay, Free}
use Rattle.qc_model.specs.Instance.{InstanceView, bay_of, ticks_of, release_of, crane, IsApart}
use Rattle.qc_model.specs.Rules.{Feasible, crane_of, start_of, end_of, last_end}
use Rattle.qc_model.specs.Ticks.{arrival, berth_clear, berth_distance, task_distance, travel_between, climb, lead}

-- the crane of an assigned task
abbrev pub assigned : List Decision → ℕ → Option ℕ
assigned [] j = None
assigned (Assign i k ∷ ds) j = if i == j then Some k else assigned ds j
assigned (Order i k ∷ ds) j = assigned ds j

-- task i is decided to be done before task j
abbrev pub is_ordered : List Decision → ℕ → ℕ → Bool
is_ordered [] i j = false
is_ordered (Assign h k ∷ ds) i j = is_ordered ds i j
is_ordered (Order h k ∷ ds) i j = ((h == i) && (k == j)) || is_ordered ds i j

-- the ticks by which tasks i on crane v and j on crane w must be clear of each other, whichever is first: the travel
-- between them on one crane, the distance of the two on two
abbrev pub separation : InstanceView → ℕ → ℕ → ℕ → ℕ → ℕ
separation inst i v j w =
    if v == w then travel_between inst (bay_of inst i) (bay_of inst j) else task_distance inst i v j w

-- two tasks that can't run at the same time on their cranes, which go as they like: one crane has both, or the two
-- would come too near
pub record Clash (inst : InstanceView) (ds : List Decision) (i j : ℕ) : Type 0 where
  pub free : inst.turn ≡ Free
  pub first : i < length inst.tasks
  pub second : j < length inst.tasks
  pub differ : i ≢ j
  pub first_crane : ℕ
  pub second_crane : ℕ
  pub of_first : assigned ds i ≡ Some first_crane
  pub of_second : assigned ds j ≡ Some second_crane
  pub near : (first_crane ≡ second_crane) ⊎ (0 < task_distance inst i first_crane j second_crane)

-- the order of the two tasks can be decided: they are apart, or clash on their cranes
abbrev pub Conflicts : InstanceView → List Decision → ℕ → ℕ → Type 0
Conflicts inst ds i j = (IsApart inst i j ⊎ IsApart inst j i) ⊎ Clash inst ds i j

-- how many pairs of tasks may get an order
abbrev pub order_pairs_by : Turn → InstanceView → ℕ
order_pairs_by OneWay inst = length inst.apart
order_pairs_by Free inst = length inst.tasks * (length inst.tasks - 1) / 2

abbrev pub order_pairs : InstanceView → ℕ
order_pairs inst = order_pairs_by inst.turn inst

-- what a list of decisions keeps: its tasks and cranes are those of the instance, ordered pairs conflict, and no task is
-- assigned twice and no pair ordered twice
abbrev pub Fits : InstanceView → List Decision → Type 0
Fits inst [] = Unit {0}
Fits inst (Assign i k ∷ ds) =
    (i < length inst.tasks) × (k < length inst.cranes) × (assigned ds i ≡ None) × Fits inst ds
Fits inst (Order i j ∷ ds) =
    Conflicts inst ds i j × IsFalse (is_ordered ds i j) × IsFalse (is_ordered ds j i) × Fits inst ds

-- the schedule is as decided
abbrev pub Agrees : InstanceView → List Decision → List Slot → Type 0
Agrees inst [] sched = Unit {0}
Agrees inst (Assign i k ∷ ds) sched = (crane_of sched i ≡ k) × Agrees inst ds sched
Agrees inst (Order i j ∷ ds) sched = (end_of inst sched i ≤ start_of sched j) × Agrees inst ds sched

-- the greater of two numbers that may be missing
abbrev pub greater : Option ℕ → Option ℕ → Option ℕ
greater None n = n
greater (Some m) None = Some m
greater (Some m) (Some n) = Some (max m n)

-- task i is before task j, whatever is decided
abbrev pub is_before : InstanceView → ℕ → ℕ → Bool
is_before inst i j = list_any (λ pair. (pair.first == i) && (pair.second == j)) inst.before

-- task i must end before task j starts
abbrev pub is_sooner : InstanceView → List Decision → ℕ → ℕ → Bool
is_sooner inst ds i j = is_before inst i j || is_ordered ds i j

abbrev pub sooner_ticks : InstanceView → List Decision → ℕ → ℕ → Option ℕ
sooner_ticks inst ds i j = if is_sooner inst ds i j then Some (ticks_of inst i) else None

-- what the cranes v of task i and w of task j ask for where cranes go one way: one crane climbs from i to j, and a lower
-- crane gives way to a higher one
abbrev pub upward_ticks : InstanceView → ℕ → ℕ → ℕ → ℕ → Option ℕ
upward_ticks inst i v j w =
    if v == w
    then (if int_lt (bay_of inst i) (bay_of inst j) then Some (climb inst i j) else None)
    else (if nat_lt w v && nat_lt 0 (task_distance inst i v j w) then Some (lead inst i v j w) else None)

-- and what they ask for where cranes go as they like: where i is sooner than j, time to give way
abbrev pub clear_ticks : InstanceView → Bool → ℕ → ℕ → ℕ → ℕ → Option ℕ
clear_ticks inst sooner i v j w = if sooner then Some (ticks_of inst i + separation inst i v j w) else None

abbrev pub pair_ticks : Turn → InstanceView → Bool → ℕ → ℕ → ℕ → ℕ → Option ℕ
pair_ticks OneWay inst sooner i v j w = upward_ticks inst i v j w
pair_ticks Free inst sooner i v j w = clear_ticks inst sooner i v j w

-- what the cranes of two tasks ask for by the turn of the instance; nothing while one has none
abbrev pub crane_ticks : InstanceView → Bool → ℕ → ℕ → Option ℕ → Option ℕ → Option ℕ
crane_ticks inst sooner i j (Some v) (Some w) = pair_ticks inst.turn inst sooner i v j w
crane_ticks inst sooner i j _ _ = None

-- the ticks by which task j must start after the start of task i; none where nothing is forced
abbrev pub forced : InstanceView → List Decision → ℕ → ℕ → Option ℕ
forced inst ds i j =
    greater (sooner_ticks inst ds i j) (crane_ticks inst (is_sooner inst ds i j) i j (assigned ds i) (assigned ds j))

-- one of the two tasks is forced to start after the other
abbrev pub is_settled : InstanceView → List Decision → ℕ → ℕ → Bool
is_settled inst ds i j = is_some (forced inst ds i j) || is_some (forced inst ds j i)

abbrev pub IsSettled : InstanceView → List Decision → ℕ → ℕ → Type 0
IsSettled inst ds i j = IsTrue (is_settled inst ds i j)

-- the greatest of these numbers, and 0 where there is none
abbrev pub greatest : List ℕ → ℕ
greatest [] = 0
greatest (n ∷ ns) = max n (greatest ns)

-- the least of these numbers, and 0 where there is none
abbrev pub least : List ℕ → ℕ
least [] = 0
least (n ∷ []) = n
least (n ∷ m ∷ ns) = min n (least (m ∷ ns))

-- when the bay of task j is clear of the berth of crane v for crane k; 0 where it always is
abbrev pub berth_wait : InstanceView → ℕ → ℕ → ℕ → ℕ
berth_wait inst j k v =
    if berth_distance inst v k (bay_of inst j) == 0 then 0 else berth_clear inst v k (bay_of inst j)

-- when crane k can first begin task j: the task is held back no longer, and the crane is there with all berths clear
abbrev pub free : InstanceView → ℕ → ℕ → ℕ
free inst j k =
    max (max (release_of inst j) (arrival inst k (bay_of inst j)))
    (greatest (map (berth_wait inst j k) (range_with_len 0 (length inst.cranes))))

-- task j lies within the reach of crane k
abbrev pub reaches : InstanceView → ℕ → ℕ → Bool
reaches inst j k = int_le (crane inst k).from (bay_of inst j) && int_le (bay_of inst j) (crane inst k).to

-- when a task can start at the least: with its crane, or with the earliest crane that reaches it
abbrev pub head_by : InstanceView → ℕ → Option ℕ → ℕ
head_by inst j (Some k) = free inst j k
head_by inst j None = least (map (free inst j) (filter (reaches inst j) (range_with_len 0 (length inst.cranes))))

abbrev pub head : InstanceView → List Decision → ℕ → ℕ
head inst ds j = head_by inst j (assigned ds j)

-- each assigned task lies within the reach of its crane
abbrev pub is_in_reach : InstanceView → List Decision → Bool
is_in_reach inst [] = true
is_in_reach inst (Assign j k ∷ ds) = reaches inst j k && is_in_reach inst ds
is_in_reach inst (Order i j ∷ ds) = is_in_reach inst ds

abbrev pub IsInReach : InstanceView → List Decision → Type 0
IsInReach inst ds = IsTrue (is_in_reach inst ds)

-- the starts keep all that is forced, and no task starts before its head
pub record Meets (inst : InstanceView) (ds : List Decision) (starts : List ℕ) : Type 0 where
  pub all_tasks : length starts ≡ length inst.tasks
  pub heads : (j : ℕ) → j < length inst.tasks → head inst ds j ≤ slice_index starts j
  pub steps :
      (i j ticks : ℕ) → i < length inst.tasks → j < length inst.tasks → forced inst ds i j ≡ Some ticks
      → slice_index starts i + ticks ≤ slice_index starts j

-- the starts that meet the node and are, task by task, at most all others that do
pub record AreLeast (inst : InstanceView) (ds : List Decision) (starts : List ℕ) : Type 0 where
  pub meets : Meets inst ds starts
  pub least :
      (others : List ℕ) → Meets inst ds others
      → (j : ℕ) → j < length inst.tasks → slice_index starts j ≤ slice_index others j

-- the end of the least starts of a node
pub record IsNodeEnd (inst : InstanceView) (ds : List Decision) (end : ℕ) : Type 0 where
  pub starts : List ℕ
  pub least : AreLeast inst ds starts
  pub ends : end ≡ last_end inst.tasks starts

-- some starts meet the node
pub record HasStarts (inst : InstanceView) (ds : List Decision) : Type 0 where
  pub starts : List ℕ
  pub meets : Meets inst ds starts

-- the schedule of a complete node with these starts
abbrev pub slot_with : List Decision → List ℕ → ℕ → Slot
slot_with ds starts j = record { crane = unwrap_or (assigned ds j) 0; start = slice_index starts j }

abbrev pub schedule_with : InstanceView → List Decision → List ℕ → List Slot
schedule_with inst ds starts = map (slot_with ds starts) (range_with_len 0 (length inst.tasks))

-- the least starts of the node, with the cranes that its tasks have, are a feasible schedule
pub record IsLeastFeasible (inst : InstanceView) (ds : List Decision) : Type 0 where
  pub starts : List ℕ
  pub least : AreLeast inst ds starts
  pub feasible : Feasible inst (schedule_with inst ds starts)

-- nothing is left to decide: every task is assigned, and where cranes go one way every apart pair is settled; where they
-- go as they like, the least starts are a schedule, whatever pairs are still open
pub record IsComplete (inst : InstanceView) (ds : List Decision) : Type 0 where
  pub tasks : (j : ℕ) → j < length inst.tasks → IsSome (assigned ds j)
  pub pairs : inst.turn ≡ OneWay → (i j : ℕ) → IsApart inst i j → IsSettled inst ds i j
  pub least : inst.turn ≡ Free → IsLeastFeasible inst ds
