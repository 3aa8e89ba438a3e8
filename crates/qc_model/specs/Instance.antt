-- public: instances, and what every one keeps.
use Rattle.std.specs.Prelude.{◌≡◌, ◌≢◌, ℕ, ◌+◌, ◌<◌, ◌≤◌, ℤ, pos, negsuc, ◌+ℤ◌, ◌-ℤ◌, ◌≤ℤ◌, ◌⊎◌, ◌↔◌, Bool, IsTrue, ◌&&◌, ◌==◌, List, [], ◌∷◌, length, slice_index_or, sum_by, AllPairs, Contains}
use Rattle.std.specs.List.{list_any}
use Rattle.qc_model.specs.Numbers.{most_apart, most_cranes, most_gap, most_gap_by_places, most_hatches, most_place, most_ready, most_tasks, most_travel, most_travel_by_places, most_work}
use Rattle.qc_model.specs.declared.task.Task.{Task}
use Rattle.qc_model.specs.declared.task.Phase.TheVariants.{DeckOut}
use Rattle.qc_model.specs.declared.crane.Crane.{Crane}
use Rattle.qc_model.specs.declared.pair.Pair.{Pair}
use Rattle.qc_model.specs.declared.turn.Turn.{Turn}
use Rattle.qc_model.specs.Tasks.{task_rank}

-- what is to be planned. A place on the rail is a whole number, since a start bay may lie before the
-- first hatch; counts, gaps and ticks are naturals
pub record InstanceView : Type 0 where
  -- the number of crane bays: the mirror turns bay x into bays + 1 - x
  pub bays : ℕ
  -- ticks of travel per bay
  pub travel : ℕ
  -- how many bays neighbouring cranes are apart at least
  pub gap : ℕ
  pub tasks : List Task
  pub cranes : List Crane
  -- pairs of which the first task ends before the second starts
  pub before : List Pair
  -- pairs that may not run at the same time
  pub apart : List Pair
  -- which way its cranes may go; no rule of a schedule reads it
  pub turn : Turn

-- what stands for a task or a crane past the end of its list; no rule speaks of such a one
abbrev pub no_task : Task
no_task = record { hatch = 0; phase = DeckOut; bay = pos 0; ticks = 0; release = 0 }

abbrev pub no_crane : Crane
no_crane = record { name = []; ready = 0; bay = pos 0; from = pos 0; to = pos 0 }

-- the same instance whose cranes may go the other way
abbrev pub with_turn : InstanceView → Turn → InstanceView
with_turn inst turn = record inst { turn = turn }

abbrev pub task : InstanceView → ℕ → Task
task inst j = slice_index_or inst.tasks j no_task

abbrev pub bay_of : InstanceView → ℕ → ℤ
bay_of inst j = (task inst j).bay

abbrev pub ticks_of : InstanceView → ℕ → ℕ
ticks_of inst j = (task inst j).ticks

-- no earlier than this may task j start
abbrev pub release_of : InstanceView → ℕ → ℕ
release_of inst j = (task inst j).release

abbrev pub crane : InstanceView → ℕ → Crane
crane inst k = slice_index_or inst.cranes k no_crane

abbrev pub pair_of : ℕ → ℕ → Pair
pair_of i j = record { first = i; second = j }

-- task i must end before task j starts
abbrev pub IsBefore : InstanceView → ℕ → ℕ → Type 0
IsBefore inst i j = Contains inst.before (pair_of i j)

-- tasks i and j may not run at the same time
abbrev pub is_apart : InstanceView → ℕ → ℕ → Bool
is_apart inst i j = list_any (λ pair. (pair.first == i) && (pair.second == j)) inst.apart

abbrev pub IsApart : InstanceView → ℕ → ℕ → Type 0
IsApart inst i j = IsTrue (is_apart inst i j)

-- the order of pairs: by the first task, then by the second
abbrev pub IsEarlier : Pair → Pair → Type 0
IsEarlier p q = (p.first ≤ q.first) × (p.first ≡ q.first → p.second < q.second)

-- one leads from i to j through these tasks by the pairs of the list
abbrev pub IsPath : List Pair → ℕ → List ℕ → ℕ → Type 0
IsPath pairs i [] j = Contains pairs (pair_of i j)
IsPath pairs i (k ∷ ks) j = Contains pairs (pair_of i k) × IsPath pairs k ks j

-- bay x seen from the other end of the ship
abbrev pub mirror_bay : InstanceView → ℤ → ℤ
mirror_bay inst x = pos (inst.bays + 1) -ℤ x

-- low ≤ x ≤ high
abbrev pub IsFrom : ℤ → ℤ → ℤ → Type 0
IsFrom low high x = (low ≤ℤ x) × (x ≤ℤ high)

-- a place on the rail at which a crane may stand
abbrev pub IsOnRail : ℤ → Type 0
IsOnRail x = IsFrom (negsuc 16999) (pos 17000) x

-- each start bay is of this kind, seen from either end
abbrev pub HasBerths : InstanceView → (ℤ → Type 0) → Type 0
HasBerths inst P =
    (k : ℕ) → k < length inst.cranes → P (crane inst k).bay × P (mirror_bay inst (crane inst k).bay)

-- the limits of a ship whose hatches stand one crane bay apart
pub record HasBayLimits (inst : InstanceView) : Type 0 where
  pub bays : (1 ≤ inst.bays) × (inst.bays ≤ most_hatches)
  pub travel : (1 ≤ inst.travel) × (inst.travel ≤ most_travel)
  pub gap : (1 ≤ inst.gap) × (inst.gap ≤ most_gap)
  pub berths : HasBerths inst (IsFrom (negsuc 299) (pos 300))

-- the limits of a ship whose places are given in decimetres
pub record HasPlaceLimits (inst : InstanceView) : Type 0 where
  pub bays : (1 ≤ inst.bays) × (inst.bays ≤ most_place)
  pub travel : (1 ≤ inst.travel) × (inst.travel ≤ most_travel_by_places)
  pub gap : (1 ≤ inst.gap) × (inst.gap ≤ most_gap_by_places)
  pub berths : HasBerths inst IsOnRail

-- every task stands at a bay of the ship and takes time, all together not too long, and none is held
-- back too long; tasks are in order of hatch and phase, each once; tasks of one hatch, and of no two,
-- share a bay
pub record HasValidTasks (inst : InstanceView) : Type 0 where
  pub count : length inst.tasks ≤ most_tasks
  pub bays : (j : ℕ) → j < length inst.tasks → IsFrom (pos 1) (pos inst.bays) (bay_of inst j)
  pub ticks : (j : ℕ) → j < length inst.tasks → 1 ≤ ticks_of inst j
  pub work : sum_by (λ t. t.ticks) inst.tasks ≤ most_work
  pub releases : (j : ℕ) → j < length inst.tasks → release_of inst j ≤ most_ready
  pub sorted : (i j : ℕ) → i < j → j < length inst.tasks
      → task_rank (task inst i) < task_rank (task inst j)
  pub hatches : (i j : ℕ) → i < length inst.tasks → j < length inst.tasks
      → (bay_of inst i ≡ bay_of inst j) ↔ ((task inst i).hatch ≡ (task inst j).hatch)

-- cranes stand along the rail at least the gap apart and have different names; each reaches some bays
-- of the ship
pub record HasValidCranes (inst : InstanceView) : Type 0 where
  pub count : (1 ≤ length inst.cranes) × (length inst.cranes ≤ most_cranes)
  pub ready : (k : ℕ) → k < length inst.cranes → (crane inst k).ready ≤ most_ready
  pub reach : (k : ℕ) → k < length inst.cranes
      → (pos 1 ≤ℤ (crane inst k).from)
      × ((crane inst k).from ≤ℤ (crane inst k).to)
      × ((crane inst k).to ≤ℤ pos inst.bays)
  pub names : (v w : ℕ) → v < w → w < length inst.cranes → (crane inst v).name ≢ (crane inst w).name
  pub order : (k : ℕ) → k + 1 < length inst.cranes
      → ((crane inst k).bay +ℤ pos inst.gap) ≤ℤ (crane inst (k + 1)).bay

-- the phases of a hatch are before one another, pairs in rising order relate tasks of the instance,
-- and no task is before itself by way of others
pub record HasValidBefore (inst : InstanceView) : Type 0 where
  pub phases : (i j : ℕ) → i < j → j < length inst.tasks
      → (task inst i).hatch ≡ (task inst j).hatch → IsBefore inst i j
  pub range : (i j : ℕ) → IsBefore inst i j → (i < length inst.tasks) × (j < length inst.tasks)
  pub sorted : AllPairs IsEarlier inst.before
  pub no_ring : (i : ℕ) (via : List ℕ) → ¬ IsPath inst.before i via i

-- pairs of different hatches, the lower task first, in rising order
pub record HasValidApart (inst : InstanceView) : Type 0 where
  pub count : length inst.apart ≤ most_apart
  pub range : (i j : ℕ) → IsApart inst i j
      → (i < j) × (j < length inst.tasks) × ((task inst i).hatch ≢ (task inst j).hatch)
  pub sorted : AllPairs IsEarlier inst.apart

-- what every instance keeps
pub record Valid (inst : InstanceView) : Type 0 where
  pub limits : ∥ HasBayLimits inst ⊎ HasPlaceLimits inst ∥₁
  pub tasks : HasValidTasks inst
  pub cranes : HasValidCranes inst
  pub before : HasValidBefore inst
  pub apart : HasValidApart inst
