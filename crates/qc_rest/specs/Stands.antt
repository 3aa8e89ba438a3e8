-- public: where cranes stand in the middle of work, and where they can be by now.
use Rattle.std.specs.Prelude.{◌≡◌, ℕ, ◌+◌, ◌<◌, ◌≤◌, ◌⊎◌, ℤ, pos, List, length, slice_index_or}
use Rattle.qc_dispatch.specs.Course.{Course}
use Rattle.qc_model.specs.Instance.{InstanceView, bay_of, crane}
use Rattle.qc_model.specs.Rules.{crane_of}
use Rattle.qc_model.specs.Ticks.{travel_between}
use Rattle.qc_rest.specs.declared.stand.Stand.{Stand}
use Rattle.qc_rest.specs.Progress.{HasBegun}

-- crane k does task i, or did it last: of the tasks that it has begun none is over later
pub record IsLastOf (c : Course) (over : ℕ → ℕ) (k i : ℕ) : Type 0 where
  pub task : i < length c.inst.tasks
  pub begun : HasBegun c i
  pub by : crane_of c.plan i ≡ k
  pub last : (j : ℕ) → j < length c.inst.tasks → HasBegun c j → crane_of c.plan j ≡ k → over j ≤ over i

-- crane k has begun nothing
abbrev pub IsIdle : Course → ℕ → Type 0
IsIdle c k = (j : ℕ) → j < length c.inst.tasks → HasBegun c j → crane_of c.plan j ≡ k → ⊥

-- it stands at the bay of its last task until that is over; where it has begun nothing, at its start bay until it is ready
abbrev pub IsStand : Course → (ℕ → ℕ) → ℕ → Stand → Type 0
IsStand c over k stand =
    (IsIdle c k × (stand ≡ record { bay = (crane c.inst k).bay; until = (crane c.inst k).ready }))
    ⊎ ((i : ℕ) × IsLastOf c over k i × (stand ≡ record { bay = bay_of c.inst i; until = over i }))

-- a crane can be at bay y by now: it must stay where it stands until later and y is there, or it has had the time to
-- come to y
abbrev pub CanBeAt : InstanceView → (now : ℕ) → Stand → ℤ → Type 0
CanBeAt inst now stand y =
    ((now < stand.until) × (y ≡ stand.bay)) ⊎ (stand.until + travel_between inst stand.bay y ≤ now)

-- what stands for a crane past the end
abbrev pub no_stand : Stand
no_stand = record { bay = pos 0; until = 0 }

abbrev pub stand_of : List Stand → ℕ → Stand
stand_of stands k = slice_index_or stands k no_stand

-- where each crane stands
abbrev pub AreStands : Course → (ℕ → ℕ) → List Stand → Type 0
AreStands c over stands = (k : ℕ) → k < length c.inst.cranes → IsStand c over k (stand_of stands k)
