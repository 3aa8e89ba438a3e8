-- inner: where tasks may lie, as packed tasks are told by it.
use Rattle.std.specs.Prelude.{◌≡◌, ℕ, ◌<◌, ◌≤◌, ℤ, pos, negsuc, ◌≤ℤ◌, ◌<ℤ◌, ◌⊎◌, Bool, true, false, ◌==◌, List, length, slice_index, Option, None, Some, MatchOption}
use Rattle.std.specs.Int.{int_max, int_min}
use Rattle.qc_close.specs.Model.{bays_up, InstanceView, IsFrom, reaches, crane_in, place}
use Rattle.qc_close.specs.declared.packs.Band.{Band}

abbrev pub may_by : InstanceView → ℕ → ℕ → Option ℕ → Bool
may_by inst j v (Some k) = k == v
may_by inst j v None = reaches inst j v

-- crane v may do task j
abbrev pub may : InstanceView → List (Option ℕ) → ℕ → ℕ → Bool
may inst cranes j v = may_by inst j v (crane_in cranes j)

-- from where to where tasks may lie
abbrev pub IsPlace : ℤ → Type 0
IsPlace x = IsFrom (negsuc 15999) (pos 6000) x

-- a band with one place more
abbrev pub widened : Option Band → ℤ → Band
widened None x = record { low = x; high = x }
widened (Some b) x = record { low = int_min x b.low; high = int_max x b.high }

-- ---- the tasks of one crane, of the first n of a list

-- the place is that of one of them
pub record IsOne (inst : InstanceView) (cranes : List (Option ℕ)) (tasks : List ℕ) (v n : ℕ) (x : ℤ) : Type 0 where
  pub index : ℕ
  pub before : index < n
  pub may : may inst cranes (slice_index tasks index) v ≡ true
  pub place : place inst (slice_index tasks index) v ≡ x

-- those that crane v may do lie from the band's low to its high
pub record IsBand (inst : InstanceView) (cranes : List (Option ℕ)) (tasks : List ℕ) (v n : ℕ) (b : Band) : Type 0 where
  pub low : IsOne inst cranes tasks v n b.low
  pub high : IsOne inst cranes tasks v n b.high
  pub within : (i : ℕ) → i < n → may inst cranes (slice_index tasks i) v ≡ true
      → (b.low ≤ℤ place inst (slice_index tasks i) v) × (place inst (slice_index tasks i) v ≤ℤ b.high)
  pub near : IsPlace b.low × IsPlace b.high

-- crane v may do none of them
abbrev pub HasNone : InstanceView → List (Option ℕ) → List ℕ → ℕ → ℕ → Type 0
HasNone inst cranes tasks v n = (i : ℕ) → i < n → may inst cranes (slice_index tasks i) v ≡ false

abbrev pub IsBandOf : InstanceView → List (Option ℕ) → List ℕ → ℕ → ℕ → Option Band → Type 0
IsBandOf inst cranes tasks v n o = MatchOption o (HasNone inst cranes tasks v n) (IsBand inst cranes tasks v n)

-- ---- bands above one another

-- on each of the first n cranes the tasks lie lower than on each crane below it
abbrev pub AreStacked : InstanceView → List (Option ℕ) → List ℕ → ℕ → Type 0
AreStacked inst cranes tasks n =
    (v w i j : ℕ) → v < w → w < n → i < length tasks → j < length tasks
    → may inst cranes (slice_index tasks i) v ≡ true → may inst cranes (slice_index tasks j) w ≡ true
    → place inst (slice_index tasks j) w <ℤ place inst (slice_index tasks i) v

-- the place is the lowest of all tasks on the first n cranes
pub record IsFloor (inst : InstanceView) (cranes : List (Option ℕ)) (tasks : List ℕ) (n : ℕ) (x : ℤ) : Type 0 where
  pub crane : ℕ
  pub before : crane < n
  pub one : IsOne inst cranes tasks crane (length tasks) x
  pub lowest : (v i : ℕ) → v < n → i < length tasks → may inst cranes (slice_index tasks i) v ≡ true
      → x ≤ℤ place inst (slice_index tasks i) v

abbrev pub IsFloorOf : InstanceView → List (Option ℕ) → List ℕ → ℕ → Option ℤ → Type 0
IsFloorOf inst cranes tasks n o =
    MatchOption o ((v : ℕ) → v < n → HasNone inst cranes tasks v (length tasks)) (IsFloor inst cranes tasks n)

-- ---- stretches among which each task may lie

-- some crane may do task j and has it from low to high
pub record Lies (inst : InstanceView) (cranes : List (Option ℕ)) (low high : ℤ) (j : ℕ) : Type 0 where
  pub crane : ℕ
  pub before : crane < length inst.cranes
  pub may : may inst cranes j crane ≡ true
  pub from : low ≤ℤ place inst j crane
  pub to : place inst j crane ≤ℤ high

-- all cranes but the first n have task j below this place
abbrev pub AreBelow : InstanceView → List (Option ℕ) → ℕ → ℕ → ℤ → Type 0
AreBelow inst cranes j n low =
    (v : ℕ) → n ≤ v → v < length inst.cranes → may inst cranes j v ≡ true → place inst j v <ℤ low

-- each of the first n tasks may lie from low to high
abbrev pub AllLie : InstanceView → List (Option ℕ) → List ℕ → ℕ → ℤ → ℤ → Type 0
AllLie inst cranes tasks n low high = (i : ℕ) → i < n → Lies inst cranes low high (slice_index tasks i)

-- of the places of task j, at low or above, this is the lowest
pub record IsNearest (inst : InstanceView) (cranes : List (Option ℕ)) (low : ℤ) (j : ℕ) (high : ℤ) : Type 0 where
  pub lies : Lies inst cranes low high j
  pub least : (other : ℤ) → Lies inst cranes low other j → high ≤ℤ other
  pub near : IsPlace high

-- the place is the lowest, at low or above, up to which each of the first n tasks may lie from low on
pub record IsReach (inst : InstanceView) (cranes : List (Option ℕ)) (tasks : List ℕ) (n : ℕ) (low high : ℤ) : Type 0 where
  pub lie : AllLie inst cranes tasks n low high
  pub least : (other : ℤ) → low ≤ℤ other → AllLie inst cranes tasks n low other → high ≤ℤ other
  pub above : low ≤ℤ high
  pub near : IsPlace high

-- all tasks may lie among so many bays
pub record IsStretch (inst : InstanceView) (cranes : List (Option ℕ)) (tasks : List ℕ) (bays : ℕ) : Type 0 where
  pub low : ℤ
  pub high : ℤ
  pub lie : AllLie inst cranes tasks (length tasks) low high
  pub is : bays ≡ bays_up low high
  pub near : IsPlace low × IsPlace high

-- so many bays or fewer have been found
abbrev pub IsFound : Option ℕ → ℕ → Type 0
IsFound o n = MatchOption o ⊥ (λ m. m ≤ n)

-- from low on, no stretch is less than what is found
abbrev pub IsFoundFrom : InstanceView → List (Option ℕ) → List ℕ → Option ℕ → ℤ → Type 0
IsFoundFrom inst cranes tasks o low =
    (high : ℤ) → low ≤ℤ high → AllLie inst cranes tasks (length tasks) low high → IsFound o (bays_up low high)

-- what is found is the bays of a stretch, and no greater than what was before
pub record IsFinding (inst : InstanceView) (cranes : List (Option ℕ)) (tasks : List ℕ) (before after : Option ℕ) : Type 0 where
  pub kept : (n : ℕ) → IsFound before n → IsFound after n
  pub from : MatchOption after (Unit {0}) (λ n. (before ≡ Some n) ⊎ IsStretch inst cranes tasks n)
