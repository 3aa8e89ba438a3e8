-- inner: the least starts of a node, as they are kept while a part is read.
use Rattle.std.specs.Prelude.{◌≡◌, ℕ, ◌<◌, ◌≤◌, ◌⊎◌, Bool, true, false, List, length, map, drop, slice_index, Option, None, Some}
use Rattle.qc_close.specs.Model.{Decision, Turn, OneWay, Free, InstanceView, AreLeast, HasStarts, IsInReach, least}
use Rattle.qc_replay.specs.declared.earliest.EarlyStarts.{EarlyStarts}

-- the start of a task in a list of starts
abbrev pub start_in : List ℕ → ℕ → ℕ
start_in starts j = slice_index starts j

-- one of the decisions is out of reach, or no starts meet them
abbrev pub HaveNone : InstanceView → List Decision → Type 0
HaveNone inst ds = IsInReach inst ds → ¬ HasStarts inst ds

-- the starts are those of all decisions but the newest ones past them, with each of which there are none
pub record AreEarly (inst : InstanceView) (ds : List Decision) (early : EarlyStarts) : Type 0 where
  pub same : early.starts.inst ≡ inst
  pub made : early.starts.decisions ≡ drop early.past ds
  pub few : early.past ≤ length ds
  pub none : (k : ℕ) → k < early.past → HaveNone inst (drop k ds)

-- where cranes go as they like, the least starts are kept
abbrev pub HasEarly : Turn → InstanceView → List Decision → Option EarlyStarts → Type 0
HasEarly OneWay inst ds None = Unit {0}
HasEarly OneWay inst ds (Some early) = ⊥
HasEarly Free inst ds None = ⊥
HasEarly Free inst ds (Some early) = AreEarly inst ds early

-- whether decisions were made past the starts, or none meet them
abbrev pub IsEnded : EarlyStarts → Bool → Type 0
IsEnded early true = (0 < early.past) ⊎ (¬ HasStarts early.starts.inst early.starts.decisions)
IsEnded early false =
    (early.past ≡ 0) × HasStarts early.starts.inst early.starts.decisions
    × IsInReach early.starts.inst early.starts.decisions

-- the least start of the first of some tasks
pub record IsFirstStart (inst : InstanceView) (ds : List Decision) (tasks : List ℕ) (tick : ℕ) : Type 0 where
  pub starts : List ℕ
  pub are : AreLeast inst ds starts
  pub is : tick ≡ least (map (start_in starts) tasks)
