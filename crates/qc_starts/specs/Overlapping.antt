-- inner: the pairs that overlap with the starts that are kept.
use Rattle.std.specs.Prelude.{ℕ, ◌<◌, ◌≤◌, List, length}
use Rattle.qc_model.specs.declared.decision.Decision.{Decision}
use Rattle.qc_model.specs.Clear.{AreClear}
use Rattle.qc_model.specs.Instance.{InstanceView}
use Rattle.qc_model.specs.Nodes.{separation}
use Rattle.qc_starts.specs.Overlaps.{Overlaps}

-- the task overlaps with a later one
pub record OverlapsLater (inst : InstanceView) (ds : List Decision) (cells : List ℕ) (i : ℕ) : Type 0 where
  pub j : ℕ
  pub rising : i < j
  pub task : j < length inst.tasks
  pub overlaps : Overlaps inst ds cells i j

-- some task overlaps with a later one
pub record HasOverlap (inst : InstanceView) (ds : List Decision) (cells : List ℕ) : Type 0 where
  pub i : ℕ
  pub task : i < length inst.tasks
  pub later : OverlapsLater inst ds cells i

-- the pair overlaps, its lower number first
pub record IsFound (inst : InstanceView) (ds : List Decision) (cells : List ℕ) (i j : ℕ) : Type 0 where
  pub rising : i < j
  pub task : j < length inst.tasks
  pub overlaps : Overlaps inst ds cells i j

-- any two tasks are clear of each other by at most so many ticks, whichever cranes have them
abbrev pub IsWide : InstanceView → ℕ → Type 0
IsWide inst ticks =
    (i v j w : ℕ) → i < length inst.tasks → v < length inst.cranes → j < length inst.tasks → w < length inst.cranes
    → separation inst i v j w ≤ ticks

-- the two tasks are clear of each other, whichever cranes have them
abbrev pub AreFar : InstanceView → List ℕ → ℕ → ℕ → Type 0
AreFar inst cells i j =
    (v w : ℕ) → v < length inst.cranes → w < length inst.cranes → AreClear inst cells i v j w
