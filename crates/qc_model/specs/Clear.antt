-- public: tasks that are clear of each other on their cranes, with given starts.
use Rattle.std.specs.Prelude.{◌≡◌, ℕ, ◌+◌, ◌<◌, ◌≤◌, ◌⊎◌, List, length, slice_index, Some}
use Rattle.qc_model.specs.declared.decision.Decision.{Decision}
use Rattle.qc_model.specs.Instance.{InstanceView, ticks_of}
use Rattle.qc_model.specs.Nodes.{Conflicts, IsSettled, assigned, separation}

-- task i on crane v ends so early that task j on crane w can start when it does: their separation lies between
abbrev pub IsPast : InstanceView → List ℕ → ℕ → ℕ → ℕ → ℕ → Type 0
IsPast inst starts i v j w =
    slice_index starts i + (ticks_of inst i + separation inst i v j w) ≤ slice_index starts j

-- one of the two tasks is past when the other starts
abbrev pub AreClear : InstanceView → List ℕ → ℕ → ℕ → ℕ → ℕ → Type 0
AreClear inst starts i v j w = IsPast inst starts i v j w ⊎ IsPast inst starts j w i v

-- every two tasks that have cranes, whose order could still be decided, are clear of each other
pub record AreOpenClear (inst : InstanceView) (ds : List Decision) (starts : List ℕ) : Type 0 where
  pub clear :
      (i j v w : ℕ) → i < j → j < length inst.tasks
      → assigned ds i ≡ Some v → assigned ds j ≡ Some w
      → Conflicts inst ds i j → (¬ IsSettled inst ds i j) → AreClear inst starts i v j w
