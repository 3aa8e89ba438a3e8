-- inner: when the old order is over.
use Rattle.std.specs.Prelude.{ℕ, ◌+◌, ◌<◌, ◌≤◌, ◌↔◌}
use Rattle.qc_dispatch.specs.Course.{Course}
use Rattle.qc_model.specs.Instance.{ticks_of}
use Rattle.qc_rest.specs.Progress.{IsLeft}

-- the same for the first n tasks
abbrev pub IsLastFor : Course → (ℕ → ℕ) → (n last : ℕ) → Type 0
IsLastFor c goes n last = (moment : ℕ) → (last ≤ moment)
    ↔ ((c.clock ≤ moment) × ((j : ℕ) → j < n → IsLeft c j → goes j + ticks_of c.inst j ≤ moment))

-- all tasks that are left are over by a moment exactly where it is no sooner than this
abbrev pub IsLastOfAll : Course → (ℕ → ℕ) → ℕ → Type 0
IsLastOfAll c goes last = (moment : ℕ) → (last ≤ moment)
    ↔ ((c.clock ≤ moment) × ((j : ℕ) → IsLeft c j → goes j + ticks_of c.inst j ≤ moment))
