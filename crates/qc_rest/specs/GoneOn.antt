-- public: the old order gone on with: each task that is left starts as soon as it may, behind those that lead it.
use Rattle.std.specs.Prelude.{ℕ, ◌+◌, ◌≤◌, ◌↔◌, if◌then◌else◌}
use Rattle.qc_dispatch.specs.Course.{Course, is_waiting, stage_of}
use Rattle.qc_dispatch.specs.Order.{Leads, free_of, gap}
use Rattle.qc_model.specs.Instance.{ticks_of}
use Rattle.qc_rest.specs.Progress.{IsLeft}

-- by this moment task j may start: it is now or later, its crane can be there with all berths clear, and each task that
-- leads it is over, by the gap
pub record MayGoBy (c : Course) (ends : ℕ → ℕ) (j moment : ℕ) : Type 0 where
  pub now : c.clock ≤ moment
  pub free : free_of c.inst c.plan j ≤ moment
  pub clear : (i : ℕ) → Leads c.inst c.plan i j → ends i + gap c.inst c.plan i j ≤ moment

-- when a task ends where those that are left start at these ticks
abbrev pub end_with : Course → (over goes : ℕ → ℕ) → ℕ → ℕ
end_with c over goes j = if is_waiting (stage_of c j) then goes j + ticks_of c.inst j else over j

-- each task that is left starts at the first moment at which it may
pub record AreGoneOn (c : Course) (over goes : ℕ → ℕ) : Type 0 where
  pub each_one : (j : ℕ) → IsLeft c j → (moment : ℕ) → (goes j ≤ moment) ↔ MayGoBy c (end_with c over goes) j moment
