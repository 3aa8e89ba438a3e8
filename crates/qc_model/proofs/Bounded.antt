-- No schedule that is judged ends later than its tasks may.
use Rattle.std.proofs.Common.{◌≡◌, ℕ, suc, ◌+◌, ◌<◌, ◌≤◌, List, [], ◌∷◌, length, get_or, arith}
use Rattle.std.proofs.lemmas.List.{get_or-map}
use Rattle.qc_model.specs.Numbers.{most_end}
use Rattle.qc_model.specs.declared.schedule.Slot.{Slot}
use Rattle.qc_model.specs.declared.task.Task.{Task}
use Rattle.qc_model.specs.Instance.{InstanceView, Valid, no_task}
use Rattle.qc_model.specs.Judge.{IsJudgeable}
use Rattle.qc_model.specs.Rules.{ends, last_end, no_slot, starts}
use Rattle.qc_model.proofs.OnRail.{ticks_bounded}

-- what no task ends after, the last one doesn't either
pub last_end_le : (ts : List Task) (ss : List ℕ) (n : ℕ)
    → ((j : ℕ) → j < length ts → j < length ss → get_or ss j 0 + (get_or ts j no_task).ticks ≤ n) → last_end ts ss ≤ n
last_end_le [] ss n h = omega arith
last_end_le (t ∷ ts) [] n h = omega arith
last_end_le (t ∷ ts) (s ∷ ss) n h =
    omega (arith, h 0 (omega arith) (omega arith), last_end_le ts ss n (λ j a b. h (suc j) (omega arith) (omega arith)))

pub ends_bounded : (inst : InstanceView) (sched : List Slot) → Valid inst → IsJudgeable inst sched → ends inst sched ≤ most_end
ends_bounded inst sched v judged = last_end_le inst.tasks (starts sched) most_end (λ j a b.
    let same : get_or (starts sched) j 0 ≡ (get_or sched j no_slot).start = get_or-map (λ (s : Slot). s.start) sched j no_slot 0 (omega (arith, a, judged.all_tasks)) in
    omega (arith, same, judged.start_range j a, ticks_bounded inst v j a))
