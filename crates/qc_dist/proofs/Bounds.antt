-- Bounds on what the tasks of a list come to.
use Rattle.std.proofs.Common.{◌≡◌, ℕ, ◌*◌, ◌≤◌, pos, List, [], ◌∷◌, length, inl, inr, ap, arith}
use Rattle.std.proofs.lemmas.Bool.{cases_lt}
use Rattle.std.proofs.lemmas.Int.{ints}
use Rattle.std.proofs.Math.ListN.{get_or-eq_default}
use Rattle.std.proofs.lemmas.List.Sums.{sum_by-cons}
use Rattle.qc_model.specs.declared.task.Task.{Task}
use Rattle.qc_model.specs.declared.direction.Direction.TheVariants.{Up}
use Rattle.qc_model.specs.Instance.{InstanceView, Valid, IsOnRail, bay_of, release_of, ticks_of, no_task}
use Rattle.qc_model.specs.Numbers.{most_ready}
use Rattle.qc_model.specs.Work.{ticks_over}
use Rattle.qc_model.proofs.OnRail.{task_on_rail, ticks_bounded}

-- past the last task there is nothing
pub on_rail : (inst : InstanceView) → Valid inst → (j : ℕ) → IsOnRail (bay_of inst j)
on_rail inst v j = elim (cases_lt j (length inst.tasks)) [
  | inl inside ↦ task_on_rail inst v Up j inside
  | inr past ↦
      let e : bay_of inst j ≡ pos 0 = ap (λ (t : Task). t.bay) (get_or-eq_default inst.tasks no_task past) in
      (omega (arith, ints), omega (arith, ints))
]

pub few_ticks : (inst : InstanceView) → Valid inst → (j : ℕ) → ticks_of inst j ≤ 502400000
few_ticks inst v j = elim (cases_lt j (length inst.tasks)) [
  | inl inside ↦ ticks_bounded inst v j inside
  | inr past ↦
      let e : ticks_of inst j ≡ 0 = ap (λ (t : Task). t.ticks) (get_or-eq_default inst.tasks no_task past) in
      omega arith
]

pub few_release : (inst : InstanceView) → Valid inst → (j : ℕ) → release_of inst j ≤ most_ready
few_release inst v j = elim (cases_lt j (length inst.tasks)) [
  | inl inside ↦ v.tasks.releases j inside
  | inr past ↦
      let e : release_of inst j ≡ 0 = ap (λ (t : Task). t.release) (get_or-eq_default inst.tasks no_task past) in
      omega arith
]

pub ticks_over_bounded : (inst : InstanceView) → Valid inst → (js : List ℕ)
    → ticks_over inst js ≤ 502400000 * length js
ticks_over_bounded inst v [] = omega arith
ticks_over_bounded inst v (j ∷ js) =
    omega (arith, sum_by-cons (ticks_of inst) j js, few_ticks inst v j, ticks_over_bounded inst v js)
