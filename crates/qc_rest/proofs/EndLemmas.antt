-- When the whole ends, and when what runs is over as far as a log tells.
use Rattle.std.proofs.Common.{◌≡◌, ℕ, ◌+◌, ◌-◌, ◌<◌, ◌≤◌, inl, inr, List, length, sym, ap, ◌∙◌, arith}
use Rattle.std.specs.Prelude.{◌↔◌}
use Rattle.qc_dispatch.specs.declared.stage.Stage.TheVariants.{Waiting}
use Rattle.qc_dispatch.specs.Course.{Course, is_waiting, stage_of}
use Rattle.qc_dispatch.specs.Promises.{Keeps}
use Rattle.qc_dispatch.specs.Worked.{with_tasks}
use Rattle.qc_model.specs.declared.schedule.Slot.{Slot}
use Rattle.qc_model.specs.declared.task.Task.{Task}
use Rattle.qc_model.specs.Instance.{InstanceView}
use Rattle.qc_model.specs.Rules.{Feasible, end_of, ends, starts}
use Rattle.qc_model.proofs.Bounded.{last_end_le}
use Rattle.qc_model.proofs.NodeLemmas.{ends_by, start_at}
use Rattle.std.proofs.lemmas.List.{length-map}
use Rattle.qc_rest.specs.declared.stand.Stand.{Stand}
use Rattle.qc_rest.specs.Joined.{IsJoined}
use Rattle.qc_rest.specs.Progress.{HasBegun, IsLeft, number_of}
use Rattle.qc_rest.specs.Rest.{IsRest}
use Rattle.qc_rest.proofs.BegunLemmas.{begun_or_waits}
use Rattle.qc_rest.proofs.NumberLemmas.{numbered}
use Rattle.qc_rest.proofs.OldLemmas.{is_left}
use Rattle.qc_rest.proofs.StandLemmas.{number_low, ticks_left}

-- each task of a schedule ends by its end
end_within : (inst : InstanceView) (sched : List Slot) (j : ℕ) → length sched ≡ length inst.tasks → j < length inst.tasks
    → end_of inst sched j ≤ ends inst sched
end_within inst sched j same low =
    let count : length (starts sched) ≡ length inst.tasks = length-map sched (λ (s : Slot). s.start) ∙ same in
    omega (arith, ends_by inst.tasks (starts sched) j count low, start_at sched j)

-- and where all end by a moment it does
ends_within : (inst : InstanceView) (sched : List Slot) (moment : ℕ) → ((j : ℕ) → j < length inst.tasks → end_of inst sched j ≤ moment)
    → ends inst sched ≤ moment
ends_within inst sched moment each =
    last_end_le inst.tasks (starts sched) moment (λ j low high. omega (arith, each j low, start_at sched j))

module _ (c : Course) (over : ℕ → ℕ) (stands : List Stand) (rest : InstanceView) (new : List Slot) (tasks : List Task)
    (sched : List Slot) (keeps : Keeps c) (is : IsRest c over stands rest) (feasible : Feasible rest new)
    (w : IsJoined c over new tasks sched) where
  abbrev real : InstanceView
  real = with_tasks c.inst tasks

  end_left : (j : ℕ) → IsLeft c j → end_of real sched j ≡ c.clock + end_of rest new (number_of c j)
  end_left j waits =
      let own = w.planned j waits in
      omega (arith, own.start, own.ticks, ticks_left c over stands rest new keeps is feasible j waits)

  abbrev EndsBy : ℕ → Type 0
  EndsBy moment =
      ((j : ℕ) → j < length c.inst.tasks → HasBegun c j → end_of real sched j ≤ moment)
      × ((j : ℕ) → IsLeft c j → c.clock + ends rest new ≤ moment)

  low_now : (j : ℕ) → j < length c.inst.tasks → j < length tasks
  low_now j low = omega (arith, low, w.tasks_count)

  rest_by : (moment : ℕ) → ends real sched ≤ moment → (j : ℕ) → IsLeft c j → c.clock + ends rest new ≤ moment
  rest_by moment by j waits =
      let same : length sched ≡ length tasks = w.slots_count ∙ sym w.tasks_count in
      let at : (i : ℕ) → IsLeft c i → c.clock + end_of rest new (number_of c i) ≤ moment =
      λ i here. omega (arith, by, end_left i here, end_within real sched i same (low_now i here.task)) in
      let each : (a : ℕ) → a < length rest.tasks → end_of rest new a ≤ moment - c.clock = λ a low. by_one a low at in
      omega (arith, at j waits, ends_within rest new (moment - c.clock) each)
    where
      by_one : (a : ℕ) → a < length rest.tasks → ((i : ℕ) → IsLeft c i → c.clock + end_of rest new (number_of c i) ≤ moment)
          → end_of rest new a ≤ moment - c.clock
      by_one a low at =
          let own = numbered is_waiting c.stages Waiting a (omega (arith, low, is.tasks_count)) in
          let here : IsLeft c own.at = record { task = omega (arith, own.inside, keeps.stages); waits = is_left (stage_of c own.at) own.passes } in
          let at_number : end_of rest new (number_of c own.at) ≡ end_of rest new a = ap (end_of rest new) own.number in
          omega (arith, at own.at here, at_number)

  ends_forth : (moment : ℕ) → ends real sched ≤ moment → EndsBy moment
  ends_forth moment by = (
    λ j low begun. omega (arith, by, end_within real sched j (w.slots_count ∙ sym w.tasks_count) (low_now j low)),
    rest_by moment by,
  )

  ends_back : (moment : ℕ) → EndsBy moment → ends real sched ≤ moment
  ends_back moment each = ends_within real sched moment (λ j low. one j (omega (arith, low, w.tasks_count)))
    where
      one : (j : ℕ) → j < length c.inst.tasks → end_of real sched j ≤ moment
      one j low = elim (begun_or_waits (stage_of c j)) [
        | inl begun ↦ each.0 j low begun
        | inr still ↦
            let here : IsLeft c j = record { task = low; waits = still } in
            omega (
              arith,
              each.1 j here,
              end_left j here,
              end_within rest new (number_of c j) feasible.all_tasks (number_low c over stands rest new keeps is feasible j here),
            )
      ]

  -- the whole ends when all that has begun is over and the rest ends, counted from now
  pub the_end : (moment : ℕ) → (ends real sched ≤ moment) ↔ EndsBy moment
  the_end moment = (ends_forth moment, ends_back moment)
