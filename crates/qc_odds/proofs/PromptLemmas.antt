-- A dispatcher starts each task at the first moment at which it may, whatever is reported and when.
use Rattle.std.proofs.Common.{◌≡◌, ◌≢◌, ◌⊎◌, ℕ, ◌+◌, ◌-◌, ◌<◌, ◌≤◌, false, inl, inr, Option, None, Some, IfSome, Result, Ok, Err, List, [], ◌∷◌, length, map, get_or, slice_index, slice_set, refl, sym, ap, subst, ◌∙◌, arith}
use Rattle.std.specs.Prelude.{IsSomeAnd, ⊤}
use Rattle.std.specs.Option.{unwrap_or}
use Rattle.std.proofs.lemmas.Bool.{cases_lt, false≢true}
use Rattle.std.proofs.lemmas.List.{get_or-map, length-map}
use Rattle.std.proofs.lemmas.List.FromFn.{get_or-map-range_with_len}
use Rattle.qc_dispatch.specs.declared.stage.Stage.{Stage}
use Rattle.qc_dispatch.specs.declared.stage.Stage.TheVariants.{Waiting, Running, Ended}
use Rattle.qc_dispatch.specs.declared.grant.Grant.{Grant}
use Rattle.qc_dispatch.specs.declared.grant.NotRunning.{NotRunning}
use Rattle.qc_dispatch.specs.Calls.{Advance, Call, Done, IsCalled, Reaches, opening}
use Rattle.qc_dispatch.specs.Course.{Course, IsAdvanced, IsOver, IsReported, MayStart, end_at, end_in as stage_end, is_running, is_waiting, left, running, stage_of, start_at, start_in, started}
use Rattle.qc_dispatch.specs.Kept.{IsCourse}
use Rattle.qc_dispatch.specs.Order.{Leads, free_of, gap}
use Rattle.qc_dispatch.specs.Promises.{IsSpan}
use Rattle.qc_dispatch.specs.Worked.{IsWorked, begun_at, slots_taken, tasks_taken, ticks_taken}
use Rattle.qc_dispatch.proofs.Counts.{none_in}
use Rattle.qc_dispatch.proofs.CourseLemmas.{end_started, goes_ended, goes_later, goes_started, none_started, opens, stage_set}
use Rattle.qc_dispatch.proofs.WorkedLemmas.{worked_taken}
use Rattle.qc_model.specs.declared.schedule.Slot.{Slot}
use Rattle.qc_model.specs.declared.task.Task.{Task}
use Rattle.qc_model.specs.Instance.{InstanceView, Valid, no_task, task as task_in}
use Rattle.qc_model.specs.Rules.{Feasible, crane_of, no_slot}
use Rattle.qc_odds.specs.Course.{AreStarts, end_in}

-- by this moment task j may start, or might have
record MayBe (c : Course) (j moment : ℕ) : Type 0 where
  free : free_of c.inst c.plan j ≤ moment
  clear : (i : ℕ) → Leads c.inst c.plan i j → IsOver c i (gap c.inst c.plan i j) moment

-- no task that has a start might have started sooner, and none that waits might have started before now
record IsPrompt (c : Course) : Type 0 where
  course : IsCourse c
  at_once : (j start : ℕ) → start_at c j ≡ Some start → (moment : ℕ) → MayBe c j moment → start ≤ moment
  no_wait : (j moment : ℕ) → MayStart c moment j → c.clock ≤ moment

prompt_opening : (inst : InstanceView) (plan : List Slot) → Valid inst → Feasible inst plan → IsPrompt (opening inst plan)
prompt_opening inst plan valid feasible = record {
  course = opens inst plan valid feasible;
  at_once = λ j start is. cc (sym (ap start_in (none_started (length inst.tasks) j)) ∙ is);
  no_wait = λ j moment may. omega arith;
}

over_as : (o p : Option ℕ) (t m : ℕ) → o ≡ p → IsSomeAnd o (λ end. end + t ≤ m) → IsSomeAnd p (λ end. end + t ≤ m)
over_as o p t m same over = subst (λ (q : Option ℕ). IsSomeAnd q (λ end. end + t ≤ m)) same over

module _ (c : Course) (prompt : IsPrompt c) where
  -- ---- later, where none may start until then
  later : (to : ℕ) → c.clock ≤ to → ((moment j : ℕ) → c.clock ≤ moment → moment ≤ to → ¬ MayStart c moment j) → IsPrompt (record c { clock = to })
  later to from none = record {
    course = goes_later c prompt.course to from;
    at_once = λ j start is moment may. prompt.at_once j start is moment (record { free = may.free; clear = may.clear });
    no_wait = λ j moment may.
        let old : MayStart c moment j = record { task = may.task; waits = may.waits; free = may.free; clear = may.clear } in
        elim (cases_lt moment to) [
          | inl before ↦ absurd (none moment j (prompt.no_wait j moment old) (omega arith) old)
          | inr after ↦ after
        ];
  }

  -- ---- a start, at the first moment at which some task may
  module _ (task m : ℕ) (from : c.clock ≤ m) (may : MayStart c m task)
      (soonest : (moment j : ℕ) → c.clock ≤ moment → moment < m → ¬ MayStart c moment j) where
    abbrev begun : Course
    begun = started c m task

    not_sooner : (j x : ℕ) → MayStart c x j → m ≤ x
    not_sooner j x old = elim (cases_lt x m) [
      | inl before ↦ absurd (soonest x j (prompt.no_wait j x old) before old)
      | inr after ↦ after
    ]

    clear_back : (j x : ℕ) → ((i : ℕ) → Leads c.inst c.plan i j → IsOver begun i (gap c.inst c.plan i j) x)
        → (i : ℕ) → Leads c.inst c.plan i j → IsOver c i (gap c.inst c.plan i j) x
    clear_back j x clear i leads =
        over_as (end_at begun i) (end_at c i) (gap c.inst c.plan i j) x (end_started c prompt.course task m may i) (clear i leads)

    stage_begun : (j : ℕ) → ((task ≡ j) × (stage_of begun j ≡ Running m)) ⊎ ((task ≢ j) × (stage_of begun j ≡ stage_of c j))
    stage_begun j = stage_set c.stages task j (Running m) (omega (arith, may.task, prompt.course.stages))

    prompt_started : IsPrompt begun
    prompt_started = record {
      course = goes_started c prompt.course task m from may;
      at_once = λ j start is x now. elim (stage_begun j) [
        | inl at ↦
            let same : m ≡ start = cc (sym (ap start_in at.1) ∙ is) in
            let old : MayStart c x task = record {
              task = may.task;
              waits = may.waits;
              free = subst (λ (k : ℕ). free_of c.inst c.plan k ≤ x) (sym at.0) now.free;
              clear = clear_back task x (subst (λ (k : ℕ). (i : ℕ) → Leads c.inst c.plan i k → IsOver begun i (gap c.inst c.plan i k) x) (sym at.0) now.clear);
            } in
            omega (arith, not_sooner task x old, same)
        | inr other ↦ prompt.at_once j start (sym (ap start_in other.1) ∙ is) x (record { free = now.free; clear = clear_back j x now.clear })
      ];
      no_wait = λ j x now. elim (stage_begun j) [
        | inl at ↦ cc (sym at.1 ∙ now.waits)
        | inr other ↦ not_sooner j x (record { task = now.task; waits = sym other.1 ∙ now.waits; free = now.free; clear = clear_back j x now.clear })
      ];
    }

  -- ---- an end, now
  module _ (task start : ℕ) (inside : task < length c.inst.tasks) (ran : stage_of c task ≡ Running start) where
    abbrev over : Course
    over = record c { stages = slice_set c.stages task (Ended start c.clock) }

    stage_over : (j : ℕ) → ((task ≡ j) × (stage_of over j ≡ Ended start c.clock)) ⊎ ((task ≢ j) × (stage_of over j ≡ stage_of c j))
    stage_over j = stage_set c.stages task j (Ended start c.clock) (omega (arith, inside, prompt.course.stages))

    -- what is over by then was over before, or it is no sooner than now
    over_back : (i t x : ℕ) → x < c.clock → IsOver over i t x → IsOver c i t x
    over_back i t x soon is = elim (stage_over i) [
      | inl at ↦ absurd (let now : c.clock + t ≤ x = over_as (end_at over i) (Some c.clock) t x (ap stage_end at.1) is in omega arith)
      | inr other ↦ over_as (end_at over i) (end_at c i) t x (ap stage_end other.1) is
    ]

    -- who leads a task that has a start had ended
    leader_stays : (j s : ℕ) → start_at c j ≡ Some s → (i t x : ℕ) → Leads c.inst c.plan i j → IsOver over i t x → IsOver c i t x
    leader_stays j s begun i t x leads is = elim (stage_over i) [
      | inl at ↦
          let had = subst (λ (o : Option ℕ). IfSome o (IsOver c i (gap c.inst c.plan i j))) begun (prompt.course.keeps.order i j leads) in
          absurd (over_as (end_at c i) None (gap c.inst c.plan i j) s (ap stage_end (subst (λ (k : ℕ). stage_of c k ≡ Running start) at.0 ran)) had)
      | inr other ↦ over_as (end_at over i) (end_at c i) t x (ap stage_end other.1) is
    ]

    start_over : (j : ℕ) → start_at over j ≡ start_at c j
    start_over j = elim (stage_over j) [
      | inl at ↦ ap start_in at.1 ∙ sym (ap start_in (subst (λ (k : ℕ). stage_of c k ≡ Running start) at.0 ran))
      | inr other ↦ ap start_in other.1
    ]

    waits_back : (j : ℕ) → stage_of over j ≡ Waiting → stage_of c j ≡ Waiting
    waits_back j waits = elim (stage_over j) [
      | inl at ↦ cc (sym at.1 ∙ waits)
      | inr other ↦ sym other.1 ∙ waits
    ]

    prompt_ended : IsPrompt over
    prompt_ended = record {
      course = goes_ended c prompt.course task start inside ran;
      at_once = λ j s is x now.
          let begun : start_at c j ≡ Some s = sym (start_over j) ∙ is in
          prompt.at_once j s begun x (record { free = now.free; clear = λ i leads. leader_stays j s begun i (gap c.inst c.plan i j) x leads (now.clear i leads) });
      no_wait = λ j x now. elim (cases_lt x c.clock) [
        | inl soon ↦ prompt.no_wait j x (record {
          task = now.task;
          waits = waits_back j now.waits;
          free = now.free;
          clear = λ i leads. over_back i (gap c.inst c.plan i j) x soon (now.clear i leads);
        })
        | inr late ↦ late
      ];
    }

-- ---- calls

prompt_advanced : (old new : Course) (to : ℕ) (granted : Option Grant) → old.clock ≤ to → IsPrompt old → IsAdvanced old to granted new → IsPrompt new
prompt_advanced old new to None from prompt passed = subst IsPrompt (sym passed.after) (later old prompt to from passed.none)
prompt_advanced old new to (Some grant) from prompt granted =
    subst IsPrompt (sym granted.after) (prompt_started old prompt grant.task grant.at granted.from granted.may granted.soonest)

prompt_done : (old new : Course) (task : ℕ) (result : Result ⊤ NotRunning) → task < length old.inst.tasks → IsPrompt old
    → IsReported old task result new → IsPrompt new
prompt_done old new task (Ok done) inside prompt ended = subst IsPrompt (sym ended.after) (prompt_ended old prompt task ended.start inside ended.ran)
prompt_done old new task (Err refused) inside prompt same = subst IsPrompt (sym same.after) prompt

prompt_called : (old new : Course) (call : Call) → IsPrompt old → IsCalled old call new → IsPrompt new
prompt_called old new (Advance to) prompt waits = prompt_advanced old new to waits.granted waits.from prompt waits.advanced
prompt_called old new (Done task) prompt tells = prompt_done old new task tells.result tells.inside prompt tells.reported

prompt_reached : (old : Course) (calls : List Call) (new : Course) → IsPrompt old → Reaches old calls new → IsPrompt new
prompt_reached old [] new prompt same = subst IsPrompt (sym same) prompt
prompt_reached old (call ∷ calls) new prompt run = prompt_reached run.0 calls new (prompt_called old run.0 call prompt run.1) run.2

-- ---- once nothing is left and nothing runs

has_ended : (s : Stage) (now : ℕ) → is_waiting s ≡ false → is_running s ≡ false → IsSpan now s
    → (start_in s ≡ Some (unwrap_or (start_in s) 0))
    × (stage_end s ≡ Some (unwrap_or (start_in s) 0 + (unwrap_or (stage_end s) 0 - unwrap_or (start_in s) 0)))
has_ended Waiting now begun through span = absurd (false≢true (sym begun))
has_ended (Running start) now begun through span = absurd (false≢true (sym through))
has_ended (Ended start end) now begun through span =
    let all : end ≡ start + (end - start) = omega (arith, span.0) in
    (refl, ap (λ (m : ℕ). Some m) all)

module _ (c : Course) (prompt : IsPrompt c) (none_left : left c ≡ 0) (none_runs : running c ≡ 0) where
  abbrev lengths : List ℕ
  lengths = map (λ (t : Task). t.ticks) (tasks_taken c)

  abbrev begins : List ℕ
  begins = map (λ (s : Slot). s.start) (slots_taken c)

  taken : IsWorked c (tasks_taken c) (slots_taken c)
  taken = worked_taken c prompt.course.keeps none_left none_runs

  slot_is : (j : ℕ) → j < length c.inst.tasks → get_or (slots_taken c) j no_slot ≡ record { crane = crane_of c.plan j; start = begun_at c j }
  slot_is j low = get_or-map-range_with_len _ 0 (length c.inst.tasks) j j no_slot low (omega arith)

  task_is : (j : ℕ) → j < length c.inst.tasks → get_or (tasks_taken c) j no_task ≡ record (task_in c.inst j) { ticks = ticks_taken c j }
  task_is j low = get_or-map-range_with_len _ 0 (length c.inst.tasks) j j no_task low (omega arith)

  start_is : (j : ℕ) → j < length c.inst.tasks → slice_index begins j ≡ begun_at c j
  start_is j low =
      get_or-map (λ (s : Slot). s.start) (slots_taken c) j no_slot 0 (omega (arith, low, taken.slots_count)) ∙ ap (λ (s : Slot). s.start) (slot_is j low)

  length_is : (j : ℕ) → j < length c.inst.tasks → slice_index lengths j ≡ ticks_taken c j
  length_is j low =
      get_or-map (λ (t : Task). t.ticks) (tasks_taken c) j no_task 0 (omega (arith, low, taken.tasks_count)) ∙ ap (λ (t : Task). t.ticks) (task_is j low)

  ended_is : (j : ℕ) → j < length c.inst.tasks → (start_at c j ≡ Some (begun_at c j)) × (end_at c j ≡ Some (begun_at c j + ticks_taken c j))
  ended_is j low =
      has_ended (stage_of c j) c.clock (none_in is_waiting c.stages j Waiting (omega (arith, low, prompt.course.stages)) none_left)
      (none_in is_running c.stages j Waiting (omega (arith, low, prompt.course.stages)) none_runs) (prompt.course.keeps.spans j)

  end_is : (j : ℕ) → j < length c.inst.tasks → end_at c j ≡ Some (end_in lengths begins j)
  end_is j low =
      (ended_is j low).1 ∙ ap (λ (s : ℕ). Some (s + ticks_taken c j)) (sym (start_is j low)) ∙ ap (λ (l : ℕ). Some (slice_index begins j + l)) (sym (length_is j low))

  begun_is : (j : ℕ) → j < length c.inst.tasks → start_at c j ≡ Some (slice_index begins j)
  begun_is j low = (ended_is j low).0 ∙ ap (λ (s : ℕ). Some s) (sym (start_is j low))

  worked_starts : AreStarts c.inst c.plan lengths begins
  worked_starts = record {
    count = length-map (slots_taken c) (λ (s : Slot). s.start) ∙ taken.slots_count;
    each_one = λ j low moment. (
      λ le. record {
        free =
            let free = subst (λ (o : Option ℕ). IfSome o (λ start. free_of c.inst c.plan j ≤ start)) (begun_is j low) (prompt.course.keeps.starts j) in
            omega (arith, free, le);
        clear = λ i leads.
            let had = subst (λ (o : Option ℕ). IfSome o (IsOver c i (gap c.inst c.plan i j))) (begun_is j low) (prompt.course.keeps.order i j leads) in
            let ended : end_in lengths begins i + gap c.inst c.plan i j ≤ slice_index begins j =
            over_as (end_at c i) (Some (end_in lengths begins i)) (gap c.inst c.plan i j) (slice_index begins j) (end_is i leads.leader) had in
            omega (arith, ended, le);
      },
      λ may. prompt.at_once j (slice_index begins j) (begun_is j low) moment (record {
        free = may.free;
        clear = λ i leads. over_as (Some (end_in lengths begins i)) (end_at c i) (gap c.inst c.plan i j) moment (sym (end_is i leads.leader)) (may.clear i leads);
      }),
    );
  }

pub dispatched : (inst : InstanceView) (plan : List Slot) (calls : List Call) (after : Course) → Valid inst → Feasible inst plan
    → Reaches (opening inst plan) calls after → left after ≡ 0 → running after ≡ 0
    → AreStarts after.inst after.plan (map (λ t. t.ticks) (tasks_taken after)) (map (λ s. s.start) (slots_taken after))
dispatched inst plan calls after valid feasible run none_left none_runs =
    worked_starts after (prompt_reached (opening inst plan) calls after (prompt_opening inst plan valid feasible) run) none_left none_runs
