-- What is kept of waiting tasks says when they may start.
use Rattle.std.proofs.Common.{◌≡◌, ◌≢◌, ℕ, ◌+◌, ◌<◌, ◌≤◌, inl, inr, Bool, true, false, ◌&&◌, Option, None, Some, IsSomeAnd, is_none, List, length, refl, ap, sym, subst, ◌∙◌, arith}
use Rattle.std.proofs.lemmas.Bool.{and_cases, and_left, and_right, both_ways, cases_Bool, cases_eq, cases_lt, cond-false, cond-true}
use Rattle.qc_dispatch.specs.declared.waits.Wait.{Wait}
use Rattle.qc_dispatch.specs.declared.stage.Stage.TheVariants.{Waiting}
use Rattle.qc_dispatch.specs.Course.{Course, MayStart, end_at, stage_of}
use Rattle.qc_dispatch.specs.Kept.{AreKept}
use Rattle.qc_dispatch.specs.Order.{Leads, free_of, gap}
use Rattle.qc_dispatch.specs.Marks.{AreMarks, mark}
use Rattle.qc_dispatch.specs.Waits.{AreLetGo, AreWaits, IsWait, is_open, let_go, open_below, wait_of}
use Rattle.qc_dispatch.proofs.Counts.{count_less_one, count_none, count_same, none_passes, tally}
use Rattle.qc_model.specs.declared.schedule.Slot.{Slot}
use Rattle.qc_model.specs.Instance.{InstanceView}
use Rattle.qc_dist.proofs.Ranges.{sum_more}

-- a task that has an end ended by so much before
closed : (o : Option ℕ) (P : ℕ → Type 0) → is_none o ≡ false → ((end : ℕ) → o ≡ Some end → P end) → IsSomeAnd o P
closed None P has by = absurd (both_ways true has refl)
closed (Some end) P has by = by end refl

has_end : (o : Option ℕ) (P : ℕ → Type 0) → IsSomeAnd o P → is_none o ≡ false
has_end None P some = absurd some
has_end (Some end) P some = refl

end_of_some : (o : Option ℕ) (P : ℕ → Type 0) (end : ℕ) → IsSomeAnd o P → o ≡ Some end → P end
end_of_some o P end some e = rw e at some

module _ (c : Course) (marks : List Bool) (waits : List Wait) (kept : AreKept c marks waits) where
  abbrev n : ℕ
  n = length c.inst.tasks

  -- a task none of whose leaders is open may start once it is due
  pub may_from : (m j : ℕ) → j < n → stage_of c j ≡ Waiting → (wait_of waits j).leaders ≡ 0 → (wait_of waits j).due ≤ m → MayStart c m j
  may_from m j inside waiting none due =
      let wait = kept.waits_are.each j inside in
      let by = (wait.due_is m).0 due in
      record {
        task = inside;
        waits = waiting;
        free = by.free;
        clear = λ i leads.
            let marked = (kept.marks_are.says i j leads.leader leads.led).1 leads in
            let shut = none_passes (is_open marks (end_at c) j) 0 n i (omega arith) (omega (arith, leads.leader)) (sym wait.open_is ∙ none) in
            closed (end_at c i) (λ end. end + gap c.inst c.plan i j ≤ m)
            (elim (and_cases (mark marks i j) (is_none (end_at c i)) shut) [
              | inl unmarked ↦ absurd (both_ways (mark marks i j) unmarked marked)
              | inr has ↦ has
            ])
            (λ end e. by.clear i end leads e);
      }

  -- and no sooner
  pub none_open : (m j : ℕ) → MayStart c m j → (wait_of waits j).leaders ≡ 0
  none_open m j may =
      let wait = kept.waits_are.each j may.task in
      wait.open_is ∙ count_none (is_open marks (end_at c) j) 0 n (λ i low high. elim (cases_Bool (mark marks i j)) [
        | inl marked ↦
            let leads = (kept.marks_are.says i j (omega (arith, high)) may.task).0 marked in
            and_right (mark marks i j) (is_none (end_at c i)) (has_end (end_at c i) (λ end. end + gap c.inst c.plan i j ≤ m) (may.clear i leads))
        | inr unmarked ↦ and_left (mark marks i j) (is_none (end_at c i)) unmarked
      ])

  pub due_by : (m j : ℕ) → MayStart c m j → (wait_of waits j).due ≤ m
  due_by m j may =
      ((kept.waits_are.each j may.task).due_is m).1 (record {
        free = may.free;
        clear = λ i end leads e. end_of_some (end_at c i) (λ end. end + gap c.inst c.plan i j ≤ m) end (may.clear i leads) e;
      })

-- ---- waits after a change of ends

module _ (inst : InstanceView) (plan : List Slot) (marks : List Bool) (ends later : ℕ → Option ℕ) where
  abbrev size : ℕ
  size = length inst.tasks

  -- no end changed
  pub waits_same : ((i : ℕ) → later i ≡ ends i) → (waits : List Wait) → AreWaits inst plan marks ends waits → AreWaits inst plan marks later waits
  waits_same same waits are = record {
    count = are.count;
    each = λ j inside.
        let wait = are.each j inside in
        record {
          open_is = wait.open_is ∙ count_same (is_open marks ends j) (is_open marks later j) 0 size (λ i low high. ap (λ (o : Option ℕ). mark marks i j && is_none o) (sym (same i)));
          due_is = λ m. (
            λ due. let by = (wait.due_is m).0 due in record { free = by.free; clear = λ i end leads e. by.clear i end leads (sym (same i) ∙ e) },
            λ by. (wait.due_is m).1 (record { free = by.free; clear = λ i end leads e. by.clear i end leads (same i ∙ e) }),
          );
        };
  }

  module _ (task now : ℕ) (inside : task < length inst.tasks) (was : ends task ≡ None) (is : later task ≡ Some now)
      (others : (i : ℕ) → i ≢ task → later i ≡ ends i) (are_marks : AreMarks inst plan marks) where
    opens_at : (i j : ℕ) → i ≢ task → is_open marks ends j i ≡ is_open marks later j i
    opens_at i j differ = ap (λ (o : Option ℕ). mark marks i j && is_none o) (sym (others i differ))

    old_end : (i end : ℕ) → ends i ≡ Some end → later i ≡ Some end
    old_end i end e = elim (cases_eq i task) [
      | inl same ↦ absurd (cc (ap ends same, was, e))
      | inr differ ↦ others i differ ∙ e
    ]

    -- a task that is led by the one that ended
    led : (j : ℕ) (wait : Wait) → j < size → mark marks task j ≡ true → IsWait inst plan marks ends j wait
        → IsWait inst plan marks later j (let_go inst plan task now j wait)
    led j wait low marked old =
        let leads = (are_marks.says task j inside low).0 marked in
        let open_before : is_open marks ends j task ≡ true = ap (λ (o : Option ℕ). mark marks task j && is_none o) was ∙ ap (λ (b : Bool). b && true) marked in
        let open_after : is_open marks later j task ≡ false = ap (λ (o : Option ℕ). mark marks task j && is_none o) is ∙ ap (λ (b : Bool). b && false) marked in
        let fewer = count_less_one (is_open marks ends j) (is_open marks later j) task 0 size (omega arith) (omega (arith, inside)) open_before open_after
        (λ i differ. opens_at i j differ) in
        record {
          open_is = omega (arith, old.open_is, fewer);
          due_is = λ m. (
            λ due.
                let by = (old.due_is m).0 (omega (arith, due)) in
                record {
                  free = by.free;
                  clear = λ i end leads e. elim (cases_eq i task) [
                    | inl same ↦
                        let at : end ≡ now = cc (ap later same, is, e) in
                        let here : now + gap inst plan task j ≤ m = omega (arith, due) in
                        rw (same, at) here
                    | inr differ ↦ by.clear i end leads (sym (others i differ) ∙ e)
                  ];
                },
            λ by.
                let low = (old.due_is m).1 (record { free = by.free; clear = λ i end leads e. by.clear i end leads (old_end i end e) }) in
                let here = by.clear task now leads is in
                omega (arith, low, here),
          );
        }

    -- one that isn't
    not_led : (j : ℕ) (wait : Wait) → j < size → mark marks task j ≡ false → IsWait inst plan marks ends j wait → IsWait inst plan marks later j wait
    not_led j wait low unmarked old = record {
      open_is = old.open_is ∙ count_same (is_open marks ends j) (is_open marks later j) 0 size (λ i _ high. elim (cases_eq i task) [
        | inl same ↦ shut i same (ends i) ∙ sym (shut i same (later i))
        | inr differ ↦ opens_at i j differ
      ]);
      due_is = λ m. (
        λ due. let by = (old.due_is m).0 due in record {
          free = by.free;
          clear = λ i end leads e. elim (cases_eq i task) [
            | inl same ↦ absurd (not_lead (subst (λ (k : ℕ). Leads inst plan k j) same leads))
            | inr differ ↦ by.clear i end leads (sym (others i differ) ∙ e)
          ];
        },
        λ by. (old.due_is m).1 (record { free = by.free; clear = λ i end leads e. by.clear i end leads (old_end i end e) }),
      );
    }
      where
        shut : (i : ℕ) → i ≡ task → (o : Option ℕ) → (mark marks i j && is_none o) ≡ false
        shut i same o = and_left (mark marks i j) (is_none o) (ap (λ (k : ℕ). mark marks k j) same ∙ unmarked)

        not_lead : ¬ Leads inst plan task j
        not_lead leads = both_ways (mark marks task j) unmarked ((are_marks.says task j inside low).1 leads)

    pub waits_after : (old new : List Wait) → AreWaits inst plan marks ends old → AreLetGo inst plan marks task now old new → AreWaits inst plan marks later new
    waits_after old new are go = record {
      count = go.count ∙ are.count;
      each = λ j low. elim (cases_Bool (mark marks task j)) [
        | inl marked ↦ rw (go.each j low ∙ cond-true (mark marks task j) _ _ marked) (led j (wait_of old j) low marked (are.each j low))
        | inr unmarked ↦ rw (go.each j low ∙ cond-false (mark marks task j) _ _ unmarked) (not_led j (wait_of old j) low unmarked (are.each j low))
      ];
    }

-- ---- the first waits

-- one leader more
pub leaders_more : (marks : List Bool) (i j : ℕ)
    → open_below (i + 1) marks (λ k. None) j ≡ open_below i marks (λ k. None) j + tally (mark marks i j)
leaders_more marks i j =
    sum_more (λ (k : ℕ). tally (is_open marks (λ m. None) j k)) i
    ∙ ap (λ (t : ℕ). open_below i marks (λ k. None) j + t) (by (mark marks i j))
  where
    by : (b : Bool) → tally (b && true) ≡ tally b
    by true = refl
    by false = refl

-- no task has an end
pub first_wait : (inst : InstanceView) (plan : List Slot) (marks : List Bool) (j leaders due : ℕ)
    → leaders ≡ open_below (length inst.tasks) marks (λ i. None) j → due ≡ free_of inst plan j
    → IsWait inst plan marks (λ i. None) j (record { leaders = leaders; due = due })
first_wait inst plan marks j leaders due counted free = record {
  open_is = counted;
  due_is = λ m. (
    λ low. record { free = omega (arith, free, low); clear = λ i end leads none. absurd (cc none) },
    λ by. omega (arith, free, by.free),
  );
}

-- a task that has no end holds up those that it leads
pub some_open : (inst : InstanceView) (plan : List Slot) (marks : List Bool) (ends : ℕ → Option ℕ) (waits : List Wait)
    → AreWaits inst plan marks ends waits → (task j : ℕ) → task < length inst.tasks → j < length inst.tasks
    → ends task ≡ None → mark marks task j ≡ true → 1 ≤ (wait_of waits j).leaders
some_open inst plan marks ends waits are task j inside low none marked =
    elim (cases_lt 0 (wait_of waits j).leaders) [
      | inl some ↦ omega arith
      | inr zero ↦
          let held : is_open marks ends j task ≡ true = ap (λ (o : Option ℕ). mark marks task j && is_none o) none ∙ ap (λ (b : Bool). b && true) marked in
          let shut = none_passes (is_open marks ends j) 0 (length inst.tasks) task (omega arith) (omega (arith, inside)) (sym (are.each j low).open_is ∙ omega arith) in
          absurd (both_ways (is_open marks ends j task) shut held)
    ]
