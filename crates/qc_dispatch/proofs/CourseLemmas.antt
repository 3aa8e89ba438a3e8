-- What the course of the work keeps as it goes on.
use Rattle.std.proofs.Common.{◌≡◌, ◌≢◌, ℕ, zero, suc, ◌+◌, ◌<◌, ◌≤◌, ◌⊎◌, inl, inr, true, false, Option, None, Some, IfSome, IsSome, IsSomeAnd, List, length, map, slice_index_or, slice_set, replicate, refl, ap, sym, subst, ◌∙◌, arith}
use Rattle.std.proofs.lemmas.Bool.{cases_eq, cases_lt, false≢true}
use Rattle.std.proofs.lemmas.Grind.{get_or-set_at}
use Rattle.std.specs.List.{range_with_len}
use Rattle.std.proofs.lemmas.List.{get_or-set_other, length-set, length-replicate}
use Rattle.qc_dispatch.specs.declared.stage.Stage.{Stage}
use Rattle.qc_dispatch.specs.declared.stage.Stage.TheVariants.{Waiting, Running, Ended}
use Rattle.qc_dispatch.specs.Calls.{opening}
use Rattle.qc_dispatch.specs.Course.{Course, IsOver, IsQuiet, MayStart, end_at, end_in, is_running, is_waiting, left, running, stage_of, start_at, start_in, started}
use Rattle.qc_dispatch.specs.Kept.{IsCourse}
use Rattle.qc_dispatch.specs.Order.{Leads, free_of, gap}
use Rattle.qc_dispatch.specs.Promises.{GoesOn, IsSpan, behind, greatest_gap, last, last_end, later, latest, over_tasks}
use Rattle.qc_dispatch.proofs.Counts.{least_of, none_in, some_passes}
use Rattle.qc_dispatch.proofs.OrderLemmas.{before_leads, one_leads}
use Rattle.qc_model.proofs.Extremes.{le_greatest}
use Rattle.qc_model.specs.declared.schedule.Slot.{Slot}
use Rattle.qc_model.specs.Instance.{InstanceView, Valid}
use Rattle.qc_model.specs.Rules.{Feasible, start_of}

-- ---- options

pub over_later : (o : Option ℕ) (t u m n : ℕ) → m + u ≤ n + t → IsSomeAnd o (λ end. end + t ≤ m)
    → IsSomeAnd o (λ end. end + u ≤ n)
over_later None t u m n later over = over
over_later (Some end) t u m n later over = omega (arith, over)

if_then : (o : Option ℕ) (P Q : ℕ → Type 0) → ((x : ℕ) → o ≡ Some x → P x → Q x) → IfSome o P → IfSome o Q
if_then None P Q step h = tt
if_then (Some x) P Q step h = step x refl h

pub and_of : (o : Option ℕ) (P : ℕ → Type 0) → IsSome o → IfSome o P → IsSomeAnd o P
and_of None P some h = absurd (cc some)
and_of (Some x) P some h = h

-- ---- spans

span_later : (s : Stage) (m n : ℕ) → m ≤ n → IsSpan m s → IsSpan n s
span_later Waiting m n later span = tt
span_later (Running start) m n later span = omega (arith, later, span)
span_later (Ended start end) m n later span = (span.0, omega (arith, later, span.1))

-- ---- the last end

later_left : (o p : Option ℕ) → IfSome o (λ m. IsSomeAnd (later o p) (λ n. m ≤ n))
later_left None p = tt
later_left (Some m) None = omega arith
later_left (Some m) (Some n) = omega arith

later_right : (o p : Option ℕ) (m : ℕ) → IsSomeAnd p (λ n. m ≤ n) → IsSomeAnd (later o p) (λ n. m ≤ n)
later_right None p m late = late
later_right (Some k) None m late = absurd late
later_right (Some k) (Some n) m late = omega (arith, late)

up_to_right : (o p q : Option ℕ) → IfSome o (λ m. IsSomeAnd p (λ n. m ≤ n))
    → IfSome o (λ m. IsSomeAnd (later q p) (λ n. m ≤ n))
up_to_right None p q late = tt
up_to_right (Some m) p q late = later_right q p m late

-- each of the moments is at most the last
by_last : (f : ℕ → Option ℕ) (k a n : ℕ) → a ≤ k → k < a + n
    → IfSome (f k) (λ m. IsSomeAnd (last (map f (range_with_len a n))) (λ end. m ≤ end))
by_last f k a zero low high = absurd (omega arith)
by_last f k a (suc n) low high =
    let rest = last (map f (range_with_len (a + 1) n)) in
    elim (cases_lt a k) [
      | inl l ↦ up_to_right (f k) rest (f a) (by_last f k (a + 1) n (omega arith) (omega arith))
      | inr l ↦ let e : a ≡ k = omega arith in
          subst (λ (i : ℕ). IfSome (f i) (λ m. IsSomeAnd (later (f a) rest) (λ end. m ≤ end))) e
          (later_left (f a) rest)
    ]

behind_free : (o : Option ℕ) (free ticks : ℕ) → free ≤ behind o free ticks
behind_free None free ticks = omega arith
behind_free (Some end) free ticks = omega arith

behind_one : (o p : Option ℕ) (free t ticks : ℕ) → t ≤ ticks → IfSome o (λ m. IsSomeAnd p (λ end. m ≤ end))
    → IfSome o (λ m. m + t ≤ behind p free ticks)
behind_one None p free t ticks few late = tt
behind_one (Some m) None free t ticks few late = absurd late
behind_one (Some m) (Some end) free t ticks few late = omega (arith, late)

behind_each : (f : ℕ → Option ℕ) (n i free t ticks : ℕ) → i < n → t ≤ ticks
    → IfSome (f i) (λ end. end + t ≤ behind (last (map f (range_with_len 0 n))) free ticks)
behind_each f n i free t ticks inside few =
    behind_one (f i) (last (map f (range_with_len 0 n))) free t ticks few
    (by_last f i 0 n (omega arith) (omega arith))

-- ---- stages after one is written

pub stage_set : (xs : List Stage) (i j : ℕ) (s : Stage) → i < length xs
    → ((i ≡ j) × (slice_index_or (slice_set xs i s) j Waiting ≡ s))
    ⊎ ((i ≢ j) × (slice_index_or (slice_set xs i s) j Waiting ≡ slice_index_or xs j Waiting))
stage_set xs i j s inside = elim (cases_eq i j) [
  | inl e ↦ inl (e, get_or-set_at xs i j s Waiting (sym e) inside)
  | inr differ ↦ inr (differ, get_or-set_other xs i j s Waiting (λ e. differ (sym e)))
]

-- ---- what holds of every course whose starts keep the order

module _ (c : Course) (valid : Valid c.inst) (feasible : Feasible c.inst c.plan)
    (same : length c.stages ≡ length c.inst.tasks) where
  may_later : (m n j : ℕ) → m ≤ n → MayStart c m j → MayStart c n j
  may_later m n j later may = record {
    task = may.task;
    waits = may.waits;
    free = omega (arith, may.free);
    clear = λ i leads. over_later (end_at c i) _ _ m n (omega arith) (may.clear i leads);
  }

  is_waiting_at : (s : Stage) → is_waiting s ≡ true → s ≡ Waiting
  is_waiting_at Waiting h = refl
  is_waiting_at (Running start) h = absurd (false≢true h)
  is_waiting_at (Ended start end) h = absurd (false≢true h)

  over_by : (s : Stage) (t m : ℕ) → is_waiting s ≢ true → is_running s ≡ false
      → IfSome (end_in s) (λ end. end + t ≤ m) → IsSomeAnd (end_in s) (λ end. end + t ≤ m)
  over_by Waiting t m waits runs low = absurd (waits refl)
  over_by (Running start) t m waits runs low = absurd (false≢true (sym runs))
  over_by (Ended start end) t m waits runs low = low

  goes_on : IsQuiet c → 0 < left c → running c ≡ 0 → GoesOn c
  goes_on quiet some none =
      let n = length c.inst.tasks in
      let first = some_passes is_waiting c.stages Waiting some in
      let best = least_of (λ j. is_waiting (stage_of c j)) (start_of c.plan) n first.at
      (omega (arith, first.inside, same)) first.passes in
      let j = best.at in
      let clear = λ (i : ℕ) (leads : Leads c.inst c.plan i j).
      over_by (stage_of c i) (gap c.inst c.plan i j) (latest c)
      (λ waits. absurd (omega (arith, best.least i leads.leader waits, leads.sooner)))
      (none_in is_running c.stages i Waiting (omega (arith, leads.leader, same)) none)
      (behind_each (end_at c) n i (over_tasks c (free_of c.inst c.plan)) (gap c.inst c.plan i j)
      (greatest_gap c) leads.leader
      (omega (
        arith,
        le_greatest (λ i. over_tasks c (gap c.inst c.plan i)) i 0 n (omega arith) (omega (arith, leads.leader)),
        le_greatest (gap c.inst c.plan i) j 0 n (omega arith) (omega (arith, leads.led)),
      ))) in
      let may : MayStart c (latest c) j = record {
        task = best.inside;
        waits = is_waiting_at (stage_of c j) best.passes;
        free = omega (
          arith,
          le_greatest (free_of c.inst c.plan) j 0 n (omega arith) (omega (arith, best.inside)),
          behind_free (last_end c) (over_tasks c (free_of c.inst c.plan)) (greatest_gap c),
        );
        clear = clear;
      } in
      elim (cases_lt c.clock (latest c)) [
        | inl soon ↦ record { soon = soon; task = j; may = may }
        | inr late ↦ absurd (quiet j (may_later (latest c) c.clock j late may))
      ]

  pub keeps_of : ((j : ℕ) → IsSpan c.clock (stage_of c j))
      → ((j : ℕ) → IfSome (start_at c j) (λ start. free_of c.inst c.plan j ≤ start))
      → ((i j : ℕ) → Leads c.inst c.plan i j → IfSome (start_at c j) (IsOver c i (gap c.inst c.plan i j)))
      → IsCourse c
  keeps_of spans starts order = record {
    valid = valid;
    feasible = feasible;
    stages = same;
    keeps = record {
      stages = same;
      spans = spans;
      starts = starts;
      order = order;
      before = λ i j is. if_then (start_at c j) (IsOver c i (gap c.inst c.plan i j)) (IsOver c i 0)
          (λ start _ over. over_later (end_at c i) _ _ start start (omega arith) over)
          (order i j (before_leads c.inst c.plan valid feasible i j is));
      clear = λ i j first second differ tied some other. elim
          (one_leads c.inst c.plan valid feasible i j first second differ tied) [
            | inl leads ↦
                inl (and_of (start_at c j) (IsOver c i (gap c.inst c.plan i j)) other (order i j leads))
            | inr leads ↦
                inr (and_of (start_at c i) (IsOver c j (gap c.inst c.plan j i)) some (order j i leads))
          ];
      goes_on = goes_on;
    };
  }

-- ---- the opening

pub none_started : (n j : ℕ) → slice_index_or (replicate n Waiting) j Waiting ≡ Waiting
none_started zero j = refl
none_started (suc n) zero = refl
none_started (suc n) (suc j) = none_started n j

pub opens : (inst : InstanceView) (plan : List Slot) → Valid inst → Feasible inst plan
    → IsCourse (opening inst plan)
opens inst plan valid feasible =
    let waits = λ (j : ℕ). none_started (length inst.tasks) j in
    keeps_of (opening inst plan) valid feasible (length-replicate (length inst.tasks) Waiting)
    (λ j. rw (waits j) tt) (λ j. rw (waits j) tt) (λ i j leads. rw (waits j) tt)

-- ---- a start

module _ (c : Course) (is : IsCourse c) where
  abbrev n : ℕ
  n = length c.inst.tasks

  -- now is later
  pub goes_later : (to : ℕ) → c.clock ≤ to → IsCourse (record c { clock = to })
  goes_later to from = keeps_of (record c { clock = to }) is.valid is.feasible is.stages
      (λ j. span_later (stage_of c j) c.clock to from (is.keeps.spans j)) is.keeps.starts is.keeps.order

  pub end_started : (task m : ℕ) → MayStart c m task → (i : ℕ) → end_at (started c m task) i ≡ end_at c i
  end_started task m may i = elim (stage_set c.stages task i (Running m) (omega (arith, may.task, is.stages))) [
    | inl at ↦ ap end_in at.1 ∙ sym (ap end_in (ap (stage_of c) (sym at.0) ∙ may.waits))
    | inr other ↦ ap end_in other.1
  ]

  pub goes_started : (task m : ℕ) → c.clock ≤ m → MayStart c m task → IsCourse (started c m task)
  goes_started task m from may =
      let new = started c m task in
      let inside : task < length c.stages = omega (arith, may.task, is.stages) in
      let over = λ (i t s : ℕ) (h : IsOver c i t s). subst (λ (o : Option ℕ). IsSomeAnd o (λ end. end + t ≤ s))
      (sym (end_started task m may i)) h in
      keeps_of new is.valid is.feasible (length-set c.stages task (Running m) ∙ is.stages)
      (λ j. elim (stage_set c.stages task j (Running m) inside) [
        | inl at ↦ rw (at.1) (omega arith)
        | inr other ↦ rw (other.1) (span_later (stage_of c j) c.clock m from (is.keeps.spans j))
      ])
      (λ j. elim (stage_set c.stages task j (Running m) inside) [
        | inl at ↦ rw (at.1, ← at.0) may.free
        | inr other ↦ rw (other.1) (is.keeps.starts j)
      ])
      (λ i j leads. elim (stage_set c.stages task j (Running m) inside) [
        | inl at ↦ rw (at.1) (over i (gap c.inst c.plan i j) m
            (subst (λ (k : ℕ). IsOver c i (gap c.inst c.plan i k) m) at.0
            (may.clear i (subst (Leads c.inst c.plan i) (sym at.0) leads))))
        | inr other ↦ rw (other.1) (if_then (start_at c j) (IsOver c i (gap c.inst c.plan i j))
            (IsOver new i (gap c.inst c.plan i j))
            (λ start _ h. over i (gap c.inst c.plan i j) start h) (is.keeps.order i j leads))
      ])

  -- ---- an end

  module _ (task start : ℕ) (inside : task < length c.inst.tasks) (ran : stage_of c task ≡ Running start) where
    abbrev ended : Course
    ended = record c { stages = slice_set c.stages task (Ended start c.clock) }

    start_ended : (j : ℕ) → start_at ended j ≡ start_at c j
    start_ended j = elim (stage_set c.stages task j (Ended start c.clock) (omega (arith, inside, is.stages))) [
      | inl at ↦ ap start_in at.1 ∙ sym (ap start_in (ap (stage_of c) (sym at.0) ∙ ran))
      | inr other ↦ ap start_in other.1
    ]

    over_ended : (i t s : ℕ) → IsOver c i t s → IsOver ended i t s
    over_ended i t s over =
        elim (stage_set c.stages task i (Ended start c.clock) (omega (arith, inside, is.stages))) [
          | inl at ↦ absurd (subst (λ (o : Option ℕ). IsSomeAnd o (λ end. end + t ≤ s))
              (ap end_in (ap (stage_of c) (sym at.0) ∙ ran)) over)
          | inr other ↦
              subst (λ (o : Option ℕ). IsSomeAnd o (λ end. end + t ≤ s)) (sym (ap end_in other.1)) over
        ]

    pub goes_ended : IsCourse ended
    goes_ended =
        keeps_of ended is.valid is.feasible (length-set c.stages task (Ended start c.clock) ∙ is.stages)
        (λ j. elim (stage_set c.stages task j (Ended start c.clock) (omega (arith, inside, is.stages))) [
          | inl at ↦ rw (at.1) (subst (IsSpan c.clock) ran (is.keeps.spans task), omega arith)
          | inr other ↦ rw (other.1) (is.keeps.spans j)
        ])
        (λ j. subst (λ (o : Option ℕ). IfSome o (λ s. free_of c.inst c.plan j ≤ s)) (sym (start_ended j))
        (is.keeps.starts j))
        (λ i j leads. subst (λ (o : Option ℕ). IfSome o (IsOver ended i (gap c.inst c.plan i j)))
        (sym (start_ended j))
        (if_then (start_at c j) (IsOver c i (gap c.inst c.plan i j)) (IsOver ended i (gap c.inst c.plan i j))
        (λ s _ h. over_ended i (gap c.inst c.plan i j) s h) (is.keeps.order i j leads)))
