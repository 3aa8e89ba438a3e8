-- Tasks passed one after the other are all passed.
use Rattle.std.proofs.Common.{◌≡◌, ◌≢◌, ℕ, ◌+◌, ◌*◌, ◌<◌, ◌≤◌, ◌↔◌, inl, inr, Bool, true, false, List, length, Option, None, Some, IfSome, slice_index, refl, ap, sym, subst, ◌∙◌, arith}
use Rattle.std.specs.List.{count_by}
use Rattle.std.proofs.lemmas.Bool.{both_ways, cases_Bool, cases_eq, cases_lt}
use Rattle.std.proofs.lemmas.Grind.{get_or-set_at}
use Rattle.std.proofs.lemmas.List.{get_or-set_other, length-set}
use Rattle.std.proofs.lemmas.List.Sums.{count_by-le-length, sum_by-set}
use Rattle.qc_dispatch.specs.Order.{Leads}
use Rattle.qc_model.specs.declared.schedule.Slot.{Slot}
use Rattle.qc_model.specs.Instance.{InstanceView, ticks_of}
use Rattle.qc_model.specs.Numbers.{most_tasks}
use Rattle.qc_model.specs.Rules.{start_of}
use Rattle.qc_rest.specs.declared.pass.Pass.{Pass}
use Rattle.qc_rest.specs.Passed.{IsStep, LetsBy}
use Rattle.qc_rest.specs.Passing.{ArePassed, EndBy, HasRoom, IsBegin, IsPassed, IsSoonest, IsSoonestOf, MayBy, StartBy, end_in, is_open, most_step}
use Rattle.qc_rest.proofs.NumberLemmas.{tally}

-- how many tasks are still to be passed
abbrev pub open_count : List Bool → ℕ
open_count left = count_by (λ b. b) left

-- ---- the soonest

pub soonest_found : (plan : List Slot) (left : List Bool) (n : ℕ) (found : Option ℕ) → IsSoonest plan left n found
    → is_open left n ≡ true → IfSome found (λ i. start_of plan n < start_of plan i) → IsSoonest plan left (n + 1) (Some n)
soonest_found plan left n None none is sooner = record {
  inside = omega arith;
  is = is;
  soonest = λ i low h. elim (cases_eq i n) [
    | inl same ↦ omega (arith, ap (start_of plan) same)
    | inr other ↦ absurd (both_ways (is_open left i) (none i (omega arith)) h)
  ];
}
soonest_found plan left n (Some f) before is sooner = record {
  inside = omega arith;
  is = is;
  soonest = λ i low h. elim (cases_eq i n) [
    | inl same ↦ omega (arith, ap (start_of plan) same)
    | inr other ↦ omega (arith, before.soonest i (omega arith) h, sooner)
  ];
}

pub soonest_stays : (plan : List Slot) (left : List Bool) (n : ℕ) (found : Option ℕ) → IsSoonest plan left n found
    → ((is_open left n ≡ true) × IfSome found (λ i. start_of plan n < start_of plan i) → ⊥) → IsSoonest plan left (n + 1) found
soonest_stays plan left n None none not = λ j low. elim (cases_eq j n) [
  | inl same ↦ elim (cases_Bool (is_open left j)) [
    | inl h ↦ absurd (not (sym (ap (is_open left) same) ∙ h, tt))
    | inr h ↦ h
  ]
  | inr other ↦ none j (omega arith)
]
soonest_stays plan left n (Some f) before not = record {
  inside = omega (arith, before.inside);
  is = before.is;
  soonest = λ i low h. elim (cases_eq i n) [
    | inl same ↦ elim (cases_lt (start_of plan n) (start_of plan f)) [
      | inl less ↦ absurd (not (sym (ap (is_open left) same) ∙ h, less))
      | inr le ↦ omega (arith, le, ap (start_of plan) same)
    ]
    | inr other ↦ before.soonest i (omega arith) h
  ];
}

-- ---- one task

module _ (inst : InstanceView) (plan : List Slot) (ends : List (Option ℕ)) (first j : ℕ) where
  -- by this moment the first n tasks let task j start
  pub record MayFor (n moment : ℕ) : Type 0 where
    pub from : first ≤ moment
    pub clear : (i : ℕ) → i < n → LetsBy inst plan ends i j moment

  abbrev pub IsDue : (n due : ℕ) → Type 0
  IsDue n due = (moment : ℕ) → (due ≤ moment) ↔ MayFor n moment

  pub due_first : IsDue 0 first
  due_first moment = (λ le. record { from = le; clear = λ i low. absurd (omega arith) }, λ may. may.from)

  pub due_more : (n due lets after : ℕ) → ((moment : ℕ) → (lets ≤ moment) ↔ LetsBy inst plan ends n j moment)
      → ((moment : ℕ) → (after ≤ moment) ↔ ((due ≤ moment) × (lets ≤ moment))) → IsDue n due → IsDue (n + 1) after
  due_more n due lets after let_is after_is is moment = (
    λ le.
        let both = (after_is moment).0 le in
        let may : MayFor n moment = (is moment).0 both.0 in record {
          from = may.from;
          clear = λ i low. elim (cases_eq i n) [
            | inl same ↦ subst (λ (k : ℕ). LetsBy inst plan ends k j moment) (sym same) ((let_is moment).0 both.1)
            | inr other ↦ may.clear i (omega arith)
          ];
        },
    λ may. (after_is moment).1 (
      (is moment).1 (record { from = may.from; clear = λ i low. may.clear i (omega arith) }),
      (let_is moment).1 (may.clear n (omega arith)),
    ),
  )

  pub due_all : (n due : ℕ) → length inst.tasks ≤ n → IsDue n due → IsBegin inst plan first ends j due
  due_all n due all is moment = (
    λ le. let may : MayFor n moment = (is moment).0 le in record {
      from = may.from;
      clear = λ i end leads e. may.clear i (omega (arith, all, leads.leader)) leads end e;
    },
    λ may. (is moment).1 (record { from = may.from; clear = λ i low leads end e. may.clear i end leads e }),
  )

-- ---- all tasks

module _ (inst : InstanceView) (plan : List Slot) (old : Pass) where
  -- some tasks are passed, and all that lead them too
  pub record IsGoing (p : Pass) : Type 0 where
    pub room : HasRoom inst p
    pub shut : (j : ℕ) → is_open old.left.items j ≡ false → is_open p.left.items j ≡ false
    pub still : (j : ℕ) → is_open p.left.items j ≡ true → slice_index p.starts.items j ≡ slice_index old.starts.items j
    pub passed : (j : ℕ) → j < length inst.tasks → is_open old.left.items j ≡ true → is_open p.left.items j ≡ false
        → IsPassed inst plan (slice_index old.starts.items j) p j
    pub behind : (j : ℕ) → j < length inst.tasks → is_open old.left.items j ≡ true → is_open p.left.items j ≡ false
        → (i : ℕ) → Leads inst plan i j → is_open p.left.items i ≡ false
    pub others : (j : ℕ) → is_open old.left.items j ≡ false → end_in p.ends.items j ≡ end_in old.ends.items j
    pub turns : ℕ
    pub few : turns + open_count p.left.items ≤ most_tasks
    pub soon : (base : ℕ) → StartBy old.starts.items base → EndBy old.ends.items base
        → StartBy p.starts.items (base + turns * most_step) × EndBy p.ends.items (base + turns * most_step)

  pub none_passed : length inst.tasks ≤ most_tasks → HasRoom inst old → IsGoing old
  none_passed few room = record {
    room = room;
    shut = λ j h. h;
    still = λ j h. refl;
    passed = λ j low is shut. absurd (both_ways (is_open old.left.items j) shut is);
    behind = λ j low is shut. absurd (both_ways (is_open old.left.items j) shut is);
    others = λ j h. refl;
    turns = 0;
    few = omega (arith, few, room.left, count_by-le-length (λ (b : Bool). b) old.left.items);
    soon = λ base starts ends. (λ j. omega (arith, starts j), λ j end e. omega (arith, ends j end e));
  }

  module _ (p : Pass) (j : ℕ) (after : Pass) (going : IsGoing p) (soonest : IsSoonestOf plan p.left.items (length p.left.items) j)
      (step : IsStep inst plan p j after) where
    low : j < length inst.tasks
    low = omega (arith, soonest.inside, going.room.left)

    open_here : is_open after.left.items j ≡ false
    open_here = ap (λ (xs : List Bool). is_open xs j) step.left ∙ get_or-set_at p.left.items j j false false refl soonest.inside

    open_other : (i : ℕ) → i ≢ j → is_open after.left.items i ≡ is_open p.left.items i
    open_other i differ = ap (λ (xs : List Bool). is_open xs i) step.left ∙ get_or-set_other p.left.items j i false false differ

    start_here : slice_index after.starts.items j ≡ step.start
    start_here = ap (λ (xs : List ℕ). slice_index xs j) step.starts ∙ get_or-set_at p.starts.items j j step.start 0 refl (omega (arith, low, going.room.starts))

    start_other : (i : ℕ) → i ≢ j → slice_index after.starts.items i ≡ slice_index p.starts.items i
    start_other i differ = ap (λ (xs : List ℕ). slice_index xs i) step.starts ∙ get_or-set_other p.starts.items j i step.start 0 differ

    end_here : end_in after.ends.items j ≡ Some (step.start + ticks_of inst j)
    end_here =
        ap (λ (xs : List (Option ℕ)). end_in xs j) step.ends
        ∙ get_or-set_at p.ends.items j j (Some (step.start + ticks_of inst j)) None refl (omega (arith, low, going.room.ends))

    end_other : (i : ℕ) → i ≢ j → end_in after.ends.items i ≡ end_in p.ends.items i
    end_other i differ =
        ap (λ (xs : List (Option ℕ)). end_in xs i) step.ends
        ∙ get_or-set_other p.ends.items j i (Some (step.start + ticks_of inst j)) None differ

    shut_stays : (i : ℕ) → is_open p.left.items i ≡ false → is_open after.left.items i ≡ false
    shut_stays i h = elim (cases_eq i j) [
      | inl same ↦ ap (is_open after.left.items) same ∙ open_here
      | inr other ↦ open_other i other ∙ h
    ]

    not_shut : (i : ℕ) → is_open p.left.items i ≡ false → i ≢ j
    not_shut i h same = both_ways (is_open p.left.items i) h (ap (is_open p.left.items) same ∙ soonest.is)

    not_open : (i : ℕ) → is_open after.left.items i ≡ true → i ≢ j
    not_open i h same = both_ways (is_open after.left.items i) (ap (is_open after.left.items) same ∙ open_here) h

    -- what leads the task was passed
    led_shut : (i : ℕ) → Leads inst plan i j → is_open p.left.items i ≡ false
    led_shut i leads = elim (cases_Bool (is_open p.left.items i)) [
      | inr h ↦ h
      | inl h ↦ absurd (omega (arith, leads.sooner, soonest.soonest i (omega (arith, leads.leader, going.room.left)) h))
    ]

    -- a task that the new one doesn't lead begins when it did
    begin_stays : (first k s : ℕ) → ((i : ℕ) → Leads inst plan i k → i ≢ j) → IsBegin inst plan first p.ends.items k s
        → IsBegin inst plan first after.ends.items k s
    begin_stays first k s apart is moment = (
      λ le. let may : MayBy inst plan first p.ends.items k moment = (is moment).0 le in record {
        from = may.from;
        clear = λ i end leads e. may.clear i end leads (sym (end_other i (apart i leads)) ∙ e);
      },
      λ may. (is moment).1 (record {
        from = may.from;
        clear = λ i end leads e. may.clear i end leads (end_other i (apart i leads) ∙ e);
      }),
    )

    passed_here : IsPassed inst plan (slice_index old.starts.items j) after j
    passed_here = record {
      start = subst (λ (s : ℕ). IsBegin inst plan (slice_index old.starts.items j) after.ends.items j s) (sym start_here)
          (begin_stays (slice_index old.starts.items j) j step.start (λ i leads. not_shut i (led_shut i leads))
          (subst (λ (f : ℕ). IsBegin inst plan f p.ends.items j step.start) (going.still j soonest.is) step.is));
      end = end_here ∙ ap (λ (s : ℕ). Some (s + ticks_of inst j)) (sym start_here);
    }

    passed_other : (i : ℕ) → i ≢ j → i < length inst.tasks → is_open old.left.items i ≡ true → is_open p.left.items i ≡ false
        → IsPassed inst plan (slice_index old.starts.items i) after i
    passed_other i other inside was shut =
        let before = going.passed i inside was shut in record {
          start = subst (λ (s : ℕ). IsBegin inst plan (slice_index old.starts.items i) after.ends.items i s) (sym (start_other i other))
              (begin_stays (slice_index old.starts.items i) i (slice_index p.starts.items i)
              (λ k leads. not_shut k (going.behind i inside was shut k leads)) before.start);
          end = end_other i other ∙ before.end ∙ ap (λ (s : ℕ). Some (s + ticks_of inst i)) (sym (start_other i other));
        }

    fewer : open_count after.left.items + 1 ≡ open_count p.left.items
    fewer =
        let moved = sum_by-set (λ (b : Bool). tally b) p.left.items j false false soonest.inside in
        let e = ap open_count step.left in
        omega (arith, moved, e, ap tally soonest.is)

    some_end : (i end : ℕ) → end_in after.ends.items i ≡ Some end → i ≡ j → end ≡ step.start + ticks_of inst j
    some_end i end e same =
        let here : end_in after.ends.items j ≡ Some end = sym (ap (end_in after.ends.items) same) ∙ e in
        cc (here, end_here)

    pub next_going : IsGoing after
    next_going = record {
      room = record {
        left = ap length step.left ∙ length-set p.left.items j false ∙ going.room.left;
        starts = ap length step.starts ∙ length-set p.starts.items j step.start ∙ going.room.starts;
        ends = ap length step.ends ∙ length-set p.ends.items j (Some (step.start + ticks_of inst j)) ∙ going.room.ends;
      };
      shut = λ i h. shut_stays i (going.shut i h);
      still = λ i h. start_other i (not_open i h) ∙ going.still i (sym (open_other i (not_open i h)) ∙ h);
      passed = λ i inside was shut. elim (cases_eq i j) [
        | inl same ↦ subst (λ (k : ℕ). IsPassed inst plan (slice_index old.starts.items k) after k) (sym same) passed_here
        | inr other ↦ passed_other i other inside was (sym (open_other i other) ∙ shut)
      ];
      behind = λ i inside was shut k leads. elim (cases_eq i j) [
        | inl same ↦ shut_stays k (led_shut k (subst (λ (m : ℕ). Leads inst plan k m) same leads))
        | inr other ↦ shut_stays k (going.behind i inside was (sym (open_other i other) ∙ shut) k leads)
      ];
      others = λ i was. end_other i (not_shut i (going.shut i was)) ∙ going.others i was;
      turns = going.turns + 1;
      few = omega (arith, going.few, fewer);
      soon = λ base starts ends.
          let before = going.soon base starts ends in
          let start = step.soon (base + going.turns * most_step) (before.0 j) before.1 in (
            λ i. elim (cases_eq i j) [
              | inl same ↦ omega (arith, start, start_here, ap (slice_index after.starts.items) same)
              | inr other ↦ omega (arith, start_other i other, before.0 i)
            ],
            λ i end e. elim (cases_eq i j) [
              | inl same ↦ omega (arith, start, step.long, some_end i end e same)
              | inr other ↦ omega (arith, before.1 i end (sym (end_other i other) ∙ e))
            ],
          );
    }

    pub fewer_open : open_count after.left.items < open_count p.left.items
    fewer_open = omega (arith, fewer)

  pub all_passed : (p : Pass) → IsGoing p → IsSoonest plan p.left.items (length p.left.items) None → ArePassed inst plan old p
  all_passed p going none = record {
    room = going.room;
    passed = λ j low was. going.passed j low was (none j (omega (arith, low, going.room.left)));
    others = going.others;
    soon = λ base starts ends.
        let before = going.soon base starts ends in
        (λ j. omega (arith, before.0 j, going.few), λ j end e. omega (arith, before.1 j end e, going.few));
  }

  -- no start and no end is ever later than this
  pub in_time : (p : Pass) (base : ℕ) → IsGoing p → StartBy old.starts.items base → EndBy old.ends.items base
      → StartBy p.starts.items (base + most_tasks * most_step) × EndBy p.ends.items (base + most_tasks * most_step)
  in_time p base going starts ends =
      let before = going.soon base starts ends in
      (λ j. omega (arith, before.0 j, going.few), λ j end e. omega (arith, before.1 j end e, going.few))
