-- A table in which each place is changed once, in order.
use Rattle.std.proofs.Common.{◌≡◌, ℕ, ◌+◌, ◌<◌, ◌≤◌, ◌==◌, Bool, inl, inr, List, [], ◌∷◌, ◌++◌, length, get_or, set, refl, sym, ap, subst, ◌∙◌, arith}
use Rattle.std.specs.Vec.{with_items}
use Rattle.std.proofs.lemmas.Bool.{cases_eq, cond_both}
use Rattle.std.proofs.lemmas.Grind.{get_or-set_at}
use Rattle.std.proofs.lemmas.List.{get_or-set_other, length-set, with_items_is}
use Rattle.qc_model.specs.declared.schedule.Slot.{Slot}
use Rattle.qc_model.specs.Instance.{InstanceView}
use Rattle.qc_odds.specs.Added.{crane_added, task_added, with_crane_run}
use Rattle.qc_odds.specs.Moments.{most_end, most_held}
use Rattle.qc_odds.specs.Runs.{crane_end, held}
use Rattle.qc_odds.specs.Simulated.{AddsRun}
use Rattle.qc_odds.specs.Small.{AreSmallCranes, AreSmallTasks, IsSmallCrane}
use Rattle.qc_odds.specs.Sums.{no_crane_sum, no_task_sum}
use Rattle.qc_odds.specs.Tally.{TallyView}
use Rattle.qc_odds.specs.declared.odds.Odds.{Odds}
use Rattle.qc_odds.specs.declared.sums.CraneSum.{CraneSum}
use Rattle.qc_odds.specs.declared.sums.TaskSum.{TaskSum}

module _ {A : Type 0} (f : ℕ → A → A) (none : A) (old : List A) where
  -- the first n places are changed, all others are as they were
  pub record IsChanged (n : ℕ) (now : List A) : Type 0 where
    pub count : length now ≡ length old
    pub done : (i : ℕ) → i < n → get_or now i none ≡ f i (get_or old i none)
    pub left : (i : ℕ) → n ≤ i → get_or now i none ≡ get_or old i none

  pub none_changed : IsChanged 0 old
  none_changed = record { count = ap length (λ i. old); done = λ i low. absurd (omega arith); left = λ i from. ap (λ (x : List A). get_or x i none) (λ j. old) }

  pub next_changed : (n : ℕ) (now : List A) (v : A) → n < length old → IsChanged n now → v ≡ f n (get_or now n none)
      → IsChanged (n + 1) (set now n v)
  next_changed n now v low is new = record {
    count = length-set now n v ∙ is.count;
    done = λ i lt. elim (cases_eq i n) [
      | inl same ↦
          get_or-set_at now n i v none same (omega (arith, low, is.count)) ∙ new ∙ ap (f n) (is.left n (omega arith))
          ∙ ap (λ (k : ℕ). f k (get_or old k none)) (sym same)
      | inr other ↦ get_or-set_other now n i v none other ∙ is.done i (omega arith)
    ];
    left = λ i from. get_or-set_other now n i v none (λ same. omega (arith, same, from)) ∙ is.left i (omega arith);
  }

-- what holds of the first places of a list, with one more written
pub set_keeps : {A : Type 0} (P : A → Type 0) (none : A) (xs : List A) (n : ℕ) (v : A) → n < length xs
    → ((i : ℕ) → i < n → P (get_or xs i none)) → P v → (i : ℕ) → i < n + 1 → P (get_or (set xs n v) i none)
set_keeps P none xs n v low before this i lt = elim (cases_eq i n) [
  | inl same ↦ subst P (sym (get_or-set_at xs n i v none same low)) this
  | inr other ↦ subst P (sym (get_or-set_other xs n i v none other)) (before i (omega arith))
]

-- ---- one run more

pub crane_new : (inst : InstanceView) (plan : List Slot) (lengths starts : List ℕ) (last k end h : ℕ) (sum v : CraneSum)
    → end ≡ crane_end inst plan lengths starts k → h ≡ held inst plan lengths starts k → v ≡ with_crane_run sum end h (end == last)
    → v ≡ crane_added inst plan lengths starts last k sum
crane_new inst plan lengths starts last k end h sum v ends waits is =
    is ∙ ap (λ (e : ℕ). with_crane_run sum e h (e == last)) ends
    ∙ ap (λ (w : ℕ). with_crane_run sum (crane_end inst plan lengths starts k) w (crane_end inst plan lengths starts k == last)) waits

pub small_crane_more : (runs end h : ℕ) (sum v : CraneSum) (is : Bool) → IsSmallCrane runs sum → end ≤ most_end → h ≤ most_held
    → v ≡ with_crane_run sum end h is → IsSmallCrane (runs + 1) v
small_crane_more runs end h sum v is small ends waits e = subst (IsSmallCrane (runs + 1)) (sym e) (record {
  ends = omega (arith, small.ends, ends);
  held = omega (arith, small.held, waits);
  lasts = cond_both is 1 0 (λ n. sum.lasts + n ≤ runs + 1) (λ _. omega (arith, small.lasts)) (λ _. omega (arith, small.lasts));
})

-- the run is added to both tables
module _ (inst : InstanceView) (plan : List Slot) (lengths starts : List ℕ) (last : ℕ) (marked : List Bool) (old : Odds) (tally : TallyView)
    (oc cs : List CraneSum) (ot ts : List TaskSum) (oc_is : oc ≡ old.cranes.items) (ot_is : ot ≡ old.tasks.items)
    (cs_count : length cs ≡ length oc) (ts_count : length ts ≡ length ot) where
  cranes_are : (with_items old.cranes cs).items ≡ cs
  cranes_are = let same = ap length oc_is in with_items_is old.cranes cs (omega (arith, cs_count, same, old.cranes.ok.0))

  tasks_are : (with_items old.tasks ts).items ≡ ts
  tasks_are = let same = ap length ot_is in with_items_is old.tasks ts (omega (arith, ts_count, same, old.tasks.ok.0))

  pub adds_run : tally.ends ≡ old.tally.ends ++ last ∷ [] → tally.room ≡ old.tally.room
      → ((k : ℕ) → k < length cs → get_or cs k no_crane_sum ≡ crane_added inst plan lengths starts last k (get_or oc k no_crane_sum))
      → ((j : ℕ) → j < length ts → get_or ts j no_task_sum ≡ task_added inst lengths marked j (get_or ot j no_task_sum))
      → ((runs : ℕ) → AreSmallCranes runs oc → AreSmallCranes (runs + 1) cs) → ((runs : ℕ) → AreSmallTasks runs ot → AreSmallTasks (runs + 1) ts)
      → AddsRun inst plan lengths starts last marked old
      (record { tally = tally; cranes = with_items old.cranes cs; tasks = with_items old.tasks ts; watched = old.watched })
  adds_run ends room each_crane each_task small_cranes small_tasks = record {
    ends = ends;
    room = room;
    crane_count = ap length cranes_are ∙ cs_count ∙ ap length oc_is;
    each_crane = λ k low.
        let count = ap length cranes_are in
        ap (λ (xs : List CraneSum). get_or xs k no_crane_sum) cranes_are ∙ each_crane k (omega (arith, low, count))
        ∙ ap (λ (xs : List CraneSum). crane_added inst plan lengths starts last k (get_or xs k no_crane_sum)) oc_is;
    task_count = ap length tasks_are ∙ ts_count ∙ ap length ot_is;
    each_task = λ j low.
        let count = ap length tasks_are in
        ap (λ (xs : List TaskSum). get_or xs j no_task_sum) tasks_are ∙ each_task j (omega (arith, low, count))
        ∙ ap (λ (xs : List TaskSum). task_added inst lengths marked j (get_or xs j no_task_sum)) ot_is;
    small_cranes = λ runs small. subst (AreSmallCranes (runs + 1)) (sym cranes_are) (small_cranes runs (subst (AreSmallCranes runs) (sym oc_is) small));
    small_tasks = λ runs small. subst (AreSmallTasks (runs + 1)) (sym tasks_are) (small_tasks runs (subst (AreSmallTasks runs) (sym ot_is) small));
    watched = refl;
  }
