-- What runs come to, one run more at a time.
use Rattle.std.proofs.Common.{Global, Vec, vec_capacity, ◌≡◌, ℕ, zero, suc, ◌+◌, ◌-◌, ◌<◌, ◌≤◌, ◌^◌, ◌⊎◌, inl, inr, Bool, cond, List, [], ◌∷◌, ◌++◌, length, map, get_or, slice_index, count_by, sum, sum_by, All, refl, sym, ap, subst, ◌∙◌, arith}
use Rattle.std.specs.List.Sorted.{IsPermutation, IsSorted}
use Rattle.std.specs.Ordering.{nat_cmp}
use Rattle.std.proofs.Math.Seq.{get_or-append_right, get_or-append_seam}
use Rattle.std.proofs.lemmas.Bool.{cases_lt}
use Rattle.std.proofs.lemmas.List.{get_or_append_left, get_or_default, get_or-replicate, length-append, length-map, length-replicate, map-append}
use Rattle.std.proofs.lemmas.List.Sums.{sum_by-append, sum_by-cons, sum_by-le}
use Rattle.std.proofs.lemmas.List.Sorted.{sum_by-IsPermutation}
use Rattle.qc_model.specs.declared.schedule.Slot.{Slot}
use Rattle.qc_model.specs.Instance.{InstanceView}
use Rattle.qc_past.specs.declared.task.PastTask.{PastTask}
use Rattle.qc_odds.specs.Added.{crane_added, one_of, task_added}
use Rattle.qc_odds.specs.Course.{IsLastEnd}
use Rattle.qc_odds.specs.Lengths.{AreLengths}
use Rattle.qc_odds.specs.Moments.{AreSoon, most_end}
use Rattle.qc_odds.specs.Odds.{AreOdds, AreSmall}
use Rattle.qc_odds.specs.Simulated.{AddsRun, HasNone, HasRuns}
use Rattle.qc_odds.specs.Small.{AreSmallCranes, AreSmallTasks, IsSmallCrane, IsSmallTask}
use Rattle.qc_odds.specs.Sums.{AreRuns, AreSums, IsRun, Run, crane_sum, no_crane_sum, no_run, no_task_sum, task_sum}
use Rattle.qc_odds.specs.Watched.{AreWorst}
use Rattle.qc_odds.specs.declared.odds.Odds.{Odds}
use Rattle.qc_odds.specs.declared.sums.CraneSum.{CraneSum}
use Rattle.qc_odds.specs.declared.sums.TaskSum.{TaskSum}

sum_end : (f : Run → ℕ) (runs : List Run) (run : Run) → sum_by f (runs ++ run ∷ []) ≡ sum_by f runs + f run
sum_end f runs run =
    let one = sum_by-append f runs (run ∷ []) in
    let here : sum_by f (run ∷ []) ≡ f run + 0 = sum_by-cons f run [] in
    omega (arith, one, here)

count_end : (p : Run → Bool) (runs : List Run) (run : Run) → count_by p (runs ++ run ∷ []) ≡ count_by p runs + one_of (p run)
count_end p runs run = sum_end (λ r. cond (p r) 1 0) runs run

crane_same : (a b c d e f : ℕ) → a ≡ b → c ≡ d → e ≡ f
    → ◌≡◌ {A = CraneSum} (record { ends = a; held = c; lasts = e }) (record { ends = b; held = d; lasts = f })
crane_same a b c d e f x y z =
    ap (λ (n : ℕ). let s : CraneSum = record { ends = n; held = c; lasts = e } in s) x
    ∙ ap (λ (n : ℕ). let s : CraneSum = record { ends = b; held = n; lasts = e } in s) y
    ∙ ap (λ (n : ℕ). let s : CraneSum = record { ends = b; held = d; lasts = n } in s) z

task_same : (a b c d : ℕ) → a ≡ b → c ≡ d
    → ◌≡◌ {A = TaskSum} (record { critical = a; over = c }) (record { critical = b; over = d })
task_same a b c d x y =
    ap (λ (n : ℕ). let s : TaskSum = record { critical = n; over = c } in s) x
    ∙ ap (λ (n : ℕ). let s : TaskSum = record { critical = b; over = n } in s) y

module _ (inst : InstanceView) (plan : List Slot) (runs : List Run) (run : Run) where
  crane_more : (k : ℕ) → crane_sum inst plan (runs ++ run ∷ []) k
      ≡ crane_added inst plan run.lengths run.starts run.last k (crane_sum inst plan runs k)
  crane_more k = crane_same _ _ _ _ _ _ (sum_end _ runs run) (sum_end _ runs run) (count_end _ runs run)

  task_more : (j : ℕ) → task_sum inst (runs ++ run ∷ []) j ≡ task_added inst run.lengths run.marked j (task_sum inst runs j)
  task_more j = task_same _ _ _ _ (count_end _ runs run) (sum_end _ runs run)

-- the runs of a seed, and the next
runs_more : (past : List PastTask) (inst : InstanceView) (plan : List Slot) (seed : ℕ) (runs : List Run) (run : Run)
    → AreRuns past inst plan seed runs → IsRun past inst plan seed (length runs + 1) run → AreRuns past inst plan seed (runs ++ run ∷ [])
runs_more past inst plan seed runs run are next n low = elim (cases_lt n (length runs)) [
  | inl before ↦ subst (IsRun past inst plan seed (n + 1)) (sym (get_or_append_left runs (run ∷ []) no_run n before)) (are n before)
  | inr here ↦
      let same : n ≡ length runs = omega (arith, here, low, length-append runs (run ∷ [])) in
      subst (λ (k : ℕ). IsRun past inst plan seed (k + 1) (get_or (runs ++ run ∷ []) k no_run)) (sym same)
      (subst (IsRun past inst plan seed (length runs + 1)) (sym (get_or-append_seam runs run [] no_run)) next)
]

module _ (past : List PastTask) (inst : InstanceView) (plan : List Slot) (seed room : ℕ) where
  -- ---- no run is over
  module _ (odds : Odds) (is : HasNone inst room odds) where
    crane_none : (k : ℕ) → k < length inst.cranes → get_or odds.cranes.items k no_crane_sum ≡ no_crane_sum
    crane_none k low = ap (λ (x : List CraneSum). get_or x k no_crane_sum) is.cranes ∙ get_or-replicate (length inst.cranes) k no_crane_sum no_crane_sum low

    task_none : (j : ℕ) → j < length inst.tasks → get_or odds.tasks.items j no_task_sum ≡ no_task_sum
    task_none j low = ap (λ (x : List TaskSum). get_or x j no_task_sum) is.tasks ∙ get_or-replicate (length inst.tasks) j no_task_sum no_task_sum low

    crane_count : length odds.cranes.items ≡ length inst.cranes
    crane_count = ap length is.cranes ∙ length-replicate (length inst.cranes) no_crane_sum

    task_count : length odds.tasks.items ≡ length inst.tasks
    task_count = ap length is.tasks ∙ length-replicate (length inst.tasks) no_task_sum

    pub none_run : HasRuns past inst plan seed 0 room odds
    none_run = record {
      runs = [];
      number = refl;
      are = λ n low. absurd (omega arith);
      ends = is.ends;
      sums = record { crane_count = crane_count; each_crane = crane_none; task_count = task_count; each_task = task_none };
      small_ends = λ n. subst (λ (x : List ℕ). get_or x n 0 ≤ most_end) (sym is.ends) (omega arith);
      small_cranes = λ k low. subst (IsSmallCrane 0) (sym (crane_none k (omega (arith, low, crane_count)))) (record { ends = omega arith; held = omega arith; lasts = omega arith });
      small_tasks = λ j low. subst (IsSmallTask 0) (sym (task_none j (omega (arith, low, task_count)))) (record { critical = omega arith; over = omega arith });
      room_is = is.room_is;
      watched = is.watched;
      watch_room = is.watch_room;
    }

  -- ---- one run more
  module _ (count : ℕ) (old new : Odds) (run : Run) (has : HasRuns past inst plan seed count room old)
      (next : IsRun past inst plan seed (count + 1) run) (early : run.last ≤ most_end)
      (adds : AddsRun inst plan run.lengths run.starts run.last run.marked old new) where
    abbrev runs : List Run
    runs = has.runs

    small_more : (n : ℕ) → slice_index new.tally.ends n ≤ most_end
    small_more n = subst (λ (x : List ℕ). get_or x n 0 ≤ most_end) (sym adds.ends) (by (cases_lt n (length old.tally.ends)))
      where
        by : (n < length old.tally.ends) ⊎ (length old.tally.ends ≤ n) → get_or (old.tally.ends ++ run.last ∷ []) n 0 ≤ most_end
        by (inl before) = omega (arith, get_or_append_left old.tally.ends (run.last ∷ []) 0 n before, has.small_ends n)
        by (inr from) = omega (arith, get_or-append_right old.tally.ends (run.last ∷ []) n 0 from, one (n - length old.tally.ends))
          where
            one : (i : ℕ) → get_or (run.last ∷ []) i 0 ≤ most_end
            one zero = early
            one (suc i) = omega arith

    pub run_added : HasRuns past inst plan seed (count + 1) room new
    run_added = record {
      runs = has.runs ++ run ∷ [];
      number = omega (arith, length-append has.runs (run ∷ []), has.number);
      are = runs_more past inst plan seed has.runs run has.are (subst (λ (n : ℕ). IsRun past inst plan seed (n + 1) run) (sym has.number) next);
      ends = adds.ends ∙ ap (λ (x : List ℕ). x ++ run.last ∷ []) has.ends ∙ sym (map-append (λ (r : Run). r.last) has.runs (run ∷ []));
      sums = record {
        crane_count = adds.crane_count ∙ has.sums.crane_count;
        each_crane = λ k low.
            adds.each_crane k (omega (arith, low, adds.crane_count, has.sums.crane_count))
            ∙ ap (crane_added inst plan run.lengths run.starts run.last k) (has.sums.each_crane k low) ∙ sym (crane_more inst plan has.runs run k);
        task_count = adds.task_count ∙ has.sums.task_count;
        each_task = λ j low.
            adds.each_task j (omega (arith, low, adds.task_count, has.sums.task_count))
            ∙ ap (task_added inst run.lengths run.marked j) (has.sums.each_task j low) ∙ sym (task_more inst plan has.runs run j);
      };
      small_ends = small_more;
      small_cranes = adds.small_cranes count has.small_cranes;
      small_tasks = adds.small_tasks count has.small_tasks;
      room_is = adds.room ∙ has.room_is;
      watched = ap (λ (w : Vec ℕ Global). w.items) adds.watched ∙ has.watched;
      watch_room = ap (λ (w : Vec ℕ Global). vec_capacity w) adds.watched ∙ has.watch_room;
    }

  -- ---- no more runs come
  module _ (count : ℕ) (old new : Odds) (has : HasRuns past inst plan seed count room old) (few : count ≤ 10000)
      (sorted : IsSorted nat_cmp new.tally.ends) (same : IsPermutation old.tally.ends new.tally.ends)
      (cranes : new.cranes ≡ old.cranes) (tasks : new.tasks ≡ old.tasks) (worst : AreWorst new.tasks.items new.watched.items) where
    crane_items : new.cranes.items ≡ old.cranes.items
    crane_items = ap (λ (v : Vec CraneSum Global). v.items) cranes

    task_items : new.tasks.items ≡ old.tasks.items
    task_items = ap (λ (v : Vec TaskSum Global). v.items) tasks

    pub runs_told : AreOdds past inst plan seed count new
    runs_told = record {
      runs = has.runs;
      number = has.number;
      are = has.are;
      ends = subst (λ (x : List ℕ). IsPermutation x new.tally.ends) has.ends same;
      sorted = sorted;
      sums = subst (λ (x : List CraneSum). AreSums inst plan has.runs x new.tasks.items) (sym crane_items)
          (subst (λ (x : List TaskSum). AreSums inst plan has.runs old.cranes.items x) (sym task_items) has.sums);
      watched = worst;
    }

    ends_count : length old.tally.ends ≡ count
    ends_count = ap length has.ends ∙ length-map has.runs (λ (r : Run). r.last) ∙ has.number

    sum_small : sum new.tally.ends < 2 ^ 64
    sum_small =
        let moved = sum_by-IsPermutation (λ (x : ℕ). x) old.tally.ends new.tally.ends same in
        let most = sum_by-le (λ (x : ℕ). x) most_end old.tally.ends (all_early old.tally.ends has.small_ends) in
        omega (arith, moved, most, ends_count, few)
      where
        all_early : (xs : List ℕ) → ((n : ℕ) → slice_index xs n ≤ most_end) → All (λ x. x ≤ most_end) xs
        all_early xs early n d low = omega (arith, get_or_default xs n d 0 low, early n)

    pub sums_small : AreSmall count new
    sums_small = record {
      ends = sum_small;
      cranes = subst (AreSmallCranes count) (sym crane_items) has.small_cranes;
      tasks = subst (AreSmallTasks count) (sym task_items) has.small_tasks;
    }

-- a run ends within limits
pub last_early : (inst : InstanceView) (lengths starts : List ℕ) (last : ℕ) → AreLengths inst lengths → AreSoon starts
    → length starts ≡ length inst.tasks → IsLastEnd lengths starts last → last ≤ most_end
last_early inst lengths starts last are soon count ends =
    (ends.each_by most_end).1 (λ j low. omega (arith, soon.each_one j, are.few j (omega (arith, low, count))))
