-- What past tasks keep, by the readings that they come of.
use Rattle.std.proofs.Common.{◌≡◌, ◌≢◌, ◌<◌, ◌≤◌, ◌+◌, ◌-◌, ◌++◌, ◌∷◌, ◌||◌, ℕ, List, [], length, drop, All, true, false, not, nat_le, nat_lt, Ok, sym, ap, subst, inl, inr, ◌∙◌, arith}
use Rattle.std.specs.List.{list_all, list_any}
use Rattle.std.proofs.lemmas.Bool.{and_from, and_parts, cases_eq, cases_lt, false≢true, le-leb, ltb-true, not-true, or_cases}
use Rattle.std.proofs.lemmas.List.{get_or-drop, get_or_append_left, get_or_default, length-drop, length_push}
use Rattle.std.proofs.Math.Seq.{get_or-append_seam}
use Rattle.std.proofs.lemmas.List.Folds.{list_any_at}
use Rattle.std.proofs.lemmas.List.Sums.{AllPass-from_list_all, list_all-from_AllPass}
use Rattle.std.proofs.lemmas.Slice.Eq.{bytes_eq-Decides}
use Rattle.qc_num.specs.Reading.{◌>>=◌, each, require}
use Rattle.qc_num.proofs.ReadingLemmas.{bind_ok, each-keeps, require_ok, same_ok, with_fault_ok}
use Rattle.qc_model.specs.Numbers.{most_tasks}
use Rattle.qc_past.specs.Past.{ArePast, IsPastTask, call_at, is_of, most_past, no_past, past_task}
use Rattle.qc_past.specs.PastFile.{beside, ends_with, next_task, task_after}
use Rattle.qc_past.specs.Tasks.{task_in}
use Rattle.qc_past.specs.declared.task.PastTask.{PastTask}
use Rattle.qc_past.specs.declared.fault.PastKind.TheVariants as kind

-- what is known of a task after others
record FollowsTasks (earlier : List PastTask) (task : PastTask) : Type 0 where
  few : length earlier < most_past
  full : ends_with most_tasks earlier task.call ≡ false
  beside_is : (ends_with 1 earlier task.call || not (list_any (is_of task.call) earlier)) ≡ true

task-follows : (earlier : List PastTask) (fields : List (List ℕ)) (task : PastTask) → task_after earlier fields ≡ Ok task → FollowsTasks earlier task
task-follows earlier fields task e =
    let (u, few, rest) = bind_ok (require (nat_lt (length earlier) most_past) kind.TooMany) (λ _. task_in fields >>= beside earlier) task e in
    let (found, read, kept) = bind_ok (task_in fields) (beside earlier) task rest in
    let (v, full, more) = bind_ok (require (not (ends_with most_tasks earlier found.call)) kind.CallFull)
    (λ _. require (ends_with 1 earlier found.call || not (list_any (is_of found.call) earlier)) kind.CallTwice >>= λ _. Ok found) task kept in
    let (w, apart, end) = bind_ok (require (ends_with 1 earlier found.call || not (list_any (is_of found.call) earlier)) kind.CallTwice) (λ _. Ok found) task more in
    subst (FollowsTasks earlier) (same_ok end) (record {
      few = ltb-true (length earlier) most_past (require_ok (nat_lt (length earlier) most_past) kind.TooMany u few);
      full = not-true (ends_with most_tasks earlier found.call) (require_ok (not (ends_with most_tasks earlier found.call)) kind.CallFull v full);
      beside_is = require_ok _ kind.CallTwice w apart;
    })

-- the tasks at places of a list, and of one with a task more
module _ (tasks : List PastTask) where
  is-of-at : (call : List ℕ) (i : ℕ) → call ≡ call_at tasks i → is_of call (past_task tasks i) ≡ true
  is-of-at call i same = (bytes_eq-Decides call (call_at tasks i)).1 same

  at-is-of : (call : List ℕ) (i : ℕ) → is_of call (past_task tasks i) ≡ true → call ≡ call_at tasks i
  at-is-of call i same = (bytes_eq-Decides call (call_at tasks i)).0 same

  at-old : (task : PastTask) (i : ℕ) → i < length tasks → call_at (tasks ++ task ∷ []) i ≡ call_at tasks i
  at-old task i lt = ap (λ (t : PastTask). t.call) (get_or_append_left tasks (task ∷ []) no_past i lt)

  at-new : (task : PastTask) → call_at (tasks ++ task ∷ []) (length tasks) ≡ task.call
  at-new task = ap (λ (t : PastTask). t.call) (get_or-append_seam tasks task [] no_past)

  -- the last tasks are of a call
  last-of : (n : ℕ) (call : List ℕ) → ends_with n tasks call ≡ true → (i : ℕ) → i < length tasks → length tasks ≤ i + n → call ≡ call_at tasks i
  last-of n call ends i lt within =
      let parts = and_parts (nat_le n (length tasks)) (list_all (is_of call) (drop (length tasks - n) tasks)) ends in
      let from = length tasks - n in
      let pass = AllPass-from_list_all (is_of call) (drop from tasks) parts.1 (i - from) no_past (let e = length-drop from tasks in omega arith) in
      let sum : from + (i - from) ≡ i = omega arith in
      at-is-of call i (rw (get_or-drop, sum) at pass)

  ends-of : (n : ℕ) (call : List ℕ) → n ≤ length tasks → ((i : ℕ) → i < length tasks → length tasks ≤ i + n → call ≡ call_at tasks i) → ends_with n tasks call ≡ true
  ends-of n call few all =
      and_from (nat_le n (length tasks)) (list_all (is_of call) (drop (length tasks - n) tasks)) (le-leb n (length tasks) few)
      (list_all-from_AllPass (is_of call) (drop (length tasks - n) tasks) (λ k d lt.
      let from = length tasks - n in
      let within : from + k < length tasks = let e = length-drop from tasks in omega arith in
      let here = is-of-at call (from + k) (all (from + k) within (omega arith)) in
      rw (get_or-drop, get_or_default tasks (from + k) d no_past within) here))

-- what the tasks so far keep
record KeepApart (tasks : List PastTask) : Type 0 where
  count : length tasks ≤ most_past
  together : (i j k : ℕ) → i < j → j < k → k < length tasks → call_at tasks i ≡ call_at tasks k → call_at tasks i ≡ call_at tasks j
  of_call : (i : ℕ) → i + most_tasks < length tasks → call_at tasks i ≢ call_at tasks (i + most_tasks)

none-kept : KeepApart []
none-kept = record {
  count = omega arith;
  together = λ i j k ij jk lt same. absurd (omega arith);
  of_call = λ i lt. absurd (omega arith);
}

module _ (tasks : List PastTask) (task : PastTask) (kept : KeepApart tasks) (follows : FollowsTasks tasks task) where
  -- an earlier task is of the call: then the last one is
  last-is : (i : ℕ) → i < length tasks → task.call ≡ call_at tasks i → (j : ℕ) → j + 1 ≡ length tasks → task.call ≡ call_at tasks j
  last-is i lt same j end = elim (or_cases (ends_with 1 tasks task.call) (not (list_any (is_of task.call) tasks)) follows.beside_is) [
    | inl ends ↦ last-of tasks 1 task.call ends j (omega arith) (omega arith)
    | inr new ↦ absurd (false≢true (sym (not-true (list_any (is_of task.call) tasks) new) ∙ list_any_at (is_of task.call) tasks i no_past lt (is-of-at tasks task.call i same)))
  ]

  -- and so are all between them
  from-on : (i : ℕ) → i < length tasks → task.call ≡ call_at tasks i → (j : ℕ) → i ≤ j → j < length tasks → task.call ≡ call_at tasks j
  from-on i lt same j le within = elim (cases_eq i j) [
    | inl is ↦ subst (λ (m : ℕ). task.call ≡ call_at tasks m) is same
    | inr other ↦ elim (cases_eq (j + 1) (length tasks)) [
      | inl end ↦ last-is i lt same j end
      | inr before ↦
          let last = length tasks - 1 in
          let there = last-is i lt same last (omega arith) in
          same ∙ kept.together i j last (omega arith) (omega arith) (omega arith) (sym same ∙ there)
    ]
  ]

  -- a task at a place, of the earlier ones and the new one
  old-place : (i : ℕ) → i < length tasks → call_at (tasks ++ task ∷ []) i ≡ call_at tasks i
  old-place i lt = at-old tasks task i lt

  new-place : (i : ℕ) → i ≡ length tasks → call_at (tasks ++ task ∷ []) i ≡ task.call
  new-place i is = ap (call_at (tasks ++ task ∷ [])) is ∙ at-new tasks task

  more-together : (i j k : ℕ) → i < j → j < k → k < length tasks + 1 → call_at (tasks ++ task ∷ []) i ≡ call_at (tasks ++ task ∷ []) k
      → call_at (tasks ++ task ∷ []) i ≡ call_at (tasks ++ task ∷ []) j
  more-together i j k ij jk lt same =
      let i-is = old-place i (omega arith) in
      let j-is = old-place j (omega arith) in
      elim (cases_lt k (length tasks)) [
        | inl before ↦ i-is ∙ kept.together i j k ij jk before (sym i-is ∙ same ∙ old-place k before) ∙ sym j-is
        | inr end ↦
            let here : task.call ≡ call_at tasks i = sym (new-place k (omega arith)) ∙ sym same ∙ i-is in
            i-is ∙ sym here ∙ from-on i (omega arith) here j (omega arith) (omega arith) ∙ sym j-is
      ]

  more-of_call : (i : ℕ) → i + most_tasks < length tasks + 1 → call_at (tasks ++ task ∷ []) i ≡ call_at (tasks ++ task ∷ []) (i + most_tasks) → ⊥
  more-of_call i lt same =
      let i-is = old-place i (omega arith) in
      elim (cases_lt (i + most_tasks) (length tasks)) [
        | inl before ↦ kept.of_call i before (sym i-is ∙ same ∙ old-place (i + most_tasks) before)
        | inr end ↦
            let here : task.call ≡ call_at tasks i = sym (new-place (i + most_tasks) (omega arith)) ∙ sym same ∙ i-is in
            let ends = ends-of tasks most_tasks task.call (omega arith) (λ j within last. from-on i (omega arith) here j (omega arith) within) in
            false≢true (sym follows.full ∙ ends)
      ]

  more-kept : KeepApart (tasks ++ task ∷ [])
  more-kept =
      let size = length_push tasks task in
      record {
        count = omega (arith, follows.few);
        together = λ i j k ij jk lt same. more-together i j k ij jk (omega arith) same;
        of_call = λ i lt same. more-of_call i (omega arith) same;
      }

-- tasks that were read are past tasks
pub tasks-keep : (records : List (List (List ℕ))) (tasks : List PastTask) → each next_task [] records ≡ Ok tasks → 1 ≤ length tasks → All IsPastTask tasks → ArePast tasks
tasks-keep records tasks e some ranges =
    let kept = each-keeps next_task KeepApart (λ before fields task kept read.
    more-kept before task kept (task-follows before fields task (with_fault_ok _ (task_after before fields) task read)))
    [] records tasks none-kept e in
    record { some = some; count = kept.count; each_one = ranges; together = kept.together; of_call = kept.of_call }
