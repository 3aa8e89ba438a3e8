-- What tasks that run still need, and the latest task of a crane.
use Rattle.std.proofs.Common.{◌≡◌, ℕ, ◌+◌, ◌<◌, ◌≤◌, inl, inr, Bool, true, false, List, [], ◌∷◌, ◌++◌, length, Option, None, Some, IfSome, refl, ap, sym, subst, ◌∙◌, arith}
use Rattle.std.specs.Option.{unwrap_or}
use Rattle.std.proofs.lemmas.Bool.{cases_eq, cases_lt, false≢true}
use Rattle.std.proofs.lemmas.List.{get_or_append_left, get_or_past, get_or_push}
use Rattle.qc_dispatch.specs.declared.follow.Remaining.{Remaining}
use Rattle.qc_dispatch.specs.declared.stage.Stage.{Stage}
use Rattle.qc_dispatch.specs.declared.stage.Stage.TheVariants.{Waiting, Running, Ended}
use Rattle.qc_dispatch.specs.Course.{Course, end_at, end_in, is_running, is_waiting, stage_of, start_in}
use Rattle.qc_dispatch.specs.Following.{most_passed}
use Rattle.qc_dispatch.specs.Journal.{Journal}
use Rattle.qc_dispatch.specs.Promises.{IsSpan, Keeps}
use Rattle.qc_dispatch.specs.Worked.{begun_at}
use Rattle.qc_model.specs.Instance.{bay_of, crane}
use Rattle.qc_model.specs.Rules.{crane_of}
use Rattle.qc_rest.specs.declared.stand.Stand.{Stand}
use Rattle.qc_rest.specs.Known.{IsKnown, IsLatest, IsLatestOf, IsMine}
use Rattle.qc_rest.specs.Remaining.{IsDue, NoneIsDue, left_of, remaining, still_runs}
use Rattle.qc_rest.specs.Stands.{IsStand, no_stand, stand_of}

-- ---- stages

-- a task has a start, or it waits
pub some_waits : (s : Stage) (o : Option ℕ) → start_in s ≡ o → (b : Bool) → ((start : ℕ) → o ≡ Some start → b ≡ false) → (o ≡ None → b ≡ true) → b ≡ is_waiting s
some_waits Waiting o e b some none = none (sym e)
some_waits (Running start) o e b some none = some start (sym e)
some_waits (Ended start end) o e b some none = some start (sym e)

begun_early : (s : Stage) (now : ℕ) → IsSpan now s → unwrap_or (start_in s) 0 ≤ now
begun_early Waiting now span = omega arith
begun_early (Running start) now span = omega (arith, span)
begun_early (Ended start end) now span = omega (arith, span.0, span.1)

-- what has begun did so by now
pub begun_by_now : (c : Course) → Keeps c → (j : ℕ) → begun_at c j ≤ c.clock
begun_by_now c keeps j = begun_early (stage_of c j) c.clock (keeps.spans j)

ended_early : (s : Stage) (now end : ℕ) → IsSpan now s → end_in s ≡ Some end → end ≤ now
ended_early Waiting now end span e = absurd (cc e)
ended_early (Running start) now end span e = absurd (cc e)
ended_early (Ended start last) now end span e =
    let same : last ≡ end = cc e in
    omega (arith, span.1, same)

pub ended_by_now : (c : Course) → Keeps c → (j end : ℕ) → end_at c j ≡ Some end → end ≤ c.clock
ended_by_now c keeps j end e = ended_early (stage_of c j) c.clock end (keeps.spans j) e

pub runs_since : (s : Stage) → is_running s ≡ true → (start : ℕ) × (s ≡ Running start)
runs_since Waiting runs = absurd (false≢true runs)
runs_since (Running start) runs = (start, refl)
runs_since (Ended start end) runs = absurd (false≢true runs)

-- ---- what is left of a task

pub left_short : (told : Option Remaining) (now planned : ℕ) → ((r : Remaining) → told ≡ Some r → r.ticks ≤ most_passed) → planned ≤ now + most_passed
    → left_of told now planned ≤ most_passed
left_short None now planned short soon = omega arith
left_short (Some r) now planned short soon = omega (arith, short r refl)

-- ---- due tasks

pub due_is : (j : Journal) (i : ℕ) → is_running (stage_of j.course i) ≡ true → remaining j i ≡ 0 → IsDue j i
due_is j i runs none = let since = runs_since (stage_of j.course i) runs in record { start = since.0; runs = since.1; none = none }

pub due_runs : (j : Journal) (i : ℕ) → IsDue j i → is_running (stage_of j.course i) ≡ true
due_runs j i due = ap is_running due.runs

pub runs_low : (c : Course) → Keeps c → (i start : ℕ) → stage_of c i ≡ Running start → i < length c.inst.tasks
runs_low c keeps i start runs = elim (cases_lt i (length c.stages)) [
  | inl low ↦ omega (arith, low, keeps.stages)
  | inr past ↦ absurd (cc (runs, get_or_past c.stages i Waiting past))
]

-- a task that runs, as it is told
pub told_is : (j : Journal) (i by ticks : ℕ) → by ≡ crane_of j.course.plan i → ticks ≡ remaining j i
    → record { task = i; crane = by; ticks = ticks } ≡ still_runs j i
told_is j i by ticks first second =
    ap (λ (k : ℕ). record { task = i; crane = k; ticks = ticks }) first
    ∙ ap (λ (t : ℕ). record { task = i; crane = crane_of j.course.plan i; ticks = t }) second

-- where no task of the instance is due, none is
pub none_due : (j : Journal) → IsKnown j → ((i : ℕ) → i < length j.course.inst.tasks → ¬ IsDue j i) → NoneIsDue j
none_due j known none i start runs = elim (cases_lt 0 (remaining j i)) [
  | inl some ↦ omega arith
  | inr zero ↦ absurd (none i (runs_low j.course known.keeps i start runs) (record { start = start; runs = runs; none = omega arith }))
]

-- ---- the latest task

module _ (c : Course) (over : ℕ → ℕ) (k : ℕ) where
  pub latest_found : (n : ℕ) (last : Option ℕ) → IsLatest c over k n last → IsMine c k n → IfSome last (λ i. over i ≤ over n)
      → IsLatest c over k (n + 1) (Some n)
  latest_found n None none mine later = record {
    inside = omega arith;
    mine = mine;
    latest = λ j low is. elim (cases_eq j n) [
      | inl same ↦ omega (arith, ap over same)
      | inr other ↦ absurd (none j (omega arith) is)
    ];
  }
  latest_found n (Some i) before mine later = record {
    inside = omega arith;
    mine = mine;
    latest = λ j low is. elim (cases_eq j n) [
      | inl same ↦ omega (arith, ap over same)
      | inr other ↦ omega (arith, before.latest j (omega arith) is, later)
    ];
  }

  pub latest_stays : (n : ℕ) (last : Option ℕ) → IsLatest c over k n last → (IsMine c k n × IfSome last (λ i. over i ≤ over n) → ⊥)
      → IsLatest c over k (n + 1) last
  latest_stays n None none not = λ j low is. elim (cases_eq j n) [
    | inl same ↦ not (subst (IsMine c k) same is, tt)
    | inr other ↦ none j (omega arith) is
  ]
  latest_stays n (Some i) before not = record {
    inside = omega (arith, before.inside);
    mine = before.mine;
    latest = λ j low is. elim (cases_eq j n) [
      | inl same ↦ elim (cases_lt (over n) (over i)) [
        | inl less ↦ omega (arith, less, ap over same)
        | inr le ↦ absurd (not (subst (IsMine c k) same is, le))
      ]
      | inr other ↦ before.latest j (omega arith) is
    ];
  }

  -- where a crane stands, by its latest task
  pub stands_at : (i : ℕ) → IsLatestOf c over k (length c.inst.tasks) i → (stand : Stand)
      → stand ≡ record { bay = bay_of c.inst i; until = over i } → IsStand c over k stand
  stands_at i last stand e = inr (
    i,
    record {
      task = last.inside;
      begun = last.mine.begun;
      by = last.mine.by;
      last = λ j low begun by. last.latest j low (record { begun = begun; by = by });
    },
    e,
  )

  pub stands_idle : IsLatest c over k (length c.inst.tasks) None → (stand : Stand)
      → stand ≡ record { bay = (crane c.inst k).bay; until = (crane c.inst k).ready } → IsStand c over k stand
  stands_idle none stand e = inl (λ j low begun by. none j low (record { begun = begun; by = by }), e)

-- one stand more
pub more_stands : (c : Course) (over : ℕ → ℕ) (n : ℕ) (stands new : List Stand) (stand : Stand) → length stands ≡ n
    → ((k : ℕ) → k < n → IsStand c over k (stand_of stands k)) → IsStand c over n stand → new ≡ stands ++ stand ∷ []
    → (k : ℕ) → k < n + 1 → IsStand c over k (stand_of new k)
more_stands c over n stands new stand count are is pushed k low = elim (cases_eq k n) [
  | inl same ↦
      let at : stand_of new k ≡ stand = ap (λ (xs : List Stand). stand_of xs k) pushed ∙ get_or_push stands stand no_stand k (count ∙ sym same) in
      subst (IsStand c over k) (sym at) (subst (λ (v : ℕ). IsStand c over v stand) (sym same) is)
  | inr other ↦
      let at : stand_of new k ≡ stand_of stands k =
      ap (λ (xs : List Stand). stand_of xs k) pushed ∙ get_or_append_left stands (stand ∷ []) no_stand k (omega (arith, low, other, count)) in
      subst (IsStand c over k) (sym at) (are k (omega arith))
]
