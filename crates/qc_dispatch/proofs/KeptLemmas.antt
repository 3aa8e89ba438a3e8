-- What a dispatcher keeps, after each change.
use Rattle.std.proofs.Common.{◌≡◌, ◌≢◌, ℕ, ◌<◌, ◌≤◌, inl, inr, Bool, None, Some, List, length, slice_index_or, slice_set, replicate, refl, ap, sym, subst, ◌∙◌, arith}
use Rattle.std.proofs.lemmas.List.{get_or_default}
use Rattle.qc_dispatch.specs.declared.stage.Stage.{Stage}
use Rattle.qc_dispatch.specs.declared.stage.Stage.TheVariants.{Waiting, Running, Ended}
use Rattle.qc_dispatch.specs.declared.waits.Wait.{Wait}
use Rattle.qc_dispatch.specs.Calls.{Call, Reaches, opening}
use Rattle.qc_dispatch.specs.Course.{Course, IsEnded, IsNotRunning, MayStart, end_at, end_in, left, past_moments, running, stage_of, started}
use Rattle.qc_dispatch.specs.Kept.{AreKept, IsCourse}
use Rattle.qc_dispatch.specs.Promises.{GoesOn, Keeps}
use Rattle.qc_dispatch.specs.Marks.{AreMarks}
use Rattle.qc_dispatch.specs.Waits.{AreLetGo, AreWaits}
use Rattle.qc_dispatch.proofs.CallLemmas.{reaches}
use Rattle.qc_dispatch.proofs.CourseLemmas.{end_started, goes_ended, goes_later, goes_started, none_started, opens, stage_set}
use Rattle.qc_dispatch.proofs.WaitLemmas.{waits_after, waits_same}
use Rattle.qc_model.specs.declared.schedule.Slot.{Slot}
use Rattle.qc_model.specs.Instance.{InstanceView, Valid}
use Rattle.qc_model.specs.Rules.{Feasible, crane_of, no_slot}

-- the stage that was read
pub stage_read : (stages : List Stage) (task : ℕ) (read stage : Stage) → task < length stages
    → read ≡ slice_index_or stages task read → read ≡ stage → slice_index_or stages task Waiting ≡ stage
stage_read stages task read stage inside is same = get_or_default stages task Waiting read inside ∙ sym is ∙ same

-- a task of the course as it is seen is one of the course as it is kept
pub inside_kept : (c seen : Course) (task : ℕ) → c ≡ seen → task < length seen.inst.tasks → task < length c.inst.tasks
inside_kept c seen task is inside = subst (λ (x : Course). task < length x.inst.tasks) (sym is) inside

-- a task runs, as its stage was read
pub record Runs (c : Course) (task start : ℕ) : Type 0 where
  pub inside : task < length c.inst.tasks
  pub ran : stage_of c task ≡ Running start

pub runs_read : (c seen : Course) (task start : ℕ) (read : Stage) → IsCourse c → c ≡ seen → task < length seen.inst.tasks
    → read ≡ slice_index_or c.stages task read → read ≡ Running start → Runs c task start
runs_read c seen task start read course is inside at same =
    let low = inside_kept c seen task is inside in
    record { inside = low; ran = stage_read c.stages task read (Running start) (omega (arith, low, course.stages)) at same }

-- then it ends now, as it is seen
pub ended_seen : (c seen : Course) (task start : ℕ) → c ≡ seen → stage_of c task ≡ Running start
    → IsEnded seen task (record c { stages = slice_set c.stages task (Ended start c.clock) })
ended_seen c seen task start is ran =
    subst (λ (x : Course). IsEnded x task (record c { stages = slice_set c.stages task (Ended start c.clock) })) is
    (record { start = start; ran = ran; after = refl })

-- a task doesn't run, as its stage was read: nothing changes
pub idle_read : (c seen : Course) (task : ℕ) (read : Stage) → IsCourse c → c ≡ seen → task < length seen.inst.tasks
    → read ≡ slice_index_or c.stages task read → ((start : ℕ) → read ≢ Running start) → IsNotRunning seen task seen
idle_read c seen task read course is inside at none =
    let low = inside_kept c seen task is inside in
    let stage : stage_of c task ≡ read = get_or_default c.stages task Waiting read (omega (arith, low, course.stages)) ∙ sym at in
    subst (λ (x : Course). IsNotRunning x task x) is (record { idle = λ start ran. none start (sym stage ∙ ran); after = refl })

-- the crane that was read
pub crane_read : (slots : List Slot) (task cranes : ℕ) (read : Slot) → task < length slots → read ≡ slice_index_or slots task read
    → crane_of slots task < cranes → read.crane < cranes
crane_read slots task cranes read inside is low =
    subst (λ (s : Slot). s.crane < cranes) (get_or_default slots task no_slot read inside ∙ sym is) low

-- at the opening
pub kept_opening : (inst : InstanceView) (plan : List Slot) → Valid inst → Feasible inst plan → (marks : List Bool) → AreMarks inst plan marks
    → (waits : List Wait) → AreWaits inst plan marks (λ i. None) waits → AreKept (opening inst plan) marks waits
kept_opening inst plan valid feasible marks are_marks waits are_waits =
    let c = opening inst plan in
    record {
      course = opens inst plan valid feasible;
      early = omega arith;
      marks_are = are_marks;
      waits_are = waits_same inst plan marks (λ i. None) (end_at c) (λ i. ap end_in (none_started (length inst.tasks) i)) waits are_waits;
    }

-- the same where the fields are copies
module _ (inst copied : InstanceView) (plan slots : List Slot) (stages : List Stage) (same_inst : copied ≡ inst) (same_plan : slots ≡ plan)
    (same_stages : stages ≡ replicate (length inst.tasks) Waiting) where
  abbrev made : Course
  made = record { inst = copied; plan = slots; clock = 0; stages = stages }

  made_is : made ≡ opening inst plan
  made_is = rw (same_inst, same_plan, same_stages) refl

  pub kept_made : Valid inst → Feasible inst plan → (marks : List Bool) → AreMarks inst plan marks → (waits : List Wait)
      → AreWaits inst plan marks (λ i. None) waits → AreKept made marks waits
  kept_made valid feasible marks are_marks waits are_waits =
      subst (λ (c : Course). AreKept c marks waits) (sym made_is) (kept_opening inst plan valid feasible marks are_marks waits are_waits)

  pub reaches_made : Valid inst → Feasible inst plan → (calls : List Call) (after : Course) → Reaches made calls after → Keeps after
  reaches_made valid feasible calls after run =
      (reaches (opening inst plan) calls after (opens inst plan valid feasible) (subst (λ (c : Course). Reaches c calls after) made_is run)).keeps

module _ (c : Course) (marks : List Bool) (waits : List Wait) (kept : AreKept c marks waits) where
  -- after a start
  pub kept_started : (task m : ℕ) → c.clock ≤ m → MayStart c m task → m < past_moments → AreKept (started c m task) marks waits
  kept_started task m from may early = record {
    course = goes_started c kept.course task m from may;
    early = early;
    marks_are = kept.marks_are;
    waits_are = waits_same c.inst c.plan marks (end_at c) (end_at (started c m task)) (end_started c kept.course task m may) waits kept.waits_are;
  }

  -- later
  pub kept_later : (to : ℕ) → c.clock ≤ to → to < past_moments → AreKept (record c { clock = to }) marks waits
  kept_later to from early = record { course = goes_later c kept.course to from; early = early; marks_are = kept.marks_are; waits_are = kept.waits_are }

  -- where nothing may start until then, and nothing runs, the next start comes by itself
  pub goes_on_later : (to : ℕ) → c.clock ≤ to → ((m j : ℕ) → c.clock ≤ m → m ≤ to → ¬ MayStart c m j)
      → 0 < left (record c { clock = to }) → running (record c { clock = to }) ≡ 0 → GoesOn (record c { clock = to })
  goes_on_later to from none some stopped =
      (goes_later c kept.course to from).keeps.goes_on (λ j may. none to j from (omega arith) (record { task = may.task; waits = may.waits; free = may.free; clear = may.clear })) some stopped

  -- after an end
  module _ (task start : ℕ) (inside : task < length c.inst.tasks) (ran : stage_of c task ≡ Running start) where
    abbrev after : Course
    after = record c { stages = slice_set c.stages task (Ended start c.clock) }

    ends_now : end_at after task ≡ Some c.clock
    ends_now = elim (stage_set c.stages task task (Ended start c.clock) (omega (arith, inside, kept.course.stages))) [
      | inl at ↦ ap end_in at.1
      | inr other ↦ absurd (other.0 refl)
    ]

    others_stay : (i : ℕ) → i ≢ task → end_at after i ≡ end_at c i
    others_stay i differ = elim (stage_set c.stages task i (Ended start c.clock) (omega (arith, inside, kept.course.stages))) [
      | inl at ↦ absurd (differ (sym at.0))
      | inr other ↦ ap end_in other.1
    ]

    pub kept_ended : (new : List Wait) → AreLetGo c.inst c.plan marks task c.clock waits new → AreKept after marks new
    kept_ended new gone = record {
      course = goes_ended c kept.course task start inside ran;
      early = kept.early;
      marks_are = kept.marks_are;
      waits_are = waits_after c.inst c.plan marks (end_at c) (end_at after) task c.clock inside (ap end_in ran) ends_now others_stay kept.marks_are waits new kept.waits_are gone;
    }
