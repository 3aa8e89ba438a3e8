-- A log is followed in one way only: where all lines are followed none has a fault.
use Rattle.std.proofs.Common.{◌≡◌, ℕ, ◌+◌, inl, inr, ◌++◌, List, [], ◌∷◌, map, slice_set, Option, refl, ap, sym, subst, ◌∙◌}
use Rattle.std.proofs.lemmas.Bool.{cases_order}
use Rattle.qc_dispatch.specs.declared.event.Event.{Event}
use Rattle.qc_dispatch.specs.declared.fault.DispatchFault.{DispatchFault}
use Rattle.qc_dispatch.specs.declared.fault.DispatchKind.{DispatchKind}
use Rattle.qc_dispatch.specs.declared.follow.Remaining.{Remaining}
use Rattle.qc_dispatch.specs.declared.grant.Grant.{Grant}
use Rattle.qc_dispatch.specs.declared.report.Report.{Report}
use Rattle.qc_dispatch.specs.declared.report.Report.TheVariants.{Passed, Done, Left}
use Rattle.qc_dispatch.specs.declared.stage.Stage.TheVariants.{Running, Ended}
use Rattle.qc_dispatch.specs.Course.{Course, IsEnded, IsGranted, MayStart, started}
use Rattle.qc_dispatch.specs.Events.{finished_event, started_event}
use Rattle.qc_dispatch.specs.Journal.{Follows, Goes, HasFault, HasFirstFault, IsFaulty, IsFollowed, IsIdle, Journal, TakesAll, TakesLine, TookEnd, WentOn, blank}
use Rattle.qc_dispatch.specs.Log.{report_in}
use Rattle.qc_dispatch.proofs.LogLemmas.{good_line, same_report}
use Rattle.qc_lines.specs.Lines.{lines_of}
use Rattle.qc_model.specs.declared.schedule.Slot.{Slot}
use Rattle.qc_model.specs.Instance.{InstanceView}
use Rattle.qc_model.specs.Rules.{crane_of}

-- ---- starts

same_grant : (g h : Grant) → g.task ≡ h.task → g.crane ≡ h.crane → g.at ≡ h.at → g ≡ h
same_grant g h task crane at =
    let first : ℕ → Grant = λ t. record { task = t; crane = g.crane; at = g.at } in
    let second : ℕ → Grant = λ k. record { task = h.task; crane = k; at = g.at } in
    let third : ℕ → Grant = λ m. record { task = h.task; crane = h.crane; at = m } in
    ap first task ∙ ap second crane ∙ ap third at

one_grant : (old a b : Course) (to : ℕ) (g h : Grant) → IsGranted old to g a → IsGranted old to h b → g ≡ h
one_grant old a b to g h p q = elim (cases_order g.at h.at) [
  | inr other ↦ elim other [
    | inl sooner ↦ absurd (q.soonest g.at g.task p.from sooner p.may)
    | inr later ↦ absurd (p.soonest h.at h.task q.from later q.may)
  ]
  | inl at ↦ elim (cases_order g.task h.task) [
    | inr other ↦ elim other [
      | inl lower ↦ absurd (q.lowest g.task lower (subst (λ (m : ℕ). MayStart old m g.task) at p.may))
      | inr higher ↦ absurd (p.lowest h.task higher (subst (λ (m : ℕ). MayStart old m h.task) (sym at) q.may))
    ]
    | inl task ↦ same_grant g h task (p.crane ∙ ap (crane_of old.plan) task ∙ sym q.crane) at
  ]
]

one_way : (gs hs : List Grant) (old a b : Course) (to : ℕ) → Goes old to gs a → Goes old to hs b → (gs ≡ hs) × (a ≡ b)
one_way [] [] old a b to p q = (refl, p.after ∙ sym q.after)
one_way [] (h ∷ hs) old a b to p q = absurd (p.none h.at h.task q.1.from q.1.by q.1.may)
one_way (g ∷ gs) [] old a b to p q = absurd (q.none g.at g.task p.1.from p.1.by p.1.may)
one_way (g ∷ gs) (h ∷ hs) old a b to p q =
    let e = one_grant old p.0 q.0 to g h p.1 q.1 in
    let same : p.0 ≡ q.0 = p.1.after ∙ ap (λ (k : Grant). started old k.at k.task) e ∙ sym q.1.after in
    let rest = one_way gs hs q.0 a b to (subst (λ (c : Course). Goes c to gs a) same p.2) q.2 in
    (ap (λ (k : Grant). k ∷ gs) e ∙ ap (λ (ks : List Grant). h ∷ ks) rest.0, rest.1)

same_journal : (a b : Journal) → a.course ≡ b.course → a.events ≡ b.events → a.remaining ≡ b.remaining → a ≡ b
same_journal a b course events remaining =
    let first : Course → Journal = λ c. record { course = c; events = a.events; remaining = a.remaining } in
    let second : List Event → Journal = λ es. record { course = b.course; events = es; remaining = a.remaining } in
    let third : List (Option Remaining) → Journal = λ rs. record { course = b.course; events = b.events; remaining = rs } in
    ap first course ∙ ap second events ∙ ap third remaining

went_one : (old a b : Journal) (to : ℕ) → WentOn old to a → WentOn old to b → a ≡ b
went_one old a b to p q =
    let same = one_way p.grants q.grants old.course a.course b.course to p.goes q.goes in
    same_journal a b same.1
    (p.events ∙ ap (λ (gs : List Grant). old.events ++ map (started_event old.course.inst) gs) same.0 ∙ sym q.events)
    (p.remaining ∙ sym q.remaining)

-- ---- lines

same_start : (s t : ℕ) → Running s ≡ Running t → s ≡ t
same_start s t e = cc

ended_one : (old a b : Course) (task : ℕ) → IsEnded old task a → IsEnded old task b → a ≡ b
ended_one old a b task p q =
    let e = same_start p.start q.start (sym p.ran ∙ q.ran) in
    p.after ∙ ap (λ (s : ℕ). record old { stages = slice_set old.stages task (Ended s old.clock) }) e ∙ sym q.after

took_one : (old a b : Journal) (task : ℕ) → TookEnd old task a → TookEnd old task b → a ≡ b
took_one old a b task p q =
    let e = ended_one old.course p.after q.after task p.ended q.ended in
    let begun : Course → Journal = λ c. record old { course = c; events = old.events ++ finished_event c.inst task c.clock ∷ [] } in
    went_one (begun q.after) a b q.after.clock (subst (λ (c : Course). WentOn (begun c) c.clock a) e p.went) q.went

follows_one : (old a b : Journal) (report : Report) → Follows old report a → Follows old report b → a ≡ b
follows_one old a b (Passed ticks) p q = went_one old a b (old.course.clock + ticks) p q
follows_one old a b (Done task) p q = took_one old a b task p q
follows_one old a b (Left task ticks) p q = p.after ∙ sym q.after

takes_one : (old a b : Journal) (before : ℕ) (line : List ℕ) → TakesLine old before line a → TakesLine old before line b → a ≡ b
takes_one old a b before line p q =
    let e = same_report (report_in old.course.inst line) p.report q.report p.read q.read in
    follows_one old a b q.report (subst (λ (r : Report). Follows old r a) e p.follows) q.follows

follows_not_idle : (old a : Journal) (report : Report) → Follows old report a → ¬ IsIdle old.course report
follows_not_idle old a (Passed ticks) went idle = idle
follows_not_idle old a (Done task) took idle = idle took.ended.start took.ended.ran
follows_not_idle old a (Left task ticks) took idle = idle took.start took.runs

no_fault : (old a : Journal) (before : ℕ) (line : List ℕ) (why : DispatchKind) → TakesLine old before line a → HasFault old before line why → ⊥
no_fault old a before line why takes fault =
    good_line old before line takes.report takes.few takes.read (follows_not_idle old a takes.report takes.follows) why fault

all_or_fault : (lines : List (List ℕ)) (old a : Journal) (before : ℕ) (fault : DispatchFault) → TakesAll old before lines a
    → HasFirstFault old before lines fault → ⊥
all_or_fault [] old a before fault takes has = has
all_or_fault (line ∷ lines) old a before fault takes has = elim has [
  | inl here ↦ no_fault old takes.0 before line fault.kind takes.1 here.0
  | inr later ↦
      let same = takes_one old takes.0 later.0 before line takes.1 later.1 in
      all_or_fault lines later.0 a (before + 1) fault (subst (λ (j : Journal). TakesAll j (before + 1) lines a) same takes.2) later.2
]

-- a log that is followed has no fault
pub not_both : (inst : InstanceView) (plan : List Slot) (text : List ℕ) (a : Journal) (fault : DispatchFault) → IsFollowed inst plan text a
    → IsFaulty inst plan text fault → ⊥
not_both inst plan text a fault followed faulty =
    let same = went_one (blank inst plan) followed.first faulty.first 0 followed.begins faulty.begins in
    all_or_fault (lines_of text) faulty.first a 0 fault (subst (λ (j : Journal). TakesAll j 0 (lines_of text) a) same followed.takes) faulty.faulty
