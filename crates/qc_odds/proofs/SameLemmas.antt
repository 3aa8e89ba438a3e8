-- The starts that a dispatcher grants are those of the course with the lengths that tasks took.
use Rattle.std.proofs.Common.{◌≡◌, ℕ, ◌<◌, Option, None, Some, Result, Ok, Err, List, [], ◌∷◌, length, map, refl, sym, ap, subst, ◌∙◌, arith}
use Rattle.std.specs.Prelude.{⊤}
use Rattle.std.proofs.lemmas.Grind.{same_number_lists}
use Rattle.qc_dispatch.specs.declared.grant.Grant.{Grant}
use Rattle.qc_dispatch.specs.declared.grant.NotRunning.{NotRunning}
use Rattle.qc_dispatch.specs.Calls.{Advance, Call, Done, IsCalled, Reaches, opening}
use Rattle.qc_dispatch.specs.Course.{Course, IsAdvanced, IsReported, left, running}
use Rattle.qc_dispatch.specs.Worked.{slots_taken, tasks_taken}
use Rattle.qc_model.specs.declared.schedule.Slot.{Slot}
use Rattle.qc_model.specs.Instance.{InstanceView, Valid}
use Rattle.qc_model.specs.Rules.{Feasible}
use Rattle.qc_odds.specs.Course.{AreStarts}
use Rattle.qc_odds.proofs.PromptLemmas.{dispatched}
use Rattle.qc_odds.proofs.RiseLemmas.{starts_leave_room}

-- the same lengths give the same starts
pub same_starts : (inst : InstanceView) (plan : List Slot) (lengths starts others : List ℕ) → AreStarts inst plan lengths starts
    → AreStarts inst plan lengths others → starts ≡ others
same_starts inst plan lengths starts others are those =
    same_number_lists starts others (are.count ∙ sym those.count) (λ j low.
    let inside : j < length inst.tasks = omega (arith, low, are.count) in
    omega (
      arith,
      starts_leave_room inst plan lengths starts lengths others are those (λ i in_i. omega arith) j inside,
      starts_leave_room inst plan lengths others lengths starts those are (λ i in_i. omega arith) j inside,
    ))

-- a dispatcher's instance and plan stay
abbrev IsSameJob : (old new : Course) → Type 0
IsSameJob old new = (new.inst ≡ old.inst) × (new.plan ≡ old.plan)

with_after : (old new mid : Course) → new ≡ mid → IsSameJob old mid → IsSameJob old new
with_after old new mid is same = (ap (λ (c : Course). c.inst) is ∙ same.0, ap (λ (c : Course). c.plan) is ∙ same.1)

called_same : (old : Course) (call : Call) (new : Course) → IsCalled old call new → IsSameJob old new
called_same old (Advance to) new is = by is.granted is.advanced
  where
    by : (granted : Option Grant) → IsAdvanced old to granted new → IsSameJob old new
    by None passed = with_after old new _ passed.after (refl, refl)
    by (Some grant) given = with_after old new _ given.after (refl, refl)
called_same old (Done task) new is = by is.result is.reported
  where
    by : (result : Result ⊤ NotRunning) → IsReported old task result new → IsSameJob old new
    by (Ok done) ended = with_after old new _ ended.after (refl, refl)
    by (Err refused) idle = with_after old new _ idle.after (refl, refl)

reaches_same : (old : Course) (calls : List Call) (new : Course) → Reaches old calls new → IsSameJob old new
reaches_same old [] new is = with_after old new old is (refl, refl)
reaches_same old (call ∷ calls) new is =
    let first = called_same old call is.0 is.1 in
    let rest = reaches_same is.0 calls new is.2 in
    (rest.0 ∙ first.0, rest.1 ∙ first.1)

pub dispatcher_starts : (inst : InstanceView) (plan : List Slot) (lengths starts : List ℕ) → Valid inst → Feasible inst plan
    → AreStarts inst plan lengths starts → (calls : List Call) (after : Course) → Reaches (opening inst plan) calls after
    → left after ≡ 0 → running after ≡ 0 → map (λ t. t.ticks) (tasks_taken after) ≡ lengths
    → map (λ s. s.start) (slots_taken after) ≡ starts
dispatcher_starts inst plan lengths starts valid feasible are calls after reached none_left none_runs took =
    let same = reaches_same (opening inst plan) calls after reached in
    let begins = map (λ (s : Slot). s.start) (slots_taken after) in
    let those = dispatched inst plan calls after valid feasible reached none_left none_runs in
    let here : AreStarts inst after.plan (map (λ t. t.ticks) (tasks_taken after)) begins =
    subst (λ (i : InstanceView). AreStarts i after.plan (map (λ t. t.ticks) (tasks_taken after)) begins) same.0 those in
    let planned : AreStarts inst plan (map (λ t. t.ticks) (tasks_taken after)) begins =
    subst (λ (p : List Slot). AreStarts inst p (map (λ t. t.ticks) (tasks_taken after)) begins) same.1 here in
    same_starts inst plan lengths begins starts (subst (λ (l : List ℕ). AreStarts inst plan l begins) took planned) are
