-- One pass over the tasks gives all starts.
use Rattle.std.proofs.Common.{◌≡◌, ◌≢◌, ℕ, ◌+◌, ◌<◌, ◌≤◌, inl, inr, List, length, slice_index, slice_set, refl, ap, sym, subst, ◌∙◌, arith}
use Rattle.std.proofs.lemmas.Bool.{cases_eq}
use Rattle.std.proofs.lemmas.Grind.{get_or-set_at}
use Rattle.std.proofs.lemmas.List.{get_or-set_other, length-set}
use Rattle.qc_dispatch.specs.Order.{Leads}
use Rattle.qc_model.specs.declared.schedule.Slot.{Slot}
use Rattle.qc_model.specs.Instance.{InstanceView}
use Rattle.qc_model.specs.Rules.{start_of}
use Rattle.qc_odds.specs.Course.{AreStarts, IsStart, MayStartBy, end_in}
use Rattle.qc_odds.specs.Moments.{AreEarly, moment_by}
use Rattle.qc_odds.specs.Order.{AreTurns, task_at}
use Rattle.qc_odds.specs.declared.order.PlannedStart.{PlannedStart}

module _ (inst : InstanceView) (plan : List Slot) (turns : List PlannedStart) (lengths : List ℕ) where
  -- the tasks before this place of the order have their starts
  pub record IsPassed (at : ℕ) (starts : List ℕ) : Type 0 where
    pub count : length starts ≡ length inst.tasks
    pub early : AreEarly starts (moment_by at)
    pub done : (q : ℕ) → q < at → IsStart inst plan (end_in lengths starts) (task_at turns q) (slice_index starts (task_at turns q))

  pub none_passed : (starts : List ℕ) → length starts ≡ length inst.tasks → AreEarly starts 0 → IsPassed 0 starts
  none_passed starts count none = record { count = count; early = λ j. omega (arith, none j); done = λ q low. absurd (omega arith) }

  module _ (are : AreTurns inst plan turns) (at : ℕ) (starts : List ℕ) (start : ℕ) (low : at < length turns) (passed : IsPassed at starts)
      (is : IsStart inst plan (end_in lengths starts) (task_at turns at) start) (soon : start ≤ moment_by (at + 1)) where
    abbrev j : ℕ
    j = task_at turns at

    abbrev after : List ℕ
    after = slice_set starts (task_at turns at) start

    j_inside : task_at turns at < length starts
    j_inside = omega (arith, are.inside at low, passed.count)

    other_stays : (i : ℕ) → i ≢ task_at turns at → slice_index after i ≡ slice_index starts i
    other_stays i differ = get_or-set_other starts (task_at turns at) i start 0 differ

    here : slice_index after (task_at turns at) ≡ start
    here = get_or-set_at starts (task_at turns at) (task_at turns at) start 0 refl j_inside

    -- a task none of whose leaders is the new one may start when it might
    start_stays : (k s : ℕ) → ((i : ℕ) → Leads inst plan i k → i ≢ task_at turns at) → IsStart inst plan (end_in lengths starts) k s
        → IsStart inst plan (end_in lengths after) k s
    start_stays k s apart old moment = (
      λ le. let may : MayStartBy inst plan (end_in lengths starts) k moment = (old moment).0 le in record {
        free = may.free;
        clear = λ i leads. omega (arith, may.clear i leads, other_stays i (apart i leads));
      },
      λ may. (old moment).1 (record { free = may.free; clear = λ i leads. omega (arith, may.clear i leads, other_stays i (apart i leads)) }),
    )

    not_itself : (i : ℕ) → Leads inst plan i (task_at turns at) → i ≢ task_at turns at
    not_itself i leads same = let e = ap (start_of plan) same in omega (arith, e, leads.sooner)

    not_ahead : (q : ℕ) → q < at → (i : ℕ) → Leads inst plan i (task_at turns q) → i ≢ task_at turns at
    not_ahead q before i leads same =
        let first = are.behind q i (omega arith) leads in
        are.once first.place at (omega (arith, first.ahead)) low (first.is ∙ same)

    done_now : (q : ℕ) → q < at + 1 → IsStart inst plan (end_in lengths after) (task_at turns q) (slice_index after (task_at turns q))
    done_now q lt = elim (cases_eq q at) [
      | inl same ↦
          let P : ℕ → Type 0 = λ k. IsStart inst plan (end_in lengths after) (task_at turns k) (slice_index after (task_at turns k)) in
          subst P (sym same) (subst (λ (s : ℕ). IsStart inst plan (end_in lengths after) (task_at turns at) s) (sym here) (start_stays (task_at turns at) start not_itself is))
      | inr other ↦
          let before : q < at = omega arith in
          let differ : task_at turns q ≢ task_at turns at = are.once q at before low in
          subst (λ (s : ℕ). IsStart inst plan (end_in lengths after) (task_at turns q) s) (sym (other_stays (task_at turns q) differ))
          (start_stays (task_at turns q) (slice_index starts (task_at turns q)) (not_ahead q before) (passed.done q before))
    ]

    pub next_passed : IsPassed (at + 1) after
    next_passed = record {
      count = length-set starts (task_at turns at) start ∙ passed.count;
      early = λ k. elim (cases_eq k (task_at turns at)) [
        | inl same ↦ let e = ap (slice_index after) same in omega (arith, e, here, soon)
        | inr other ↦ omega (arith, other_stays k other, passed.early k)
      ];
      done = done_now;
    }

  pub all_passed : AreTurns inst plan turns → (at : ℕ) (starts : List ℕ) → length turns ≤ at → IsPassed at starts → AreStarts inst plan lengths starts
  all_passed are at starts all passed = record {
    count = passed.count;
    each_one = λ j low.
        let found = are.all_there j low in
        subst (λ (k : ℕ). IsStart inst plan (end_in lengths starts) k (slice_index starts k)) found.is (passed.done found.place (omega (arith, found.ahead)));
  }
