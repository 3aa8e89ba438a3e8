-- Where a crane stands at each tick of a feasible schedule, and that its work, its wait and its way take no longer together
-- than the schedule.
use Rattle.std.proofs.Common.{[], ◌≡◌, ◌≢◌, ℕ, ◌+◌, ◌-◌, ◌*◌, ◌<◌, ◌≤◌, inl, inr, Bool, eqb, List, ◌∷◌, length, Option, ℤ, pos, ◌+ℤ◌, refl, sym, subst, ◌∙◌, arith, filter, sum_by}
use Rattle.std.proofs.lemmas.Bool.{cases_lt, eqb-true}
use Rattle.std.proofs.lemmas.Int.{ints}
use Rattle.std.proofs.lemmas.List.Sums.{sum_by-cons}
use Rattle.qc_model.specs.declared.schedule.Slot.{Slot}
use Rattle.qc_model.specs.Bays.{bays_between}
use Rattle.qc_model.specs.Instance.{InstanceView, Valid, bay_of, crane, ticks_of}
use Rattle.qc_model.specs.Motion.{bay_ahead, bay_behind, scaled}
use Rattle.qc_model.specs.Rules.{Feasible, crane_of, end_of, ends, start_of}
use Rattle.qc_model.specs.Ticks.{arrival}
use Rattle.qc_model.specs.Work.{task_numbers, ticks_over}
use Rattle.qc_model.proofs.Bays.{bays}
use Rattle.qc_model.proofs.Scaled.{scaled_sum}
use Rattle.qc_freemove.specs.FreeMotion.{IsFreePlace, IsFreeSafeBy}
use Rattle.qc_freemove.proofs.FreeSafe.{free_place_exists, free_safe}
use Rattle.qc_close.proofs.Members.{Among, filter_among, range_among}
use Rattle.qc_laws.proofs.PackLemmas.{ends_in}
use Rattle.qc_laws.proofs.Rows.{AllClear, AreClear, Row, clear_from, row_of}
use Rattle.qc_laws.proofs.Paths.{goes_nowhere, goes_slowly, moved}
use Rattle.qc_laws.proofs.Trips.{Allows}

module _ (inst : InstanceView) (sched : List Slot) (valid : Valid inst) (f : Feasible inst sched) where
  abbrev count : ℕ
  count = length inst.tasks

  abbrev end : ℕ
  end = ends inst sched

  safe : IsFreeSafeBy inst sched 1
  safe = free_safe inst sched valid.cranes f 1 (omega arith)

  pub starts_within : (j : ℕ) → j < count → (start_of sched j ≤ end) × (end_of inst sched j ≤ end)
  starts_within j low = let e = ends_in inst sched f j low in (omega (arith, e), omega (arith, e))

  module _ (w : ℕ) (is_crane : w < length inst.cranes) where
    -- where crane w stands
    abbrev pub track : ℕ → ℤ
    track m = (free_place_exists inst sched w m 1 is_crane).0

    stands : (m : ℕ) → IsFreePlace inst sched w m 1 (track m)
    stands m = (free_place_exists inst sched w m 1 is_crane).1

    pub steps : (m : ℕ) → m < end → bays_between (track m) (track (m + 1)) ≤ 1
    steps m low =
        let both = safe.speed w m (track m) (track (m + 1)) is_crane (omega arith) (stands m) (stands (m + 1)) in
        omega (arith, bays, both.0, both.1)

    pub waits : (m : ℕ) → m ≤ end → m ≤ (crane inst w).ready → track m ≡ scaled inst 1 (crane inst w).bay
    waits m low early = safe.at_berth w m (track m) is_crane (omega arith) (omega arith) (stands m)

    pub works : (j m : ℕ) → j < count → crane_of sched j ≡ w → start_of sched j ≤ m → m ≤ end_of inst sched j
        → track m ≡ scaled inst 1 (bay_of inst j)
    works j m low on begun going =
        safe.at_task j m (track m) low (omega arith) (omega arith)
        (subst (λ (v : ℕ). IsFreePlace inst sched v m 1 (track m)) (sym on) (stands m))

    ahead_is : (v : ℕ) (y : ℤ) → scaled inst 1 (bay_ahead inst v y w)
        ≡ (scaled inst 1 y +ℤ scaled inst 1 (pos (inst.gap * (w - v))))
    ahead_is v y = scaled_sum (1 * inst.travel) (bay_ahead inst v y w) y (pos (inst.gap * (w - v))) refl

    behind_is : (v : ℕ) (y : ℤ) → scaled inst 1 y
        ≡ (scaled inst 1 (bay_behind inst v y w) +ℤ scaled inst 1 (pos (inst.gap * (v - w))))
    behind_is v y = scaled_sum (1 * inst.travel) y (bay_behind inst v y w) (pos (inst.gap * (v - w))) (omega (arith, ints))

    -- while crane v does a task it is where it may be
    pub allows : (cranes : List (Option ℕ)) (j v : ℕ) → j < count → crane_of sched j ≡ v
        → Allows inst cranes w track end (start_of sched) j v
    allows cranes j v low on =
        let m = start_of sched j in
        let soon : m ≤ 1 * end = omega (arith, (starts_within j low).0) in
        let there = f.crane_range j low in
        let v_in : v < length inst.cranes = omega (arith, there, on) in
        let other = free_place_exists inst sched v m 1 v_in in
        let is = at_bay v_in other.0 other.1 in
        record {
          here = λ e. works j m low (on ∙ e) (omega arith) (omega arith);
          over = λ less.
              let margin = safe.margin v w m other.0 (track m) less is_crane soon other.1 (stands m) in
              omega (arith, ints, margin, is, ahead_is v (bay_of inst j));
          under = λ more.
              let margin = safe.margin w v m (track m) other.0 more v_in soon (stands m) other.1 in
              omega (arith, ints, margin, is, behind_is v (bay_of inst j));
        }
      where
        at_bay : v < length inst.cranes → (p : ℤ) → IsFreePlace inst sched v (start_of sched j) 1 p
            → p ≡ scaled inst 1 (bay_of inst j)
        at_bay v_in p is =
            safe.at_task j (start_of sched j) p low (omega arith) (omega arith)
            (subst (λ (u : ℕ). IsFreePlace inst sched u (start_of sched j) 1 p) (sym on) is)

    -- ---- work, wait and way

    abbrev does : ℕ → Bool
    does j = eqb (crane_of sched j) w

    abbrev none : ℕ → ℕ → ℕ
    none i j = 0

    abbrev lasts : ℕ → ℕ
    lasts j = ticks_of inst j

    abbrev starts_at : ℕ → ℕ
    starts_at j = start_of sched j

    abbrev IsOn : ℕ → Type 0
    IsOn j = (j < count) × (crane_of sched j ≡ w)

    two_clear : (i j : ℕ) → IsOn i → IsOn j → i ≢ j → AreClear starts_at lasts none i j
    two_clear i j on_i on_j differ = elim (f.travel i j on_i.0 on_j.0 differ (on_i.1 ∙ sym on_j.1)) [
      | inl h ↦ inl (omega (arith, h))
      | inr h ↦ inr (omega (arith, h))
    ]

    tasks_clear : AllClear starts_at lasts none (filter does (task_numbers inst))
    tasks_clear =
        clear_from starts_at lasts none does 0 count
        (λ i j less low s t. two_clear i j (omega arith, eqb-true (crane_of sched i) w s)
        (omega arith, eqb-true (crane_of sched j) w t) (λ e. omega arith))

    on_of : (j : ℕ) → Among (filter does (task_numbers inst)) j → IsOn j
    on_of j a =
        let r = filter_among does (task_numbers inst) j a in
        let k = range_among j 0 count r.0 in
        (omega (arith, k.1), eqb-true (crane_of sched j) w r.1)

    -- while it works it doesn't go
    stays : (j : ℕ) → IsOn j → moved track (end_of inst sched j) ≡ moved track (start_of sched j)
    stays j on =
        goes_nowhere track (start_of sched j) (end_of inst sched j) (omega arith) (λ k from less.
        works j k on.0 on.1 from (omega arith) ∙ sym (works j (k + 1) on.0 on.1 (omega arith) (omega arith)))

    waited : (crane inst w).ready ≤ end → moved track (crane inst w).ready ≡ 0
    waited soon =
        goes_nowhere track 0 (crane inst w).ready (omega arith) (λ k from less.
        waits k (omega arith) (omega arith) ∙ sym (waits (k + 1) (omega arith) (omega arith)))

    slowly : (m n : ℕ) → m ≤ n → n ≤ end → moved track n ≤ moved track m + (n - m)
    slowly m n order low = goes_slowly track m n order (λ k less. steps k (omega arith))

    -- tasks in a row and the way beside them
    row_spent : (from : ℕ → ℕ) (begun : ℕ) (js : List ℕ) → begun ≤ end → ((k : ℕ) → begun ≤ from k)
        → Row starts_at lasts none from js → ((j : ℕ) → Among js j → IsOn j)
        → begun + sum_by lasts js + moved track end ≤ end + moved track begun
    row_spent from begun [] soon later row only =
        let slow = slowly begun end soon (omega arith) in omega (arith, slow)
    row_spent from begun (j ∷ js) soon later row only =
        let on = only j (inl refl) in
        let within = starts_within j on.0 in
        let rest =
        row_spent (λ k. starts_at j + lasts j + none j k) (starts_at j + lasts j) js within.1 (λ k. omega arith) row.1
        (λ k a. only k (inr a)) in
        let still = stays j on in
        let before : begun ≤ starts_at j = omega (arith, later j, row.0) in
        let slow = slowly begun (starts_at j) before within.0 in
        omega (arith, rest, still, slow, before, sum_by-cons lasts j js)

    pub spent : (crane inst w).ready ≤ end
        → (crane inst w).ready + ticks_over inst (filter does (task_numbers inst)) + moved track end ≤ end
    spent soon =
        let ready = (crane inst w).ready in
        let row =
        row_of starts_at lasts none (λ _. ready) (filter does (task_numbers inst))
        (λ j a. comes j (on_of j a)) tasks_clear in
        let all = row_spent (λ _. ready) ready row.order soon (λ k. omega arith) row.row (λ j a. on_of j (row.only j a)) in
        omega (arith, all, row.ticks, waited soon)
      where
        comes : (j : ℕ) → IsOn j → (crane inst w).ready ≤ start_of sched j
        comes j on =
            let there = subst (λ (v : ℕ). arrival inst v (bay_of inst j) ≤ start_of sched j) on.1 (f.ready j on.0).1 in
            omega (arith, there)

    -- a crane that goes at all is ready before the end
    pub goes_soon : 0 < moved track end → (crane inst w).ready ≤ end
    goes_soon some = elim (cases_lt end (crane inst w).ready) [
      | inl early ↦
          let none_gone = goes_nowhere track 0 end (omega arith) (λ k from less.
          waits k (omega arith) (omega arith) ∙ sym (waits (k + 1) (omega arith) (omega arith))) in
          absurd (omega (arith, some, none_gone))
      | inr late ↦ late
    ]
