-- The old order is a feasible schedule of the rest.
use Rattle.std.proofs.Common.{◌≡◌, ◌≢◌, ℕ, ◌+◌, ◌*◌, ◌<◌, ◌≤◌, ℤ, ◌≤ℤ◌, ◌<ℤ◌, inl, inr, List, length, true, refl, sym, ap, subst, ◌∙◌, arith}
use Rattle.std.proofs.lemmas.Bool.{false≢true}
use Rattle.qc_dispatch.specs.declared.stage.Stage.{Stage}
use Rattle.qc_dispatch.specs.declared.stage.Stage.TheVariants.{Waiting, Running, Ended}
use Rattle.qc_dispatch.specs.Course.{Course, is_waiting, stage_of}
use Rattle.qc_dispatch.specs.Order.{AreTied, Leads, gap}
use Rattle.qc_dispatch.specs.Promises.{Keeps}
use Rattle.qc_dispatch.proofs.OrderLemmas.{before_leads, one_leads}
use Rattle.qc_model.specs.declared.schedule.Slot.{Slot}
use Rattle.qc_model.specs.declared.task.Task.{Task}
use Rattle.std.proofs.Math.Nat.{mul-le-mul_left}
use Rattle.qc_model.specs.Bays.{bays_between, bays_up}
use Rattle.qc_model.specs.OneWay.{KeepsClimb, KeepsLead, Upward}
use Rattle.qc_model.proofs.Bays.{bays}
use Rattle.qc_model.specs.Instance.{InstanceView, Valid, bay_of, crane, ticks_of}
use Rattle.qc_model.specs.Rules.{Feasible, IsClear, KeepsApart, KeepsBefore, KeepsBerth, KeepsMargin, KeepsReach, KeepsReady, KeepsTravel, crane_of, end_of, slot_distance, start_of}
use Rattle.qc_model.specs.Ticks.{distance, travel_between}
use Rattle.qc_model.proofs.GoesLemmas.{distance_swapped}
use Rattle.qc_rest.specs.declared.stand.Stand.{Stand}
use Rattle.qc_rest.specs.OldOrder.{IsOldOrder, MayFollowBy}
use Rattle.qc_rest.specs.Progress.{IsLeft, number_of}
use Rattle.qc_rest.specs.Rest.{IsExactRest}
use Rattle.qc_rest.proofs.BayLemmas.{distance_same, travel_swapped}
use Rattle.qc_rest.proofs.LimitLemmas.{free_clear}
use Rattle.qc_rest.proofs.NumberLemmas.{numbered}
use Rattle.qc_rest.proofs.StandLemmas.{distance_at, gap_of_one, gap_of_two}

pub is_left : (s : Stage) → is_waiting s ≡ true → s ≡ Waiting
is_left Waiting h = refl
is_left (Running start) h = absurd (false≢true h)
is_left (Ended start end) h = absurd (false≢true h)

up_within : (t : ℕ) (x y : ℤ) → t * bays_up x y ≤ t * bays_between x y
up_within t x y =
    let e : bays_up x y ≤ bays_between x y = omega (arith, bays) in
    mul-le-mul_left t e

module _ (c : Course) (over : ℕ → ℕ) (stands : List Stand) (places : ℕ → ℤ) (rest : InstanceView) (sched : List Slot)
    (valid : Valid c.inst) (plan : Feasible c.inst c.plan) (keeps : Keeps c)
    (exact : IsExactRest c over stands places rest) (old : IsOldOrder c rest sched) where
  -- what holds of each task that is left holds at each number
  by_number : (P : ℕ → Type 0) → ((j : ℕ) → IsLeft c j → P (number_of c j)) → (a : ℕ) → a < length rest.tasks → P a
  by_number P each a low =
      let is = numbered is_waiting c.stages Waiting a (omega (arith, low, exact.is.tasks_count)) in
      subst P is.number (each is.at (record { task = omega (arith, is.inside, keeps.stages); waits = is_left (stage_of c is.at) is.passes }))

  by_numbers : (P : ℕ → ℕ → Type 0) → ((i j : ℕ) → IsLeft c i → IsLeft c j → P (number_of c i) (number_of c j))
      → (a b : ℕ) → a < length rest.tasks → b < length rest.tasks → P a b
  by_numbers P each a b first second =
      by_number (λ k. P k b) (λ i here. by_number (P (number_of c i)) (λ j there. each i j here there) b second) a first

  may : (j : ℕ) → IsLeft c j → MayFollowBy c rest sched j (start_of sched (number_of c j))
  may j waits = (old.starts j waits (start_of sched (number_of c j))).0 (omega arith)

  bay_at : (j : ℕ) → IsLeft c j → bay_of rest (number_of c j) ≡ bay_of c.inst j
  bay_at j waits = ap (λ (t : Task). t.bay) (exact.is.tasks j waits).same

  ticks_at : (j : ℕ) → IsLeft c j → ticks_of rest (number_of c j) ≡ ticks_of c.inst j
  ticks_at j waits = ap (λ (t : Task). t.ticks) (exact.is.tasks j waits).same

  -- ---- one task

  module _ (j : ℕ) (waits : IsLeft c j) where
    abbrev w : ℕ
    w = crane_of c.plan j

    w_low : w < length c.inst.cranes
    w_low = plan.crane_range j waits.task

    range_now : crane_of sched (number_of c j) < length rest.cranes
    range_now = omega (arith, old.cranes j waits, w_low, exact.is.cranes_count)

    reach_planned : ((crane rest w).from ≤ℤ bay_of rest (number_of c j)) × (bay_of rest (number_of c j) ≤ℤ (crane rest w).to)
    reach_planned =
        let now = exact.is.cranes w w_low in
        let kept = plan.reach j waits.task in
        rw (bay_at j waits) (
          subst (λ (x : ℤ). x ≤ℤ bay_of c.inst j) (sym now.from) kept.0,
          subst (λ (x : ℤ). bay_of c.inst j ≤ℤ x) (sym now.to) kept.1,
        )

    reach_now : KeepsReach rest sched (number_of c j)
    reach_now = rw (old.cranes j waits) reach_planned

    ready_now : KeepsReady rest sched (number_of c j)
    ready_now =
        let is_free = (may j waits).free in
        rw (old.cranes j waits) (omega (arith, is_free), omega (arith, is_free))

    berth_now : (v : ℕ) → v < length rest.cranes → KeepsBerth rest sched (number_of c j) v
    berth_now v high = rw (old.cranes j waits) (λ differ away.
        free_clear rest (number_of c j) w v (start_of sched (number_of c j)) (may j waits).free high away)

  -- ---- two tasks

  module _ (i j : ℕ) (here : IsLeft c i) (there : IsLeft c j) where
    pub ahead : Leads c.inst c.plan i j
        → start_of sched (number_of c i) + ticks_of c.inst i + gap c.inst c.plan i j ≤ start_of sched (number_of c j)
    ahead leads = (may j there).clear i here leads

    end_first : Leads c.inst c.plan i j → end_of rest sched (number_of c i) + gap c.inst c.plan i j ≤ start_of sched (number_of c j)
    end_first leads = omega (arith, ahead leads, ticks_at i here)

  module _ (i j : ℕ) (here : IsLeft c i) (there : IsLeft c j) where
    tied_clear : (ticks : ℕ) → ticks ≤ gap c.inst c.plan i j → ticks ≤ gap c.inst c.plan j i → i ≢ j → AreTied c.inst c.plan i j
        → IsClear rest sched ticks (number_of c i) (number_of c j)
    tied_clear ticks one other differ tied = elim (one_leads c.inst c.plan valid plan i j here.task there.task differ tied) [
      | inl leads ↦ inl (omega (arith, one, end_first i j here there leads))
      | inr leads ↦ inr (omega (arith, other, end_first j i there here leads))
    ]

    two_tasks : number_of c i ≢ number_of c j → i ≢ j
    two_tasks differ e = differ (ap (number_of c) e)

    travel_now : number_of c i ≢ number_of c j → KeepsTravel rest sched (number_of c i) (number_of c j)
    travel_now differ same =
        let one : crane_of c.plan i ≡ crane_of c.plan j = sym (old.cranes i here) ∙ same ∙ old.cranes j there in
        let e : travel_between rest (bay_of rest (number_of c i)) (bay_of rest (number_of c j)) ≡ travel_between c.inst (bay_of c.inst i) (bay_of c.inst j) =
        ap (λ (x : ℤ). travel_between rest x (bay_of rest (number_of c j))) (bay_at i here)
        ∙ ap (travel_between rest (bay_of c.inst i)) (bay_at j there)
        ∙ ap (λ (t : ℕ). t * bays_between (bay_of c.inst i) (bay_of c.inst j)) exact.is.travel in
        let turned = travel_swapped c.inst (bay_of c.inst j) (bay_of c.inst i) in
        tied_clear (travel_between rest (bay_of rest (number_of c i)) (bay_of rest (number_of c j)))
        (omega (arith, e, gap_of_one c.inst c.plan i j one))
        (omega (arith, e, turned, gap_of_one c.inst c.plan j i (sym one)))
        (two_tasks differ) (inr (inr (inl one)))

    before_now : KeepsBefore rest sched (number_of c i) (number_of c j)
    before_now before =
        let leads = before_leads c.inst c.plan valid plan i j (exact.only_before i j here there before) in
        omega (arith, end_first i j here there leads)

    apart_now : KeepsApart rest sched (number_of c i) (number_of c j)
    apart_now apart =
        let is = exact.only_apart i j here there apart in
        let order = (valid.apart.range i j is).0 in
        tied_clear 0 (omega arith) (omega arith) (λ e. absurd (omega (arith, order, e))) (inr (inl (inl is)))

    margin_now : KeepsMargin rest sched (number_of c i) (number_of c j)
    margin_now differ near =
        let v = crane_of sched (number_of c i) in
        let u = crane_of sched (number_of c j) in
        let e : slot_distance rest sched (number_of c i) (number_of c j) ≡ slot_distance c.inst c.plan i j =
        ap (λ (x : ℤ). distance rest v x u (bay_of rest (number_of c j))) (bay_at i here)
        ∙ ap (distance rest v (bay_of c.inst i) u) (bay_at j there)
        ∙ distance_same rest c.inst exact.is.travel exact.is.gap v (bay_of c.inst i) u (bay_of c.inst j)
        ∙ distance_at c.inst v u (crane_of c.plan i) (crane_of c.plan j) (bay_of c.inst i) (bay_of c.inst j) (old.cranes i here) (old.cranes j there) in
        let turned = distance_swapped c.inst (crane_of c.plan i) (bay_of c.inst i) (crane_of c.plan j) (bay_of c.inst j) in
        let others : crane_of c.plan i ≢ crane_of c.plan j = λ same. differ (old.cranes i here ∙ same ∙ sym (old.cranes j there)) in
        tied_clear (slot_distance rest sched (number_of c i) (number_of c j))
        (omega (arith, e, gap_of_two c.inst c.plan i j others))
        (omega (arith, e, turned, gap_of_two c.inst c.plan j i (λ s. others (sym s))))
        (λ same. others (ap (crane_of c.plan) same)) (inr (inr (inr (omega (arith, near, e)))))

  pub old_feasible : Feasible rest sched
  old_feasible = record {
    all_tasks = old.count ∙ sym exact.is.tasks_count;
    crane_range = by_number (λ a. crane_of sched a < length rest.cranes) range_now;
    reach = by_number (KeepsReach rest sched) reach_now;
    ready = by_number (KeepsReady rest sched) ready_now;
    travel = λ a b first second. by_numbers (λ a b. a ≢ b → KeepsTravel rest sched a b) travel_now a b first second;
    before = by_numbers (KeepsBefore rest sched) before_now;
    apart = by_numbers (KeepsApart rest sched) apart_now;
    margin = by_numbers (KeepsMargin rest sched) margin_now;
    berth = λ a v low high. by_number (λ b. KeepsBerth rest sched b v) (λ j waits. berth_now j waits v high) a low;
  }

  -- ---- upward

  module _ (upward : Upward c.inst c.plan) (i j : ℕ) (here : IsLeft c i) (there : IsLeft c j) where
    climb_now : KeepsClimb rest sched (number_of c i) (number_of c j)
    climb_now same less =
        let one : crane_of c.plan i ≡ crane_of c.plan j = sym (old.cranes i here) ∙ same ∙ old.cranes j there in
        let above : bay_of c.inst i <ℤ bay_of c.inst j = rw (bay_at i here, bay_at j there) at less in
        let planned = upward.one_crane i j here.task there.task one above in
        let leads : Leads c.inst c.plan i j = record {
          leader = here.task;
          led = there.task;
          sooner = omega (arith, planned, valid.tasks.ticks i here.task);
          tied = inr (inr (inl one));
        } in
        let way : rest.travel * bays_up (bay_of rest (number_of c i)) (bay_of rest (number_of c j)) ≡ c.inst.travel * bays_up (bay_of c.inst i) (bay_of c.inst j) =
        ap (λ (x : ℤ). rest.travel * bays_up x (bay_of rest (number_of c j))) (bay_at i here)
        ∙ ap (λ (y : ℤ). rest.travel * bays_up (bay_of c.inst i) y) (bay_at j there)
        ∙ ap (λ (t : ℕ). t * bays_up (bay_of c.inst i) (bay_of c.inst j)) exact.is.travel in
        omega (arith, ahead i j here there leads, ticks_at i here, way, gap_of_one c.inst c.plan i j one, up_within c.inst.travel (bay_of c.inst i) (bay_of c.inst j))

    lead_now : KeepsLead rest sched (number_of c i) (number_of c j)
    lead_now lower near =
        let v = crane_of sched (number_of c i) in
        let u = crane_of sched (number_of c j) in
        let e : slot_distance rest sched (number_of c i) (number_of c j) ≡ slot_distance c.inst c.plan i j =
        ap (λ (x : ℤ). distance rest v x u (bay_of rest (number_of c j))) (bay_at i here)
        ∙ ap (distance rest v (bay_of c.inst i) u) (bay_at j there)
        ∙ distance_same rest c.inst exact.is.travel exact.is.gap v (bay_of c.inst i) u (bay_of c.inst j)
        ∙ distance_at c.inst v u (crane_of c.plan i) (crane_of c.plan j) (bay_of c.inst i) (bay_of c.inst j) (old.cranes i here) (old.cranes j there) in
        let order : crane_of c.plan j < crane_of c.plan i = omega (arith, lower, old.cranes i here, old.cranes j there) in
        let far : 0 < slot_distance c.inst c.plan i j = omega (arith, near, e) in
        let planned = upward.two_cranes i j here.task there.task order far in
        let leads : Leads c.inst c.plan i j = record {
          leader = here.task;
          led = there.task;
          sooner = omega (arith, planned, valid.tasks.ticks i here.task);
          tied = inr (inr (inr far));
        } in
        omega (arith, ahead i j here there leads, ticks_at i here, e, gap_of_two c.inst c.plan i j (λ same. omega (arith, order, same)))

  -- the old order goes up where the plan does
  pub old_upward : Upward c.inst c.plan → Upward rest sched
  old_upward upward = record {
    one_crane = by_numbers (KeepsClimb rest sched) (climb_now upward);
    two_cranes = by_numbers (KeepsLead rest sched) (lead_now upward);
  }
