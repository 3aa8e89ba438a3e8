-- Every one-way schedule moves safely.
use Rattle.std.proofs.Common.{◌≡◌, ℕ, ◌+◌, ◌-◌, ◌*◌, ◌<◌, ◌≤◌, ℤ, pos, ◌+ℤ◌, ◌-ℤ◌, List, length, subst, sym, refl, ap, ◌∙◌, arith}
use Rattle.std.proofs.lemmas.Int.{ints}
use Rattle.qc_model.specs.declared.direction.Direction.{Direction}
use Rattle.qc_model.specs.declared.direction.Direction.TheVariants.{Up, Down}
use Rattle.qc_model.specs.declared.schedule.Slot.{Slot}
use Rattle.qc_model.specs.Instance.{InstanceView, Valid, bay_of, crane, mirror_bay}
use Rattle.qc_model.specs.Motion.{IsPlace, IsSafe, IsSafeBy, LowPlace, scaled}
use Rattle.qc_model.specs.Judge.{Goes}
use Rattle.qc_model.specs.OneWay.{GoesDown, GoesUp, mirror, mirror_crane, mirror_schedule, mirror_slot}
use Rattle.qc_model.specs.Rules.{crane_of, ends, start_of}
use Rattle.qc_model.proofs.MirrorLemmas.{mirror_valid}
use Rattle.qc_model.proofs.SeenLemmas.{seen-bay_of, seen-crane, seen-crane_count, seen-crane_of, seen-ends, seen-start_of, seen-task_count, seen-ticks_of}
use Rattle.qc_model.proofs.Scaled.{scaled_sum}
use Rattle.std.proofs.lemmas.List.{length-map}
use Rattle.qc_model.proofs.Levels.{HasLevels, before, levels_of, visits_of}
use Rattle.qc_model.proofs.Moves.{onward}
use Rattle.qc_model.proofs.Places.{floor_exists, place_exists, up_low}
use Rattle.qc_model.proofs.PlaceTerms.{has_floor, top_of}
use Rattle.qc_model.proofs.Standing.{StandSafely, stand_safely}

module _ (inst : InstanceView) (sched : List Slot) (valid : Valid inst) (goes : GoesUp inst sched) (d : ℕ) where
  levels : HasLevels inst sched d
  levels = levels_of inst sched goes valid d

  pub up_stand : StandSafely inst sched d (λ k m. LowPlace inst sched k m d)
  up_stand = stand_safely inst sched d (before sched d) (visits_of inst sched d levels) goes.feasible levels.berths
      (λ k m. LowPlace inst sched k m d) (λ k m. up_low inst sched k m d)

  up_safe : IsSafeBy inst sched Up d
  up_safe = record {
    somewhere = λ k m low _. up_stand.somewhere k m low;
    margin = λ v w m p q lower high _. up_stand.margin v w m p q lower high;
    at_task = up_stand.at_task;
    at_berth = λ k m p low _. up_stand.at_berth k m p low;
    speed = λ k m p q low _. up_stand.speed k m p q low;
    one_way = λ j m p q low begun _ g h.
        let k = crane_of sched j in
        let (x, f) = floor_exists inst sched k (goes.feasible.crane_range j low) in
        let one = top_of inst sched k x d (before sched d) m _ (up_low inst sched k m d x f) p g in
        let next = top_of inst sched k x d (before sched d) (m + 1) _ (up_low inst sched k (m + 1) d x f) q h in
        let on = onward inst sched d levels k x (has_floor inst sched d k x f) j m q low refl begun next one.from in
        omega (arith, ints, one.is, on);
  }

-- ---- going down

-- the place of a bay from the other end
turned_is : (inst : InstanceView) (d : ℕ) (x y : ℤ) → y ≡ mirror_bay inst x
    → scaled inst d (pos (inst.bays + 1)) ≡ (scaled inst d y +ℤ scaled inst d x)
turned_is inst d x y e = scaled_sum (d * inst.travel) (pos (inst.bays + 1)) y x (omega (arith, ints))

module _ (inst : InstanceView) (sched : List Slot) (valid : Valid inst) (goes : GoesDown inst sched) (d : ℕ) where
  -- all as it is seen from the other end
  abbrev other : InstanceView
  other = mirror inst

  abbrev others : List Slot
  others = mirror_schedule inst sched

  abbrev number : ℕ → ℕ
  number k = length inst.cranes - 1 - k

  abbrev over : ℤ → ℤ
  over p = scaled inst d (pos (inst.bays + 1)) -ℤ p

  safe : IsSafeBy other others Up d
  safe = up_safe other others (mirror_valid inst valid) goes.mirrored d

  crane_there : (k : ℕ) → k < length inst.cranes → number k < length other.cranes
  crane_there k low = omega (arith, seen-crane_count inst Down)

  task_there : (j : ℕ) → j < length inst.tasks → j < length other.tasks
  task_there j low = omega (arith, seen-task_count inst Down)

  slot_there : (j : ℕ) → j < length inst.tasks → j < length sched
  slot_there j low =
      let count = goes.mirrored.feasible.all_tasks in
      omega (arith, length-map sched (mirror_slot inst), count, seen-task_count inst Down)

  within : (m : ℕ) → m ≤ d * ends inst sched → m ≤ d * ends other others
  within m early = omega (arith, ap (λ n. d * n) (seen-ends inst sched Down))

  start_is : (j : ℕ) → j < length inst.tasks → d * start_of others j ≡ d * start_of sched j
  start_is j low = ap (λ s. d * s) (seen-start_of inst sched Down j (slot_there j low))

  crane_is : (k : ℕ) → k < length inst.cranes → crane other (number k) ≡ mirror_crane inst (crane inst k)
  crane_is k low =
      let back : number (number k) ≡ k = omega arith in
      seen-crane inst Down (number k) (omega arith) ∙ ap (λ n. mirror_crane inst (crane inst n)) back

  place_is : (j m : ℕ) (p : ℤ) → j < length inst.tasks → IsPlace inst sched Down (crane_of sched j) m d p
      → IsPlace other others Up (crane_of others j) m d (over p)
  place_is j m p low g =
      subst (λ (k : ℕ). IsPlace other others Up k m d (over p))
      (sym (seen-crane_of inst sched Down j (slot_there j low))) g

  down_safe : IsSafeBy inst sched Down d
  down_safe = record {
    somewhere = λ k m low _. place_exists inst sched Down k m d low;
    margin = λ v w m p q lower high early g h.
        let there = crane_there v (omega arith) in
        let apart = safe.margin (number w) (number v) m (over q) (over p) (omega arith) there
        (within m early) h g in
        let same : number v - number w ≡ w - v = omega arith in
        let gaps = ap (λ n. scaled inst d (pos (inst.gap * n))) same in
        omega (arith, ints, apart, gaps);
    at_task = λ j m p low begun going g.
        let ticks = ap (λ n. d * n) (seen-ticks_of inst Down j low) in
        let there = safe.at_task j m (over p) (task_there j low) (omega (arith, start_is j low))
        (omega (arith, start_is j low, ticks)) (place_is j m p low g) in
        omega (arith, ints, there, turned_is inst d (bay_of inst j) _ (seen-bay_of inst Down j low));
    at_berth = λ k m p low early till g.
        let same = crane_is k low in
        let ready = ap (λ c. d * c.ready) same in
        let there = safe.at_berth (number k) m (over p) (crane_there k low) (within m early)
        (omega (arith, ready)) g in
        omega (arith, ints, there, turned_is inst d (crane inst k).bay _ (ap (λ c. c.bay) same));
    speed = λ k m p q low early g h.
        let step = safe.speed (number k) m (over p) (over q) (crane_there k low) (within (m + 1) early) g h in
        (omega (arith, ints, step), omega (arith, ints, step));
    one_way = λ j m p q low begun early g h.
        let on = safe.one_way j m (over p) (over q) (task_there j low) (omega (arith, start_is j low))
        (within (m + 1) early) (place_is j m p low g) (place_is j (m + 1) q low h) in
        omega (arith, ints, on);
  }

pub safe_of : (inst : InstanceView) (sched : List Slot) (way : Direction) → Valid inst → Goes inst sched way
    → IsSafe inst sched way
safe_of inst sched Up valid goes d _ = up_safe inst sched valid goes d
safe_of inst sched Down valid goes d _ = down_safe inst sched valid goes d
