-- Where tasks and berths keep their rules cranes stand and move safely, whichever way they go.
use Rattle.std.proofs.Common.{◌≡◌, ℕ, ◌+◌, ◌-◌, ◌*◌, ◌<◌, ◌≤◌, ℤ, pos, ◌+ℤ◌, ◌-ℤ◌, ◌≤ℤ◌, List, length, refl, arith}
use Rattle.std.proofs.lemmas.Int.{ints}
use Rattle.qc_model.specs.declared.schedule.Slot.{Slot}
use Rattle.qc_model.specs.Instance.{InstanceView, bay_of, crane}
use Rattle.qc_model.specs.Motion.{IsFloor, IsGreatest, scaled}
use Rattle.qc_model.specs.Rules.{Feasible, crane_of, end_of, start_of}
use Rattle.qc_model.proofs.Levels.{HasBerths, HasVisits, berth_level, task_level}
use Rattle.qc_model.proofs.Places.{AreLow, Term, floor_exists, greatest_exists}
use Rattle.qc_model.proofs.Places.Term.{berth, floor, task}
use Rattle.qc_model.proofs.PlaceTerms.{FloorOf, HasFloor, IsTop, berth-lifted, floor_level, has_floor, level_at, lift, lift_further, task-lifted, top_of}
use Rattle.qc_model.proofs.PlaceTerms.FloorOf.{at_berth, at_task}

module _ (inst : InstanceView) (sched : List Slot) (d : ℕ) where
  -- what makes motion safe where the places are the greatest of a kind
  pub record StandSafely (P : ℕ → ℕ → ℤ → Type 0) : Type 0 where
    pub somewhere : (k m : ℕ) → k < length inst.cranes → (p : ℤ) × IsGreatest (P k m) p
    pub margin : (v w m : ℕ) (p q : ℤ) → v < w → w < length inst.cranes → IsGreatest (P v m) p
        → IsGreatest (P w m) q → (p +ℤ scaled inst d (pos (inst.gap * (w - v)))) ≤ℤ q
    pub at_task : (j m : ℕ) (p : ℤ) → j < length inst.tasks
        → d * start_of sched j ≤ m → m ≤ d * end_of inst sched j
        → IsGreatest (P (crane_of sched j) m) p → p ≡ scaled inst d (bay_of inst j)
    pub at_berth : (k m : ℕ) (p : ℤ) → k < length inst.cranes → m ≤ d * (crane inst k).ready
        → IsGreatest (P k m) p → p ≡ scaled inst d (crane inst k).bay
    pub speed : (k m : ℕ) (p q : ℤ) → k < length inst.cranes → IsGreatest (P k m) p
        → IsGreatest (P k (m + 1)) q → ((p -ℤ pos 1) ≤ℤ q) × (q ≤ℤ (p +ℤ pos 1))

module _ (inst : InstanceView) (sched : List Slot) (d : ℕ) (off : ℕ → ℕ → ℕ)
    (h : HasVisits inst sched d off) where
  module _ (k : ℕ) (x : ℤ) where
    -- the level of a term
    abbrev at : Term inst sched k → ℕ → ℤ
    at t m = level_at inst sched k x d off t m

    -- a term moves by at most one a part
    pub step : (m : ℕ) (t : Term inst sched k)
        → ((at t m -ℤ pos 1) ≤ℤ at t (m + 1)) × (at t (m + 1) ≤ℤ (at t m +ℤ pos 1))
    step m (task i there below) =
        let near = h.near i m in (omega (arith, ints, near.1), omega (arith, ints, near.0))
    step m (berth v below) = (omega (arith, ints), omega (arith, ints))
    step m floor = (omega (arith, ints), omega (arith, ints))

    module _ (b : HasBerths inst sched d) (f : HasFloor inst sched d k (floor_level inst d k x)) where
      -- while a task of the crane is done, no term is above it
      task_most : (j m : ℕ) → j < length inst.tasks → crane_of sched j ≡ k
          → d * start_of sched j ≤ m → m ≤ d * end_of inst sched j
          → (t : Term inst sched k) → at t m ≤ℤ task_level inst sched d j
      task_most j m low on begun going (task i there below) = h.visits i j m there low (omega arith) begun going
      task_most j m low on begun going (berth v below) = b.leaves j v m low (omega arith) begun
      task_most j m low on begun going floor = f.tasks j low (omega arith)

      -- until the crane is ready, no term is above its berth
      berth_most : (m : ℕ) → k < length inst.cranes → m ≤ d * (crane inst k).ready
          → (t : Term inst sched k) → at t m ≤ℤ berth_level inst d k
      berth_most m high early (task i there below) =
          let rule = b.waits i k m there high below early in
          let far = h.coming i m in omega (arith, ints, rule, far)
      berth_most m high early (berth v below) =
          let rule = b.order v k below high in omega (arith, ints, rule)
      berth_most m high early floor = f.berths k high (omega arith)

  -- the floor of a crane
  abbrev bottom : (k : ℕ) → k < length inst.cranes → ℤ
  bottom k low = (floor_exists inst sched k low).0

  floored : (k : ℕ) (low : k < length inst.cranes)
      → HasFloor inst sched d k (floor_level inst d k (bottom k low))
  floored k low = has_floor inst sched d k (bottom k low) (floor_exists inst sched k low).1

  -- each term of a lower crane is one of a higher crane, or is below its floor
  carried : (v w m : ℕ) (q : ℤ) (lower : v < w) (low : v < length inst.cranes) (high : w < length inst.cranes)
      → IsTop inst sched w (bottom w high) d off m q
      → (t : Term inst sched v) → (level_at inst sched v (bottom v low) d off t m +ℤ lift inst d w) ≤ℤ q
  carried v w m q lower low high top (task i there below) = top.most (task i there (omega arith))
  carried v w m q lower low high top (berth u below) = top.most (berth u (omega arith))
  carried v w m q lower low high top floor = under (floored w high).from
    where
      under : FloorOf inst sched d w (floor_level inst d w (bottom w high))
          → (floor_level inst d v (bottom v low) +ℤ lift inst d w) ≤ℤ q
      under (at_task j there above is) =
          let lies = (floored v low).tasks j there (omega arith) in
          let most = top.most floor in omega (arith, ints, lies, is, most)
      under (at_berth u there above is) =
          let lies = (floored v low).berths u there (omega arith) in
          let most = top.most floor in omega (arith, ints, lies, is, most)

  module _ (feasible : Feasible inst sched) (b : HasBerths inst sched d) (P : ℕ → ℕ → ℤ → Type 0)
      (are : (k m : ℕ) (x : ℤ) → IsFloor inst sched k x → AreLow inst sched k x d off m (P k m)) where
    low_of : (k m : ℕ) (low : k < length inst.cranes) → AreLow inst sched k (bottom k low) d off m (P k m)
    low_of k m low = are k m (bottom k low) (floor_exists inst sched k low).1

    top : (k m : ℕ) (p : ℤ) (low : k < length inst.cranes) → IsGreatest (P k m) p
        → IsTop inst sched k (bottom k low) d off m p
    top k m p low g = top_of inst sched k (bottom k low) d off m (P k m) (low_of k m low) p g

    pub stand_safely : StandSafely inst sched d P
    stand_safely = record {
      somewhere = λ k m low. greatest_exists inst sched k (bottom k low) d off m (P k m) (low_of k m low);
      margin = λ v w m p q lower high g h.
          let low : v < length inst.cranes = omega arith in
          let one = top v m p low g in
          let other = carried v w m q lower low high (top w m q high h) one.from in
          omega (arith, ints, one.is, other, lift_further inst d v w lower);
      at_task = λ j m p low begun going g.
          let on = feasible.crane_range j low in
          let one = top (crane_of sched j) m p on g in
          let own = one.most (task j low (omega arith)) in
          let most = task_most _ _ b (floored _ on) j m low refl begun going one.from in
          omega (arith, ints, one.is, own, most, h.done j m begun going, task-lifted inst sched d j);
      at_berth = λ k m p low early g.
          let one = top k m p low g in
          let own = one.most (berth k (omega arith)) in
          let most = berth_most _ _ b (floored k low) m low early one.from in
          omega (arith, ints, one.is, own, most, berth-lifted inst sched d k);
      speed = λ k m p q low g h.
          let one = top k m p low g in
          let other = top k (m + 1) q low h in
          let rise = one.most other.from in
          let fall = other.most one.from in
          let up = step k (bottom k low) m other.from in
          let down = step k (bottom k low) m one.from in
          (omega (arith, ints, one.is, fall, down), omega (arith, ints, other.is, rise, up));
    }
