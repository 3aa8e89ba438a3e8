-- The rules of an upward schedule on one scale. The level of a bay for a crane is its place with the gaps of
-- the crane's number taken off, so that cranes at their least distance stand at one level. Each rule says
-- where a task or a berth has a crane at the moment of another.
use Rattle.std.proofs.Common.{◌≡◌, ℕ, zero, suc, ◌+◌, ◌-◌, ◌*◌, ◌<◌, ◌≤◌, ℤ, pos, ◌+ℤ◌, ◌-ℤ◌, ◌≤ℤ◌, ◌<ℤ◌, inl, inr, List, length, ap, sym, subst, ◌∙◌, arith, mul-le-mul_left}
use Rattle.std.proofs.lemmas.Bool.{cases_lt, cases_order, le-ltb, lt-ltb}
use Rattle.std.proofs.lemmas.Int.{by_lt_z, ints}
use Rattle.qc_model.specs.declared.schedule.Slot.{Slot}
use Rattle.qc_model.specs.Bays.{bays_between, bays_up}
use Rattle.qc_model.specs.Instance.{HasValidCranes, InstanceView, Valid, bay_of, crane}
use Rattle.qc_model.specs.Motion.{scaled}
use Rattle.qc_model.specs.OneWay.{GoesUp}
use Rattle.qc_model.specs.Rules.{Feasible, crane_of, end_of, start_of}
use Rattle.qc_model.specs.Ticks.{arrival, distance}
use Rattle.qc_model.proofs.Bays.{bays}
use Rattle.qc_model.proofs.GoesLemmas.{distance_swapped}
use Rattle.qc_model.proofs.Scaled.{scaled_late, scaled_le}

-- a bay with the gaps of a crane's number taken off
abbrev pub lowered : InstanceView → ℕ → ℤ → ℤ
lowered inst v x = x -ℤ pos (inst.gap * v)

-- the lowered bays of a task and of a berth
abbrev pub bay_on : InstanceView → List Slot → ℕ → ℤ
bay_on inst sched i = lowered inst (crane_of sched i) (bay_of inst i)

abbrev pub berth_of : InstanceView → ℕ → ℤ
berth_of inst v = lowered inst v (crane inst v).bay

unfoldable pub task_level : InstanceView → List Slot → ℕ → ℕ → ℤ
task_level inst sched d i = scaled inst d (bay_on inst sched i)

unfoldable pub berth_level : InstanceView → ℕ → ℕ → ℤ
berth_level inst d v = scaled inst d (berth_of inst v)

-- by how many parts of a tick a moment lies before the start of task i
abbrev pub before : List Slot → ℕ → ℕ → ℕ → ℕ
before sched d i m = d * start_of sched i - m

-- where task i has its crane at a moment, and where its berth has crane v
abbrev pub task_at : InstanceView → List Slot → ℕ → ℕ → ℕ → ℤ
task_at inst sched d i m = task_level inst sched d i -ℤ pos (d * start_of sched i - m)

abbrev pub berth_at : InstanceView → ℕ → ℕ → ℕ → ℤ
berth_at inst d v m = berth_level inst d v -ℤ pos (m - d * (crane inst v).ready)

-- the rules of berths, whichever way cranes go
pub record HasBerths (inst : InstanceView) (sched : List Slot) (d : ℕ) : Type 0 where
  -- from the start of task j on no berth of the same or a lower crane has it higher
  pub leaves : (j v m : ℕ) → j < length inst.tasks → v ≤ crane_of sched j → d * start_of sched j ≤ m
      → berth_at inst d v m ≤ℤ task_level inst sched d j
  -- until crane v is ready no coming task of the same or a lower crane has it higher
  pub waits : (i v m : ℕ) → i < length inst.tasks → v < length inst.cranes → crane_of sched i ≤ v
      → m ≤ d * (crane inst v).ready → task_at inst sched d i m ≤ℤ berth_level inst d v
  -- berths rise
  pub order : (v w : ℕ) → v ≤ w → w < length inst.cranes → berth_level inst d v ≤ℤ berth_level inst d w

-- those of tasks, task i being off i m parts of a tick away at moment m
pub record HasVisits (inst : InstanceView) (sched : List Slot) (d : ℕ) (off : ℕ → ℕ → ℕ) : Type 0 where
  -- while task j is done no task of the same or a lower crane has it higher
  pub visits : (i j m : ℕ) → i < length inst.tasks → j < length inst.tasks → crane_of sched i ≤ crane_of sched j
      → d * start_of sched j ≤ m → m ≤ d * end_of inst sched j
      → (task_level inst sched d i -ℤ pos (off i m)) ≤ℤ task_level inst sched d j
  -- a task to come is away by what is left to its start at least, one that is done isn't
  pub coming : (i m : ℕ) → before sched d i m ≤ off i m
  pub done : (i m : ℕ) → d * start_of sched i ≤ m → m ≤ d * end_of inst sched i → off i m ≡ 0
  -- none comes or goes by more than one part a part
  pub near : (i m : ℕ) → (off i m ≤ off i (m + 1) + 1) × (off i (m + 1) ≤ off i m + 1)

-- those of an upward schedule
pub record HasLevels (inst : InstanceView) (sched : List Slot) (d : ℕ) : Type 0 where
  -- at the end of task i a task of the same or a lower crane has it no higher
  pub climbs : (i j : ℕ) → i < length inst.tasks → j < length inst.tasks → crane_of sched j ≤ crane_of sched i
      → task_at inst sched d j (d * end_of inst sched i) ≤ℤ task_level inst sched d i
  pub berths : HasBerths inst sched d

pub visits_of : (inst : InstanceView) (sched : List Slot) (d : ℕ) → HasLevels inst sched d
    → HasVisits inst sched d (before sched d)
visits_of inst sched d h = record {
  visits = λ i j m low high below begun going.
      let rule = h.climbs j i high low below in omega (arith, ints, rule);
  coming = λ i m. omega arith;
  done = λ i m begun going. omega arith;
  near = λ i m. (omega arith, omega arith);
}

-- ---- on bays

apart_bays : (g v w u : ℕ) (x y : ℤ) → v ≡ w + u
    → bays_up x (y +ℤ pos (g * u)) ≡ bays_up (x -ℤ pos (g * v)) (y -ℤ pos (g * w))
apart_bays g v w u x y e = let parts = ap (λ m. g * m) e in omega (arith, bays)

pub distance-lowered : (inst : InstanceView) (v : ℕ) (x : ℤ) (w : ℕ) (y : ℤ) → w < v
    → distance inst v x w y ≡ inst.travel * bays_up (lowered inst v x) (lowered inst w y)
distance-lowered inst v x w y h =
    let p : w ≤ v = omega arith in
    let e : v ≡ w + (v - w) = omega arith in
    rw (le-ltb v w p, lt-ltb w v h) (ap (λ b. inst.travel * b) (apart_bays inst.gap v w (v - w) x y e))

same_lowered : (g v w : ℕ) (x y : ℤ) → v ≡ w → bays_up (x -ℤ pos (g * v)) (y -ℤ pos (g * w)) ≡ bays_up x y
same_lowered g v w x y e = let parts = ap (λ m. g * m) e in omega (arith, bays)

above_of : (t : ℕ) (x y : ℤ) → 0 < t * bays_up x y → x <ℤ y
above_of t x y h = by_lt_z x y (λ up. up) (λ down.
    let none : bays_up x y ≡ 0 = omega (arith, bays) in
    absurd (omega (arith, ap (λ b. t * b) none)))

-- a way up is part of the way between
pub one_way : (t : ℕ) (x y : ℤ) → t * bays_up x y ≤ t * bays_between x y
one_way t x y = mul-le-mul_left t (omega arith)

other_way : (t : ℕ) (x y : ℤ) → t * bays_up y x ≤ t * bays_between x y
other_way t x y = mul-le-mul_left t (omega arith)

next_berth : (g k : ℕ) (x y : ℤ) → (x +ℤ pos g) ≤ℤ y → (x -ℤ pos (g * k)) ≤ℤ (y -ℤ pos (g * suc k))
next_berth g k x y h = omega (arith, ints)

same_berth : (inst : InstanceView) (v w : ℕ) → v ≡ w → berth_of inst v ≤ℤ berth_of inst w
same_berth inst v w e = subst (λ (u : ℕ). berth_of inst v ≤ℤ berth_of inst u) e (omega (arith, ints))

berths_rise : (inst : InstanceView) → HasValidCranes inst → (v w : ℕ) → v ≤ w → w < length inst.cranes
    → berth_of inst v ≤ℤ berth_of inst w
berths_rise inst cranes v zero order high = same_berth inst v zero (omega arith)
berths_rise inst cranes v (suc w) order high =
    let e : w + 1 ≡ suc w = omega arith in
    let apart = cranes.order w (omega arith) in
    let step = subst (λ (u : ℕ). ((crane inst w).bay +ℤ pos inst.gap) ≤ℤ (crane inst u).bay) e apart in
    let next = next_berth inst.gap w (crane inst w).bay (crane inst (suc w)).bay step in
    elim (cases_lt w v) [
      | inl l ↦ same_berth inst v (suc w) (omega arith)
      | inr l ↦ let before = berths_rise inst cranes v w l (omega arith) in omega (arith, ints, before, next)
    ]

pub same_way : (inst : InstanceView) (v w : ℕ) (x y : ℤ) → v ≡ w
    → inst.travel * bays_up (lowered inst v x) (lowered inst w y) ≡ inst.travel * bays_up x y
same_way inst v w x y same = ap (λ b. inst.travel * b) (same_lowered inst.gap v w x y same)

-- what the rules of a feasible schedule say of a task and of a berth
module _ (inst : InstanceView) (sched : List Slot) (g : Feasible inst sched) where
  arrives : (j v : ℕ) → j < length inst.tasks → v ≡ crane_of sched j
      → (crane inst v).ready + inst.travel * bays_between (crane inst v).bay (bay_of inst j) ≤ start_of sched j
  arrives j v low same =
      subst (λ (w : ℕ). arrival inst w (bay_of inst j) ≤ start_of sched j) (sym same) (g.ready j low).1

  leaves_by : (j v : ℕ) → j < length inst.tasks → v ≤ crane_of sched j
      → 0 < inst.travel * bays_up (bay_on inst sched j) (berth_of inst v)
      → (crane inst v).ready + inst.travel * bays_up (bay_on inst sched j) (berth_of inst v) ≤ start_of sched j
  leaves_by j v low order near = elim (cases_order v (crane_of sched j)) [
    | inl same ↦
        let bays_same = same_way inst (crane_of sched j) v (bay_of inst j) (crane inst v).bay (sym same) in
        omega (arith, arrives j v low same, bays_same, other_way inst.travel (crane inst v).bay (bay_of inst j))
    | inr u ↦ elim u [
      | inl up ↦
          let turned = distance_swapped inst v (crane inst v).bay (crane_of sched j) (bay_of inst j) in
          let far = turned ∙ distance-lowered inst (crane_of sched j) (bay_of inst j) v (crane inst v).bay up in
          let there = g.crane_range j low in
          let rule = g.berth j v low (omega arith) (λ e. absurd (omega arith)) (omega (arith, far)) in
          omega (arith, far, rule)
      | inr down ↦ absurd (omega arith)
    ]
  ]

  waits_by : (j v : ℕ) → j < length inst.tasks → v < length inst.cranes → crane_of sched j ≤ v
      → 0 < inst.travel * bays_up (berth_of inst v) (bay_on inst sched j)
      → (crane inst v).ready + inst.travel * bays_up (berth_of inst v) (bay_on inst sched j) ≤ start_of sched j
  waits_by j v low high order near = elim (cases_order v (crane_of sched j)) [
    | inl same ↦
        let bays_same = same_way inst v (crane_of sched j) (crane inst v).bay (bay_of inst j) same in
        omega (arith, arrives j v low same, bays_same, one_way inst.travel (crane inst v).bay (bay_of inst j))
    | inr u ↦ elim u [
      | inl up ↦ absurd (omega arith)
      | inr down ↦
          let far = distance-lowered inst v (crane inst v).bay (crane_of sched j) (bay_of inst j) down in
          let rule = g.berth j v low high (λ e. absurd (omega arith)) (omega (arith, far)) in
          omega (arith, far, rule)
    ]
  ]

  pub berths_of : HasValidCranes inst → (d : ℕ) → HasBerths inst sched d
  unfolding task_level berth_level
  berths_of cranes d = record {
    leaves = λ j v m low order begun.
        let far = scaled_late d inst.travel (bay_on inst sched j) (berth_of inst v) _ _
        (leaves_by j v low order) in omega (arith, ints, far);
    waits = λ i v m low high order early.
        let far = scaled_late d inst.travel (berth_of inst v) (bay_on inst sched i) _ _
        (waits_by i v low high order) in omega (arith, ints, far);
    order = λ v w order high. scaled_le (d * inst.travel) _ _ (berths_rise inst cranes v w order high);
  }

module _ (inst : InstanceView) (sched : List Slot) (g : GoesUp inst sched) where
  climbs_by : (i j : ℕ) → i < length inst.tasks → j < length inst.tasks → crane_of sched j ≤ crane_of sched i
      → 0 < inst.travel * bays_up (bay_on inst sched i) (bay_on inst sched j)
      → end_of inst sched i + inst.travel * bays_up (bay_on inst sched i) (bay_on inst sched j)
      ≤ start_of sched j
  climbs_by i j low high order near = elim (cases_order (crane_of sched i) (crane_of sched j)) [
    | inl same ↦
        let bays_same = same_way inst (crane_of sched i) (crane_of sched j) (bay_of inst i) (bay_of inst j) same in
        let up = above_of inst.travel (bay_of inst i) (bay_of inst j) (omega arith) in
        omega (arith, g.upward.one_crane i j low high same up)
    | inr u ↦ elim u [
      | inl up ↦ absurd (omega arith)
      | inr down ↦
          let far = distance-lowered inst _ (bay_of inst i) _ (bay_of inst j) down in
          omega (arith, far, g.upward.two_cranes i j low high down (omega (arith, far)))
    ]
  ]

  pub levels_of : Valid inst → (d : ℕ) → HasLevels inst sched d
  unfolding task_level
  levels_of valid d = record {
    climbs = λ i j low high order.
        scaled_late d inst.travel (bay_on inst sched i) (bay_on inst sched j) _ _ (climbs_by i j low high order);
    berths = berths_of inst sched g.feasible valid.cranes d;
  }
