-- Where the places of an upward schedule move on.
use Rattle.std.proofs.Common.{◌≡◌, ℕ, ◌+◌, ◌*◌, ◌<◌, ◌≤◌, ℤ, ◌+ℤ◌, ◌≤ℤ◌, inl, inr, List, length, arith}
use Rattle.std.proofs.lemmas.Bool.{cases_lt}
use Rattle.std.proofs.lemmas.Int.{ints}
use Rattle.qc_model.specs.declared.schedule.Slot.{Slot}
use Rattle.qc_model.specs.Instance.{InstanceView}
use Rattle.qc_model.specs.Rules.{crane_of, start_of}
use Rattle.qc_model.proofs.Levels.{HasLevels, before, berth_at, task_at, task_level}
use Rattle.qc_model.proofs.Places.{Term}
use Rattle.qc_model.proofs.Places.Term.{berth, floor, task}
use Rattle.qc_model.proofs.PlaceTerms.{FloorOf, HasFloor, IsTop, floor_level, level_at, lift}
use Rattle.qc_model.proofs.PlaceTerms.FloorOf.{at_berth, at_task}

module _ (inst : InstanceView) (sched : List Slot) (d : ℕ) (h : HasLevels inst sched d) (k : ℕ) (x : ℤ)
    (f : HasFloor inst sched d k (floor_level inst d k x)) where
  -- no berth is above the floor from the start of a task on that isn't above it
  after_floor : (q m : ℕ) → q < length inst.tasks → k ≤ crane_of sched q
      → task_level inst sched d q ≤ℤ floor_level inst d k x → d * start_of sched q ≤ m
      → (v : ℕ) → v ≤ k → berth_at inst d v m ≤ℤ floor_level inst d k x
  after_floor q m low above is begun v below =
      let rule = h.berths.leaves q v m low (omega arith) begun in omega (arith, ints, rule)

  -- the moment of the floor: until then no task is above it, and from then on no berth
  pub record HasMoment (tick : ℕ) : Type 0 where
    pub tasks : (m : ℕ) → m ≤ d * tick → (i : ℕ) → i < length inst.tasks → crane_of sched i ≤ k
        → task_at inst sched d i m ≤ℤ floor_level inst d k x
    pub berths : (m : ℕ) → d * tick ≤ m → (v : ℕ) → v ≤ k → berth_at inst d v m ≤ℤ floor_level inst d k x

  pub floor_moment : FloorOf inst sched d k (floor_level inst d k x) → (tick : ℕ) × HasMoment tick
  floor_moment (at_berth w high above is) = (
    0,
    record {
      tasks = λ m early i low below.
          let rule = h.berths.waits i w 0 low high (omega arith) (omega arith) in omega (arith, ints, is, rule);
      berths = λ m late v below.
          let rule = h.berths.order v w (omega arith) high in omega (arith, ints, is, rule);
    },
  )
  floor_moment (at_task q high above is) = (
    start_of sched q,
    record {
      tasks = λ m early i low below.
          let rule = h.climbs q i high low (omega arith) in omega (arith, ints, is, rule);
      berths = λ m late. after_floor q m high above (omega (arith, ints, is)) late;
    },
  )

  -- from a start of the crane on, no berth is above the floor
  berths_low : (j m : ℕ) → j < length inst.tasks → crane_of sched j ≡ k → d * start_of sched j ≤ m
      → (v : ℕ) → v ≤ k → berth_at inst d v m ≤ℤ floor_level inst d k x
  berths_low j m low on begun =
      let moment = floor_moment f.from in
      elim (cases_lt m (d * moment.0)) [
        | inl early ↦
            let under = moment.1.tasks m (omega arith) j low (omega arith) in
            after_floor j m low (omega arith) (omega (arith, ints, under)) begun
        | inr late ↦ moment.1.berths m late
      ]

  -- from a start of the crane on, no term is above the place a part later
  pub onward : (j m : ℕ) (q : ℤ) → j < length inst.tasks → crane_of sched j ≡ k → d * start_of sched j ≤ m
      → IsTop inst sched k x d (before sched d) (m + 1) q
      → (t : Term inst sched k) → (level_at inst sched k x d (before sched d) t m +ℤ lift inst d k) ≤ℤ q
  onward j m q low on begun top (task i there below) =
      let most = top.most (task i there below) in omega (arith, ints, most)
  onward j m q low on begun top (berth v below) =
      let most = top.most floor in
      let under = berths_low j m low on begun v below in
      omega (arith, ints, most, under)
  onward j m q low on begun top floor = top.most floor
