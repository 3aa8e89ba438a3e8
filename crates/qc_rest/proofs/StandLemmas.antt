-- From where a crane stands: what it has begun is over in time for it, and what is left waits for it.
use Rattle.std.proofs.Common.{◌≡◌, ◌≢◌, ℕ, ◌+◌, ◌*◌, ◌<◌, ◌≤◌, ◌⊎◌, ℤ, inl, inr, List, length, true, refl, sym, ap, subst, ◌∙◌, arith}
use Rattle.std.proofs.lemmas.Bool.{cases_eq, cases_lt, eq-eqb, ne_eqb}
use Rattle.qc_dispatch.specs.Course.{Course, is_waiting, stage_of}
use Rattle.qc_dispatch.specs.Order.{gap}
use Rattle.qc_dispatch.specs.Promises.{Keeps}
use Rattle.qc_model.specs.declared.schedule.Slot.{Slot}
use Rattle.qc_model.specs.declared.task.Task.{Task}
use Rattle.qc_model.specs.Instance.{InstanceView, bay_of, crane, ticks_of}
use Rattle.qc_model.specs.Rules.{Feasible, crane_of, slot_distance, start_of}
use Rattle.qc_model.specs.Bays.{bays_between}
use Rattle.qc_model.specs.Ticks.{berth_distance, distance, travel_between}
use Rattle.qc_model.proofs.Bays.{bays}
use Rattle.qc_rest.specs.declared.stand.Stand.{Stand}
use Rattle.qc_rest.specs.Progress.{AreOver, HasBegun, IsLeft, number_of}
use Rattle.qc_rest.specs.Rest.{IsRest}
use Rattle.qc_rest.specs.Stands.{IsLastOf, IsStand, stand_of}
use Rattle.qc_rest.proofs.BayLemmas.{distance_over, distance_same, travel_over, travel_swapped}
use Rattle.qc_rest.proofs.BegunLemmas.{clear, early, lasts}
use Rattle.qc_rest.proofs.NumberLemmas.{count_below}

-- over by now, or at the end of a stay, with the way to where it is
abbrev pub IsDoneFor : InstanceView → (now over : ℕ) → ℤ → Stand → Type 0
IsDoneFor inst now over x stand =
    ((over ≤ stand.until) × (travel_between inst x stand.bay ≡ 0))
    ⊎ ((over + travel_between inst x stand.bay ≤ now) × (over + travel_between inst x stand.bay ≤ stand.until))

no_way : (inst : InstanceView) (x y : ℤ) → x ≡ y → travel_between inst x y ≡ 0
no_way inst x y e =
    let none : bays_between y y ≡ 0 = omega (arith, bays) in
    ap (λ (z : ℤ). travel_between inst z y) e ∙ ap (λ (n : ℕ). inst.travel * n) none ∙ omega arith

pub gap_of_one : (inst : InstanceView) (plan : List Slot) (i j : ℕ) → crane_of plan i ≡ crane_of plan j
    → gap inst plan i j ≡ travel_between inst (bay_of inst i) (bay_of inst j)
gap_of_one inst plan i j same = rw (eq-eqb (crane_of plan i) (crane_of plan j) same) refl

pub gap_of_two : (inst : InstanceView) (plan : List Slot) (i j : ℕ) → crane_of plan i ≢ crane_of plan j
    → gap inst plan i j ≡ slot_distance inst plan i j
gap_of_two inst plan i j differ = rw (ne_eqb (crane_of plan i) (crane_of plan j) differ) refl

pub distance_at : (inst : InstanceView) (v w u z : ℕ) (x y : ℤ) → v ≡ u → w ≡ z → distance inst v x w y ≡ distance inst u x z y
distance_at inst v w u z x y first second =
    ap (λ (k : ℕ). distance inst k x w y) first ∙ ap (λ (k : ℕ). distance inst u x k y) second

module _ (c : Course) (over : ℕ → ℕ) (keeps : Keeps c) (known : AreOver c over) where
  by_last : (v i m : ℕ) → i < length c.inst.tasks → HasBegun c i → crane_of c.plan i ≡ v → IsLastOf c over v m
      → IsDoneFor c.inst c.clock (over i) (bay_of c.inst i) (record { bay = bay_of c.inst m; until = over m })
  by_last v i m low begun by last = elim (cases_eq i m) [
    | inl e ↦ inl (last.last i low begun by, no_way c.inst (bay_of c.inst i) (bay_of c.inst m) (ap (bay_of c.inst) e))
    | inr differ ↦
        let one : crane_of c.plan i ≡ crane_of c.plan m = by ∙ sym last.by in
        let there = gap_of_one c.inst c.plan i m one in
        let back = gap_of_one c.inst c.plan m i (sym one) in
        let turned = travel_swapped c.inst (bay_of c.inst m) (bay_of c.inst i) in
        elim (clear c over keeps known i m low last.task differ (inr (inr (inl one))) begun last.begun) [
          | inl ahead ↦ inr (omega (arith, ahead, there, early c over keeps known m last.begun), omega (arith, ahead, there, lasts c over keeps known m last.begun))
          | inr ahead ↦
              let later = last.last i low begun by in
              let mine = lasts c over keeps known i begun in
              inl (later, omega (arith, ahead, back, turned, later, mine))
        ]
  ]

  -- what a crane has begun is over in time for where it stands
  pub done_for : (v i : ℕ) (stand : Stand) → i < length c.inst.tasks → HasBegun c i → crane_of c.plan i ≡ v → IsStand c over v stand
      → IsDoneFor c.inst c.clock (over i) (bay_of c.inst i) stand
  done_for v i stand low begun by (inl idle) = absurd (idle.0 i low begun by)
  done_for v i stand low begun by (inr stays) =
      subst (IsDoneFor c.inst c.clock (over i) (bay_of c.inst i)) (sym stays.2) (by_last v i stays.0 low begun by stays.1)

-- ---- what is left waits for cranes where they stand

module _ (c : Course) (over : ℕ → ℕ) (stands : List Stand) (rest : InstanceView) (new : List Slot) (keeps : Keeps c)
    (is : IsRest c over stands rest) (feasible : Feasible rest new) where
  pub number_low : (j : ℕ) → IsLeft c j → number_of c j < length rest.tasks
  number_low j waits =
      let low : j < length c.stages = omega (arith, waits.task, keeps.stages) in
      let e : is_waiting (stage_of c j) ≡ true = ap is_waiting waits.waits in
      omega (arith, count_below is_waiting c.stages j _ low e, is.tasks_count)

  pub bay_left : (j : ℕ) → IsLeft c j → bay_of rest (number_of c j) ≡ bay_of c.inst j
  bay_left j waits = ap (λ (t : Task). t.bay) (is.tasks j waits).same

  pub ticks_left : (j : ℕ) → IsLeft c j → ticks_of rest (number_of c j) ≡ ticks_of c.inst j
  ticks_left j waits = ap (λ (t : Task). t.ticks) (is.tasks j waits).same

  module _ (j : ℕ) (waits : IsLeft c j) where
    abbrev number : ℕ
    number = number_of c j

    abbrev begins : ℕ
    begins = start_of new number

    abbrev by : ℕ
    by = crane_of new number

    pub crane_low : by < length c.inst.cranes
    crane_low = omega (arith, feasible.crane_range number (number_low j waits), is.cranes_count)

    -- the rules of the rest, in ticks of the whole
    arrives : (crane rest by).ready + travel_between c.inst (crane rest by).bay (bay_of c.inst j) ≤ begins
    arrives =
        let comes = feasible.ready number (number_low j waits) in
        let way : travel_between rest (crane rest by).bay (bay_of rest number) ≡ travel_between c.inst (crane rest by).bay (bay_of c.inst j) =
        ap (travel_between rest (crane rest by).bay) (bay_left j waits)
        ∙ ap (λ (t : ℕ). t * bays_between (crane rest by).bay (bay_of c.inst j)) is.travel in
        omega (arith, comes, way)

    away : (v : ℕ) → v < length c.inst.cranes → v ≢ by → 0 < distance c.inst v (crane rest v).bay by (bay_of c.inst j)
        → (crane rest v).ready + distance c.inst v (crane rest v).bay by (bay_of c.inst j) ≤ begins
    away v low differ far =
        let same : berth_distance rest v by (bay_of rest number) ≡ distance c.inst v (crane rest v).bay by (bay_of c.inst j) =
        ap (distance rest v (crane rest v).bay by) (bay_left j waits)
        ∙ distance_same rest c.inst is.travel is.gap v (crane rest v).bay by (bay_of c.inst j) in
        let kept = feasible.berth number v (number_low j waits) (omega (arith, low, is.cranes_count)) differ (omega (arith, far, same)) in
        omega (arith, kept, same)

    -- its own crane comes from where it stands
    pub from_own : (stand_of stands by).until + travel_between c.inst (stand_of stands by).bay (bay_of c.inst j) ≤ c.clock + begins
    from_own =
        let now = is.cranes by crane_low in
        let y = (crane rest by).bay in
        let p = stand_of stands by in
        elim now.place [
          | inl held ↦
              let e : travel_between c.inst y (bay_of c.inst j) ≡ travel_between c.inst p.bay (bay_of c.inst j) =
              ap (λ (x : ℤ). travel_between c.inst x (bay_of c.inst j)) held.1 in
              omega (arith, now.ready, arrives, e)
          | inr loose ↦ omega (arith, loose, arrives, travel_over c.inst p.bay y (bay_of c.inst j))
        ]

    -- another has given way from where it stands
    pub from_other : (v : ℕ) → v < length c.inst.cranes → v ≢ by
        → 0 < distance c.inst v (stand_of stands v).bay by (bay_of c.inst j)
        → (stand_of stands v).until + distance c.inst v (stand_of stands v).bay by (bay_of c.inst j) ≤ c.clock + begins
    from_other v low differ far =
        let now = is.cranes v low in
        let y = (crane rest v).bay in
        let p = stand_of stands v in
        elim now.place [
          | inl held ↦
              let e : distance c.inst v y by (bay_of c.inst j) ≡ distance c.inst v p.bay by (bay_of c.inst j) =
              ap (λ (x : ℤ). distance c.inst v x by (bay_of c.inst j)) held.1 in
              omega (arith, now.ready, away v low differ (omega (arith, far, e)), e)
          | inr loose ↦
              let over_way = distance_over c.inst v p.bay y by (bay_of c.inst j) in
              elim (cases_lt 0 (distance c.inst v y by (bay_of c.inst j))) [
                | inl some ↦ omega (arith, loose, over_way, away v low differ some)
                | inr none ↦ omega (arith, loose, over_way, none)
              ]
        ]
