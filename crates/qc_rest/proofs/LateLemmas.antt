-- The old order in the rest starts no task sooner than it goes on, and each less than the travel of a bay later.
use Rattle.std.proofs.Common.{◌≡◌, ◌≢◌, ℕ, zero, suc, ◌+◌, ◌-◌, ◌*◌, ◌<◌, ◌≤◌, ◌⊎◌, ℤ, pos, ◌+ℤ◌, ◌≤ℤ◌, inl, inr, List, length, map, false, refl, sym, ap, subst, ◌∙◌, arith}
use Rattle.std.specs.Int.{div_ceil}
use Rattle.std.specs.List.{range_with_len}
use Rattle.std.specs.Prelude.{◌==◌}
use Rattle.std.proofs.lemmas.Bool.{cases_eq, cases_lt, cases_order, cond_both, lt-ltb, le-ltb}
use Rattle.std.proofs.lemmas.Grind.{div_ceil_times}
use Rattle.std.proofs.Math.Nat.{mul-le-mul_left}
use Rattle.qc_dispatch.specs.declared.stage.Stage.{Stage}
use Rattle.qc_dispatch.specs.declared.stage.Stage.TheVariants.{Waiting, Running}
use Rattle.qc_dispatch.specs.Course.{Course, stage_of}
use Rattle.qc_dispatch.specs.Order.{AreTied, ArePaired, Leads, free_of, gap}
use Rattle.qc_dispatch.specs.Promises.{Keeps}
use Rattle.qc_model.specs.declared.schedule.Slot.{Slot}
use Rattle.qc_model.specs.declared.task.Task.{Task}
use Rattle.qc_model.specs.Bays.{bays_between, bays_up}
use Rattle.qc_model.specs.Instance.{InstanceView, Valid, IsBefore, bay_of, crane, release_of, ticks_of}
use Rattle.qc_model.specs.Nodes.{berth_wait, free, greatest}
use Rattle.qc_model.specs.Rules.{Feasible, crane_of, slot_distance, start_of}
use Rattle.qc_model.specs.Ticks.{arrival, berth_clear, berth_distance, distance, travel_between}
use Rattle.qc_model.proofs.Bays.{bays}
use Rattle.qc_model.proofs.Extremes.{greatest_le}
use Rattle.qc_model.proofs.LimitsOf.{travel_of}
use Rattle.qc_model.proofs.NodeLemmas.{one_crane_apart}
use Rattle.qc_rest.specs.GoneOn.{AreGoneOn, end_with}
use Rattle.qc_rest.specs.OldOrder.{IsOldOrder}
use Rattle.qc_rest.specs.Places.{ArePlaces, Outlook}
use Rattle.qc_rest.specs.Progress.{AreOver, HasBegun, IsLeft, number_of}
use Rattle.qc_rest.specs.Rest.{HoldsBack, IsExactRest}
use Rattle.qc_rest.specs.Stands.{IsStand, stand_of}
use Rattle.qc_rest.proofs.BayLemmas.{distance_same}
use Rattle.qc_rest.proofs.BegunLemmas.{begun_or_waits}
use Rattle.qc_rest.proofs.LimitLemmas.{end_begun, end_left, goes_after, goes_free, goes_now, other_goes, own_goes, after_begun}
use Rattle.qc_rest.proofs.OldLemmas.{ahead, old_feasible}
use Rattle.qc_rest.proofs.PairLemmas.{berth_kept, from_berth, held_back, one_crane, two_cranes}
use Rattle.qc_rest.proofs.PlaceLemmas.{near_task, places_apart, stays}
use Rattle.qc_rest.proofs.StandLemmas.{distance_at, gap_of_one, gap_of_two, number_low}

-- a crane and a task are free by a tick once each of the three is
free_by : (inst : InstanceView) (j k tick : ℕ) → release_of inst j ≤ tick → arrival inst k (bay_of inst j) ≤ tick
    → ((v : ℕ) → v < length inst.cranes → 0 < berth_distance inst v k (bay_of inst j) → berth_clear inst v k (bay_of inst j) ≤ tick)
    → free inst j k ≤ tick
free_by inst j k tick released arrives clear =
    let waits : greatest (map (berth_wait inst j k) (range_with_len 0 (length inst.cranes))) ≤ tick =
    greatest_le (berth_wait inst j k) tick 0 (length inst.cranes) (λ v low.
    cond_both (berth_distance inst v k (bay_of inst j) == 0) 0 (berth_clear inst v k (bay_of inst j)) (λ n. n ≤ tick)
    (λ none. omega arith)
    (λ some. clear v (omega (arith, low)) (above (berth_distance inst v k (bay_of inst j)) some))) in
    omega (arith, released, arrives, waits)
  where
    above : (n : ℕ) → (n == 0) ≡ false → 0 < n
    above zero some = absurd (cc some)
    above (suc n) some = omega arith

module _ (o : Outlook) (valid : Valid o.course.inst) (plan : Feasible o.course.inst o.course.plan) (keeps : Keeps o.course)
    (known : AreOver o.course o.over)
    (stand : (k : ℕ) → k < length o.course.inst.cranes → IsStand o.course o.over k (stand_of o.stands k))
    (gone : AreGoneOn o.course o.over o.goes) (tops places : ℕ → ℤ) (are : ArePlaces o tops places)
    (rest : InstanceView) (exact : IsExactRest o.course o.over o.stands places rest) (sched : List Slot)
    (old : IsOldOrder o.course rest sched) where
  abbrev c : Course
  c = o.course

  abbrev begins : ℕ → ℕ
  begins j = start_of sched (number_of o.course j)

  feasible : Feasible rest sched
  feasible = old_feasible o.course o.over o.stands places rest sched valid plan keeps exact old

  -- for tasks in the order of the plan
  in_turn : (P : ℕ → Type 0) → ((j : ℕ) → IsLeft c j → ((i : ℕ) → IsLeft c i → Leads c.inst c.plan i j → P i) → P j)
      → (n j : ℕ) → start_of c.plan j < n → IsLeft c j → P j
  in_turn P each zero j low waits = absurd (omega arith)
  in_turn P each (suc n) j low waits =
      each j waits (λ i here leads. in_turn P each n i (omega (arith, low, leads.sooner)) here)

  by_turn : (P : ℕ → Type 0) → ((j : ℕ) → IsLeft c j → ((i : ℕ) → IsLeft c i → Leads c.inst c.plan i j → P i) → P j)
      → (j : ℕ) → IsLeft c j → P j
  by_turn P each j waits = in_turn P each (start_of c.plan j + 1) j (omega arith) waits

  -- ---- no sooner

  module _ (j : ℕ) (waits : IsLeft c j)
      (before : (i : ℕ) → IsLeft c i → Leads c.inst c.plan i j → o.goes i ≤ c.clock + begins i) where
    crane_same : crane_of sched (number_of c j) ≡ crane_of c.plan j
    crane_same = old.cranes j waits

    released : release_of rest (number_of c j) ≤ begins j
    released = (feasible.ready (number_of c j) (number_low c o.over o.stands rest sched keeps exact.is feasible j waits)).0

    free_then : free_of c.inst c.plan j ≤ c.clock + begins j
    free_then = free_by c.inst j (crane_of c.plan j) (c.clock + begins j)
        (omega (arith, (exact.is.tasks j waits).released, released))
        (subst (λ (k : ℕ). arrival c.inst k (bay_of c.inst j) ≤ c.clock + begins j) crane_same
        (from_berth c o.over o.stands rest sched valid plan keeps known exact.is feasible j waits))
        berths
      where
        berths : (v : ℕ) → v < length c.inst.cranes → 0 < berth_distance c.inst v (crane_of c.plan j) (bay_of c.inst j)
            → berth_clear c.inst v (crane_of c.plan j) (bay_of c.inst j) ≤ c.clock + begins j
        berths v low near = elim (cases_eq v (crane_of c.plan j)) [
          | inl same ↦ absurd (omega (arith, near, one_crane_apart c.inst v (crane_of c.plan j) (crane c.inst v).bay (bay_of c.inst j) same))
          | inr differ ↦ subst (λ (k : ℕ). v ≢ k → 0 < berth_distance c.inst v k (bay_of c.inst j) → berth_clear c.inst v k (bay_of c.inst j) ≤ c.clock + begins j)
              crane_same (berth_kept c o.over o.stands rest sched valid plan keeps known exact.is feasible j waits v low) differ near
        ]

    module _ (i : ℕ) (leads : Leads c.inst c.plan i j) (begun : HasBegun c i) where
      first_of_two : AreTied c.inst c.plan i j → (crane_of c.plan i ≡ crane_of c.plan j → ⊥) → slot_distance c.inst c.plan i j ≡ 0
          → IsBefore c.inst i j ⊎ ArePaired c.inst i j
      first_of_two (inl is) differ none = inl is
      first_of_two (inr (inl paired)) differ none = inr paired
      first_of_two (inr (inr (inl same))) differ none = absurd (differ same)
      first_of_two (inr (inr (inr near))) differ none = absurd (omega (arith, near, none))

      begun_clear : o.over i + gap c.inst c.plan i j ≤ c.clock + begins j
      begun_clear = elim (cases_eq (crane_of c.plan i) (crane_of c.plan j)) [
        | inl same ↦
            omega (
              arith,
              gap_of_one c.inst c.plan i j same,
              one_crane c o.over o.stands rest sched valid plan keeps known exact.is feasible i j leads.leader begun waits (same ∙ sym crane_same),
            )
        | inr differ ↦
            let e = gap_of_two c.inst c.plan i j differ in
            let at : distance c.inst (crane_of c.plan i) (bay_of c.inst i) (crane_of sched (number_of c j)) (bay_of c.inst j) ≡ slot_distance c.inst c.plan i j =
            distance_at c.inst (crane_of c.plan i) (crane_of sched (number_of c j)) (crane_of c.plan i) (crane_of c.plan j) (bay_of c.inst i) (bay_of c.inst j) refl crane_same in
            elim (cases_lt 0 (slot_distance c.inst c.plan i j)) [
              | inl near ↦
                  omega (
                    arith,
                    e,
                    at,
                    two_cranes c o.over o.stands rest sched valid plan keeps known exact.is feasible i j leads.leader begun waits
                        (λ s. differ (s ∙ crane_same)) (omega (arith, near, at)),
                  )
              | inr none ↦
                  let zero_gap : slot_distance c.inst c.plan i j ≡ 0 = omega (arith, none) in
                  omega (
                    arith,
                    e,
                    zero_gap,
                    held_back c o.over o.stands rest sched valid plan keeps known exact.is feasible i j leads.leader begun waits
                        (first_of_two leads.tied differ zero_gap) released,
                  )
            ]
      ]

    cleared : (i : ℕ) → Leads c.inst c.plan i j → end_with c o.over o.goes i + gap c.inst c.plan i j ≤ c.clock + begins j
    cleared i leads = elim (begun_or_waits (stage_of c i)) [
      | inl begun ↦ omega (arith, begun_clear i leads begun, end_begun o valid plan keeps known stand gone i begun)
      | inr still ↦
          let here : IsLeft c i = record { task = leads.leader; waits = still } in
          omega (
            arith,
            end_left o valid plan keeps known stand gone i here,
            before i here leads,
            ahead c o.over o.stands places rest sched valid plan keeps exact old i j here waits leads,
          )
    ]

    no_sooner : o.goes j ≤ c.clock + begins j
    no_sooner = (gone.each_one j waits (c.clock + begins j)).1 (record { now = omega arith; free = free_then; clear = cleared })

  -- the old order goes on no sooner than it may
  pub goes_first : (j : ℕ) → IsLeft c j → o.goes j ≤ c.clock + begins j
  goes_first = by_turn (λ j. o.goes j ≤ c.clock + begins j) no_sooner

  -- ---- less than a bay's travel later

  -- the last tick that is less than a bay's travel late
  abbrev limit : ℕ → ℕ
  limit j = (o.goes j - c.clock) + (c.inst.travel - 1)

  some_travel : 0 < c.inst.travel
  some_travel = omega (arith, (travel_of c.inst valid).0)

  off_ticks : (n a t : ℕ) → 0 < t → n ≤ div_ceil a t → t * n ≤ a + (t - 1)
  off_ticks n a t some few =
      let more = mul-le-mul_left t few in
      let top : div_ceil a t * t < a + t = (div_ceil_times a t some).1 in
      omega (arith, more, top, some)

  module _ (j : ℕ) (waits : IsLeft c j)
      (before : (i : ℕ) → IsLeft c i → Leads c.inst c.plan i j → c.clock + begins i + 1 ≤ o.goes i + c.inst.travel) where
    abbrev w : ℕ
    w = crane_of c.plan j

    abbrev l : ℤ
    l = bay_of c.inst j

    now : c.clock ≤ o.goes j
    now = goes_now o valid plan keeps known stand gone j waits

    w_low : w < length c.inst.cranes
    w_low = plan.crane_range j waits.task

    -- its own crane has the time to come
    own_way : ((stand_of o.stands w).until - c.clock) + travel_between c.inst (places w) l ≤ limit j
    own_way =
        let p = stand_of o.stands w in
        elim (cases_lt c.clock p.until) [
          | inl held ↦
              let e : travel_between c.inst (places w) l ≡ travel_between c.inst p.bay l =
              ap (λ (x : ℤ). travel_between c.inst x l) (stays o valid plan keeps known stand gone tops places are w w_low held) in
              omega (arith, held, e, own_goes o valid plan keeps known stand gone w j p waits refl (stand w w_low))
          | inr loose ↦
              let near = near_task o valid plan keeps known stand gone tops places are w j w_low (record { left = waits; by = refl; loose = loose }) in
              omega (arith, loose, off_ticks (bays_between (places w) l) (o.goes j - c.clock) c.inst.travel some_travel near)
        ]

    -- two cranes at their places are clear of each other
    up_by : (t g : ℕ) (x y z : ℤ) → (x +ℤ pos g) ≤ℤ y → t * bays_up z (x +ℤ pos g) ≤ t * bays_between y z
    up_by t g x y z apart = let less : bays_up z (x +ℤ pos g) ≤ bays_between y z = omega (arith, bays) in mul-le-mul_left t less

    down_by : (t g : ℕ) (x y z : ℤ) → (y +ℤ pos g) ≤ℤ x → t * bays_up x (z +ℤ pos g) ≤ t * bays_between y z
    down_by t g x y z apart = let less : bays_up x (z +ℤ pos g) ≤ bays_between y z = omega (arith, bays) in mul-le-mul_left t less

    apart_at : (v u : ℕ) → v ≤ u → u < length c.inst.cranes → (places v +ℤ pos (c.inst.gap * (u - v))) ≤ℤ places u
    apart_at v u order high =
        let e : v + (u - v) ≡ u = omega arith in
        subst (λ (k : ℕ). (places v +ℤ pos (c.inst.gap * (u - v))) ≤ℤ places k) e
        (places_apart o valid plan keeps known stand gone tops places are v (u - v) (omega (arith, e, high)))

    way_there : (v : ℕ) → v < length c.inst.cranes → distance c.inst v (places v) w l ≤ travel_between c.inst (places w) l
    way_there v high = elim (cases_order v w) [
      | inl same ↦
          let p : w ≤ v = omega arith in
          let q : v ≤ w = omega arith in
          rw (le-ltb v w p, le-ltb w v q) (omega arith)
      | inr u ↦ elim u [
        | inl h ↦ rw (lt-ltb v w h) (up_by c.inst.travel (c.inst.gap * (w - v)) (places v) (places w) l (apart_at v w (omega arith) w_low))
        | inr h ↦
            let p : w ≤ v = omega arith in
            rw (le-ltb v w p, lt-ltb w v h) (down_by c.inst.travel (c.inst.gap * (v - w)) (places v) (places w) l (apart_at w v p high))
      ]
    ]

    -- another crane has the time to give way
    other_way : (v : ℕ) → v < length c.inst.cranes → v ≢ w → 0 < distance c.inst v (places v) w l
        → ((stand_of o.stands v).until - c.clock) + distance c.inst v (places v) w l ≤ limit j
    other_way v high differ near =
        let p = stand_of o.stands v in
        elim (cases_lt c.clock p.until) [
          | inl held ↦
              let e : distance c.inst v (places v) w l ≡ distance c.inst v p.bay w l =
              ap (λ (x : ℤ). distance c.inst v x w l) (stays o valid plan keeps known stand gone tops places are v high held) in
              omega (arith, held, e, other_goes o valid plan keeps known stand gone v j p waits high differ (stand v high) (omega (arith, near, e)))
          | inr loose ↦ omega (arith, loose, way_there v high, own_way)
        ]

    -- ---- the same, in the rest

    bay_at : bay_of rest (number_of c j) ≡ l
    bay_at = ap (λ (t : Task). t.bay) (exact.is.tasks j waits).same

    arrives : arrival rest w (bay_of rest (number_of c j)) ≤ limit j
    arrives =
        let way : travel_between rest (crane rest w).bay (bay_of rest (number_of c j)) ≡ travel_between c.inst (places w) l =
        ap (travel_between rest (crane rest w).bay) bay_at
        ∙ ap (λ (x : ℤ). travel_between rest x l) (exact.placed w w_low)
        ∙ ap (λ (t : ℕ). t * bays_between (places w) l) exact.is.travel in
        omega (arith, way, exact.ready w w_low, own_way)

    distance_at_place : (v : ℕ) → v < length c.inst.cranes
        → berth_distance rest v w (bay_of rest (number_of c j)) ≡ distance c.inst v (places v) w l
    distance_at_place v high =
        ap (distance rest v (crane rest v).bay w) bay_at
        ∙ ap (λ (x : ℤ). distance rest v x w l) (exact.placed v high)
        ∙ distance_same rest c.inst exact.is.travel exact.is.gap v (places v) w l

    berths : (v : ℕ) → v < length rest.cranes → 0 < berth_distance rest v w (bay_of rest (number_of c j))
        → berth_clear rest v w (bay_of rest (number_of c j)) ≤ limit j
    berths v low near =
        let high : v < length c.inst.cranes = omega (arith, low, exact.is.cranes_count) in
        let e = distance_at_place v high in
        elim (cases_eq v w) [
          | inl same ↦ omega (arith, e, exact.ready v high, way_there v high, own_way, ap (λ (k : ℕ). (stand_of o.stands k).until) same)
          | inr differ ↦ omega (arith, e, exact.ready v high, other_way v high differ (omega (arith, near, e)))
        ]

    held_soon : (i : ℕ) → HoldsBack c i j → o.over i ≤ c.clock + limit j
    held_soon i holds = elim (begun_or_waits (stage_of c i)) [
      | inr still ↦ absurd (still_runs (stage_of c i) holds.start still holds.runs)
      | inl begun ↦
          omega (arith, now, after_begun o valid plan keeps known stand gone i j holds.task begun waits (tied_by holds.first))
    ]
      where
        still_runs : (s : Stage) (start : ℕ) → s ≡ Waiting → s ≡ Running start → ⊥
        still_runs s start one other = cc

        tied_by : IsBefore c.inst i j ⊎ ArePaired c.inst i j → AreTied c.inst c.plan i j
        tied_by (inl is) = inl is
        tied_by (inr is) = inr (inl is)

    released_soon : release_of rest (number_of c j) ≤ limit j
    released_soon = exact.releases j waits (limit j)
        (omega (arith, now, goes_free o valid plan keeps known stand gone j waits)) held_soon

    clear_soon : (i : ℕ) → IsLeft c i → Leads c.inst c.plan i j → begins i + ticks_of c.inst i + gap c.inst c.plan i j ≤ limit j
    clear_soon i here leads =
        omega (
          arith,
          now,
          some_travel,
          before i here leads,
          goes_after o valid plan keeps known stand gone i j waits leads,
          end_left o valid plan keeps known stand gone i here,
          goes_now o valid plan keeps known stand gone i here,
        )

    soon : c.clock + begins j + 1 ≤ o.goes j + c.inst.travel
    soon =
        let by = (old.starts j waits (limit j)).1 (record {
          free = free_by rest (number_of c j) w (limit j) released_soon arrives berths;
          clear = clear_soon;
        }) in
        omega (arith, by, now, some_travel)

  -- each task starts less than a bay's travel later than the old order goes on
  pub starts_soon : (j : ℕ) → IsLeft c j → c.clock + begins j + 1 ≤ o.goes j + c.inst.travel
  starts_soon = by_turn (λ j. c.clock + begins j + 1 ≤ o.goes j + c.inst.travel) soon
