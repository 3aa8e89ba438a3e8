-- A complete node with starts that meet it is a schedule as decided, with these starts, and where cranes go one way an
-- upward one; where they go as they like its least starts are a feasible one, and a node is complete where these leave
-- every two tasks clear of each other whose order is open.
use Rattle.std.proofs.Common.{◌≡◌, ◌≢◌, ◌↔◌, ℕ, ◌+◌, ◌*◌, ◌<◌, ◌≤◌, true, false, eqb, ◌&&◌, ◌⊎◌, inl, inr, List, [], ◌∷◌, length, get_or, Option, None, Some, IfSome, IsSome, is_some, unwrap_or, ℤ, ◌≤ℤ◌, ◌<ℤ◌, refl, ap, ap₂, sym, subst, ◌∙◌, arith, ext_get_or, mul-zero, int_lt, nat_lt, slice_index}
use Rattle.std.proofs.lemmas.Bool.{and_from, and_parts, cases_Bool, cases_eq, cond-false, cond-true, cond_both, eq-eqb, eqb-true, false≢true, lt-ltb, ne_eqb, or_left, or_right, true_from_ne_false}
use Rattle.std.proofs.lemmas.Int.{by_lt_z, ints}
use Rattle.std.proofs.lemmas.List.{length-map}
use Rattle.std.proofs.lemmas.List.FromFn.{get_or-map-range_with_len, length-map-range_with_len}
use Rattle.std.proofs.lemmas.Option.{same_Some}
use Rattle.qc_model.specs.declared.decision.Decision.{Decision}
use Rattle.qc_model.specs.declared.decision.Decision.TheVariants.{Assign, Order}
use Rattle.qc_model.specs.declared.schedule.Slot.{Slot}
use Rattle.qc_model.specs.declared.turn.Turn.{Turn}
use Rattle.qc_model.specs.declared.turn.Turn.TheVariants.{OneWay, Free}
use Rattle.qc_model.specs.Bays.{bays_between, bays_up}
use Rattle.qc_model.specs.Clear.{AreClear, AreOpenClear}
use Rattle.qc_model.specs.Frames.{GoesBy}
use Rattle.qc_model.specs.Instance.{InstanceView, IsApart, Valid, bay_of, ticks_of}
use Rattle.qc_model.specs.Nodes.{Agrees, AreLeast, Conflicts, Fits, IsComplete, IsInReach, IsSettled, Meets, assigned, berth_wait, crane_ticks, forced, free, greater, head_by, is_in_reach, is_ordered, is_sooner, pair_ticks, reaches, schedule_with, separation, slot_with, sooner_ticks, upward_ticks}
use Rattle.qc_model.specs.OneWay.{GoesUp}
use Rattle.qc_model.specs.Rules.{Feasible, IsClear, KeepsApart, KeepsBerth, KeepsMargin, KeepsTravel, crane_of, end_of, ends, last_end, no_slot, slot_distance, start_of, starts}
use Rattle.qc_model.specs.Ticks.{berth_clear, berth_distance, climb, lead, task_distance, travel_between}
use Rattle.qc_model.proofs.Bays.{bays}
use Rattle.qc_model.proofs.Extremes.{le_greatest}
use Rattle.qc_model.proofs.GoesLemmas.{by_order, distance_swapped}
use Rattle.qc_model.proofs.NodeLemmas.{IsStep, T_true, conflict_differs, conflict_inside, conflict_turned, greater_keeps, if_some, separation_kept, settled_cases, settled_turned, sooner_before, start_at, true_T}
use Rattle.qc_model.proofs.TurnLemmas.{by_feasible, two_turns}

-- ---- what the decisions say

-- the crane of a task is one of the instance, and reaches it
record IsPlaced (inst : InstanceView) (j k : ℕ) : Type 0 where
  task : j < length inst.tasks
  crane : k < length inst.cranes
  reach : reaches inst j k ≡ true

placed : (inst : InstanceView) (ds : List Decision) → Fits inst ds → IsInReach inst ds → (j : ℕ)
    → IfSome (assigned ds j) (IsPlaced inst j)
placed inst [] fits reach j = tt
placed inst (Order g k ∷ ds) fits reach j = placed inst ds fits.3 reach j
placed inst (Assign g k ∷ ds) fits reach j =
    let parts = and_parts (reaches inst g k) (is_in_reach inst ds) reach in
    cond_both (eqb g j) (Some k) (assigned ds j) (λ o. IfSome o (IsPlaced inst j))
    (λ same.
    let here : IsPlaced inst g k = record { task = fits.0; crane = fits.1; reach = parts.0 } in
    subst (λ (i : ℕ). IsPlaced inst i k) (eqb-true g j same) here)
    (λ other. placed inst ds fits.3 parts.1 j)

-- a schedule is as decided where each assigned task is on its crane, and each pair in its order
agrees_of : (inst : InstanceView) → Valid inst → (sched : List Slot) (ds : List Decision) → Fits inst ds
    → ((j k : ℕ) → assigned ds j ≡ Some k → crane_of sched j ≡ k)
    → ((i j : ℕ) → i < length inst.tasks → j < length inst.tasks → is_ordered ds i j ≡ true
    → end_of inst sched i ≤ start_of sched j)
    → Agrees inst ds sched
agrees_of inst valid sched [] fits cranes orders = tt
agrees_of inst valid sched (Order i j ∷ ds) fits cranes orders =
    let inside = conflict_inside inst valid ds i j fits.0 in
    let itself = and_from (eqb i i) (eqb j j) (eq-eqb i i refl) (eq-eqb j j refl) in (
      orders i j inside.0 inside.1 (or_left (eqb i i && eqb j j) (is_ordered ds i j) itself),
      agrees_of inst valid sched ds fits.3 cranes
          (λ g h low high t. orders g h low high (or_right (eqb i g && eqb j h) (is_ordered ds g h) t)),
    )
agrees_of inst valid sched (Assign i k ∷ ds) fits cranes orders = (
  cranes i k (cond-true (eqb i i) (Some k) (assigned ds i) (eq-eqb i i refl)),
  agrees_of inst valid sched ds fits.3 (λ j v e. cranes j v (other j v e (cases_Bool (eqb i j)))) orders,
)
  where
    other : (j v : ℕ) → assigned ds j ≡ Some v → (eqb i j ≡ true) ⊎ (eqb i j ≡ false)
        → assigned (Assign i k ∷ ds) j ≡ Some v
    other j v e (inl same) =
        let none : assigned ds j ≡ None =
        subst (λ (x : ℕ). assigned ds x ≡ None) (eqb-true i j same) fits.2 in
        absurd (cc)
    other j v e (inr differ) = cond-false (eqb i j) (Some k) (assigned ds j) differ ∙ e

-- ---- what is forced

module _ (inst : InstanceView) (i j v w : ℕ) where
  climb_asked : v ≡ w → bay_of inst i <ℤ bay_of inst j
      → upward_ticks inst i v j w ≡ Some (climb inst i j)
  climb_asked same up =
      cond-true (eqb v w) _ _ (eq-eqb v w same) ∙ cond-true (int_lt (bay_of inst i) (bay_of inst j)) _ _ (T_true up.lt)

  lead_asked : w < v → 0 < task_distance inst i v j w
      → upward_ticks inst i v j w ≡ Some (lead inst i v j w)
  lead_asked lower near =
      let both =
      and_from (nat_lt w v) (nat_lt 0 (task_distance inst i v j w)) (lt-ltb w v lower) (lt-ltb 0 _ near) in
      cond-false (eqb v w) _ _ (ne_eqb v w (λ e. absurd (omega arith)))
      ∙ cond-true (nat_lt w v && nat_lt 0 (task_distance inst i v j w)) _ _ both

-- a step is no shorter than the task before it
abbrev IsLong : InstanceView → ℕ → Option ℕ → Type 0
IsLong inst i step = IfSome step (λ n. ticks_of inst i ≤ n)

pub forced_ticks : (inst : InstanceView) (ds : List Decision) (i j : ℕ)
    → IfSome (forced inst ds i j) (λ n. ticks_of inst i ≤ n)
forced_ticks inst ds i j =
    greater_keeps (λ n. ticks_of inst i ≤ n) (sooner_ticks inst ds i j)
    (crane_ticks inst (is_sooner inst ds i j) i j (assigned ds i) (assigned ds j))
    (cond_both (is_sooner inst ds i j) _ _ (IsLong inst i) (λ _. omega arith) (λ _. tt))
    (of_cranes (assigned ds i) (assigned ds j))
  where
    of_pair : (turn : Turn) (v w : ℕ) → IsLong inst i (pair_ticks turn inst (is_sooner inst ds i j) i v j w)
    of_pair Free v w = cond_both (is_sooner inst ds i j) _ _ (IsLong inst i) (λ _. omega arith) (λ _. tt)
    of_pair OneWay v w =
        cond_both (eqb v w) _ _ (IsLong inst i)
        (λ _. cond_both (int_lt (bay_of inst i) (bay_of inst j)) _ _ (IsLong inst i) (λ _. omega arith) (λ _. tt))
        (λ _. cond_both (nat_lt w v && nat_lt 0 (task_distance inst i v j w)) _ _ (IsLong inst i) (λ _. omega arith) (λ _. tt))

    of_cranes : (p q : Option ℕ) → IsLong inst i (crane_ticks inst (is_sooner inst ds i j) i j p q)
    of_cranes None q = tt
    of_cranes (Some v) None = tt
    of_cranes (Some v) (Some w) = of_pair inst.turn v w

-- what the greater of two steps keeps, the first keeps, and so does the second
pub greater_first : (s t : ℕ) (a b : Option ℕ) → IsStep s t (greater a b) → IsStep s t a
greater_first s t None b h = tt
greater_first s t (Some m) None h = h
greater_first s t (Some m) (Some n) h = omega arith

pub greater_second : (s t : ℕ) (a b : Option ℕ) → IsStep s t (greater a b) → IsStep s t b
greater_second s t None b h = h
greater_second s t (Some m) None h = tt
greater_second s t (Some m) (Some n) h = omega arith

-- where cranes go as they like, only what is sooner is forced
pub forced_sooner : (inst : InstanceView) (ds : List Decision) → inst.turn ≡ Free → (i j : ℕ) → IsSome (forced inst ds i j)
    → is_sooner inst ds i j ≡ true
forced_sooner inst ds as_free i j some =
    true_from_ne_false (is_sooner inst ds i j) (λ never. false≢true (sym (ap is_some (none never)) ∙ some))
  where
    asked : is_sooner inst ds i j ≡ false → (p q : Option ℕ) → crane_ticks inst (is_sooner inst ds i j) i j p q ≡ None
    asked never None q = refl
    asked never (Some v) None = refl
    asked never (Some v) (Some w) =
        ap (λ turn. pair_ticks turn inst (is_sooner inst ds i j) i v j w) as_free
        ∙ cond-false (is_sooner inst ds i j) _ None never

    none : is_sooner inst ds i j ≡ false → forced inst ds i j ≡ None
    none never =
        ap₂ greater (cond-false (is_sooner inst ds i j) (Some (ticks_of inst i)) None never)
        (asked never (assigned ds i) (assigned ds j))

-- the separation of two tasks is the same either way round
pub separation_turned : (inst : InstanceView) (i v j w : ℕ) → separation inst i v j w ≡ separation inst j w i v
separation_turned inst i v j w = elim (cases_eq v w) [
  | inl same ↦
      cond-true (eqb v w) _ _ (eq-eqb v w same)
      ∙ ap (λ n. inst.travel * n) (between (bay_of inst i) (bay_of inst j))
      ∙ sym (cond-true (eqb w v) _ _ (eq-eqb w v (sym same)))
  | inr differ ↦
      cond-false (eqb v w) _ _ (ne_eqb v w differ)
      ∙ distance_swapped inst v (bay_of inst i) w (bay_of inst j)
      ∙ sym (cond-false (eqb w v) _ _ (ne_eqb w v (λ e. differ (sym e))))
]
  where
    between : (x y : ℤ) → bays_between x y ≡ bays_between y x
    between x y = omega (arith, bays)

-- ---- the schedule that is done

-- it has a crane for each task as decided, and these starts
record IsDone (inst : InstanceView) (ds : List Decision) (begins : List ℕ) (sched : List Slot) : Type 0 where
  all_tasks : length sched ≡ length inst.tasks
  cranes : (j : ℕ) → j < length inst.tasks → assigned ds j ≡ Some (crane_of sched j)
  places : (j : ℕ) → j < length inst.tasks → IsPlaced inst j (crane_of sched j)
  meets : Meets inst ds begins
  starts : (j : ℕ) → j < length inst.tasks → slice_index begins j ≡ start_of sched j

slot_is : (inst : InstanceView) (ds : List Decision) (begins : List ℕ) (j : ℕ) → j < length inst.tasks
    → get_or (schedule_with inst ds begins) j no_slot ≡ slot_with ds begins j
slot_is inst ds begins j low =
    get_or-map-range_with_len (slot_with ds begins) 0 (length inst.tasks) j j no_slot low (omega arith)

done_with : (inst : InstanceView) (ds : List Decision) (begins : List ℕ)
    → Fits inst ds → ((j : ℕ) → j < length inst.tasks → IsSome (assigned ds j)) → IsInReach inst ds → Meets inst ds begins
    → IsDone inst ds begins (schedule_with inst ds begins)
done_with inst ds begins fits tasks reach meets = record {
  all_tasks = length-map-range_with_len (slot_with ds begins) 0 (length inst.tasks);
  cranes = λ j low. given (assigned ds j) (tasks j low) ∙ ap Some (sym (crane_is j low));
  places = λ j low.
      let there = put (assigned ds j) (tasks j low) (placed inst ds fits reach j) in
      subst (IsPlaced inst j) (sym (crane_is j low)) there;
  meets = meets;
  starts = λ j low. sym (ap (λ slot. slot.start) (slot_is inst ds begins j low));
}
  where
    crane_is : (j : ℕ) → j < length inst.tasks
        → crane_of (schedule_with inst ds begins) j ≡ unwrap_or (assigned ds j) 0
    crane_is j low = ap (λ slot. slot.crane) (slot_is inst ds begins j low)

    given : (o : Option ℕ) → IsSome o → o ≡ Some (unwrap_or o 0)
    given None some = absurd (false≢true some)
    given (Some k) some = refl

    put : {j : ℕ} (o : Option ℕ) → IsSome o → IfSome o (IsPlaced inst j) → IsPlaced inst j (unwrap_or o 0)
    put None some h = absurd (false≢true some)
    put (Some k) some h = h

module _ (inst : InstanceView) (ds : List Decision) (begins : List ℕ) (sched : List Slot)
    (d : IsDone inst ds begins sched) where
  forced_done : (i j : ℕ) → i < length inst.tasks → j < length inst.tasks
      → IsStep (start_of sched i) (start_of sched j) (forced inst ds i j)
  forced_done i j low high =
      if_some (forced inst ds i j) (λ n. start_of sched i + n ≤ start_of sched j) (λ n e.
      omega (arith, d.meets.steps i j n low high e, d.starts i low, d.starts j high))

  sooner_done : (i j : ℕ) → i < length inst.tasks → j < length inst.tasks → is_sooner inst ds i j ≡ true
      → end_of inst sched i ≤ start_of sched j
  sooner_done i j low high t =
      let step =
      greater_first _ _ (sooner_ticks inst ds i j)
      (crane_ticks inst (is_sooner inst ds i j) i j (assigned ds i) (assigned ds j)) (forced_done i j low high) in
      let is = cond-true (is_sooner inst ds i j) (Some (ticks_of inst i)) None t in
      subst (IsStep (start_of sched i) (start_of sched j)) is step

  free_done : (j : ℕ) → j < length inst.tasks → free inst j (crane_of sched j) ≤ start_of sched j
  free_done j low =
      omega (arith, ap (head_by inst j) (d.cranes j low), d.meets.heads j low, d.starts j low)

  berth_done : (j v : ℕ) → j < length inst.tasks → v < length inst.cranes → KeepsBerth inst sched j v
  berth_done j v low high differ away =
      let waits =
      le_greatest (berth_wait inst j (crane_of sched j)) v 0 (length inst.cranes) (omega arith) (omega arith) in
      let far =
      ne_eqb (berth_distance inst v (crane_of sched j) (bay_of inst j)) 0 (λ e. absurd (omega arith)) in
      let is =
      cond-false _ 0 (berth_clear inst v (crane_of sched j) (bay_of inst j)) far in
      omega (arith, free_done j low, waits, is)

  feasible_done : ((i j : ℕ) → i < length inst.tasks → j < length inst.tasks → i ≢ j → KeepsTravel inst sched i j)
      → ((i j : ℕ) → i < length inst.tasks → j < length inst.tasks → KeepsApart inst sched i j)
      → ((i j : ℕ) → i < length inst.tasks → j < length inst.tasks → KeepsMargin inst sched i j)
      → Feasible inst sched
  feasible_done travel apart margin = record {
    all_tasks = d.all_tasks;
    crane_range = λ j low. (d.places j low).crane;
    reach = λ j low.
        let both = and_parts _ _ (d.places j low).reach in
        (record { le = true_T both.0 }, record { le = true_T both.1 });
    ready = λ j low. (omega (arith, free_done j low), omega (arith, free_done j low));
    travel = travel;
    before = λ i j low high b. sooner_done i j low high (sooner_before inst ds i j b);
    apart = apart;
    margin = margin;
    berth = berth_done;
  }

  apart_done : ((i j : ℕ) → IsApart inst i j → IsSettled inst ds i j)
      → (i j : ℕ) → i < length inst.tasks → j < length inst.tasks → KeepsApart inst sched i j
  apart_done settled i j low high a = elim (settled_cases inst ds i j (settled i j a)) [
    | inl some ↦ inl (gone i j (forced inst ds i j) some (forced_ticks inst ds i j) (forced_done i j low high))
    | inr some ↦ inr (gone j i (forced inst ds j i) some (forced_ticks inst ds j i) (forced_done j i high low))
  ]
    where
      gone : (g h : ℕ) (o : Option ℕ) → IsSome o → IsLong inst g o
          → IsStep (start_of sched g) (start_of sched h) o
          → end_of inst sched g + 0 ≤ start_of sched h
      gone g h None some long step = absurd (false≢true some)
      gone g h (Some n) some long step = omega arith

  -- where cranes go one way
  module _ (one : inst.turn ≡ OneWay) where
    cranes_done : (i j n : ℕ) → i < length inst.tasks → j < length inst.tasks
        → upward_ticks inst i (crane_of sched i) j (crane_of sched j) ≡ Some n
        → start_of sched i + n ≤ start_of sched j
    cranes_done i j n low high e =
        let step =
        greater_second _ _ (sooner_ticks inst ds i j)
        (crane_ticks inst (is_sooner inst ds i j) i j (assigned ds i) (assigned ds j)) (forced_done i j low high) in
        let is = ap₂ (crane_ticks inst (is_sooner inst ds i j) i j) (d.cranes i low) (d.cranes j high)
        ∙ ap (λ turn. pair_ticks turn inst (is_sooner inst ds i j) i (crane_of sched i) j (crane_of sched j)) one ∙ e in
        subst (IsStep (start_of sched i) (start_of sched j)) is step

    climb_done : (i j : ℕ) → i < length inst.tasks → j < length inst.tasks
        → crane_of sched i ≡ crane_of sched j
        → bay_of inst i <ℤ bay_of inst j → start_of sched i + climb inst i j ≤ start_of sched j
    climb_done i j low high same up = cranes_done i j _ low high (climb_asked inst i j _ _ same up)

    lead_done : (i j : ℕ) → i < length inst.tasks → j < length inst.tasks
        → crane_of sched j < crane_of sched i
        → 0 < task_distance inst i (crane_of sched i) j (crane_of sched j)
        → start_of sched i + lead inst i (crane_of sched i) j (crane_of sched j) ≤ start_of sched j
    lead_done i j low high lower near = cranes_done i j _ low high (lead_asked inst i j _ _ lower near)

    margin_done : (i j : ℕ) → i < length inst.tasks → j < length inst.tasks → KeepsMargin inst sched i j
    margin_done i j low high differ near = by_order (crane_of sched i) (crane_of sched j)
        (λ e. absurd (differ e))
        (λ l.
        let e =
        distance_swapped inst (crane_of sched i) (bay_of inst i) (crane_of sched j) (bay_of inst j) in
        inr (omega (arith, e, lead_done j i high low l (omega (arith, e, near)))))
        (λ l. inl (omega (arith, lead_done i j low high l near)))

    -- between two tasks of a crane: up from the lower to the higher, and at one bay in the order of their phases
    travel_done : Valid inst → (i j : ℕ) → i < length inst.tasks → j < length inst.tasks → i ≢ j
        → KeepsTravel inst sched i j
    travel_done v i j low high differ same = by_lt_z (bay_of inst i) (bay_of inst j)
        (λ up.
        let way = ap (λ n. inst.travel * n) (one_way (bay_of inst i) (bay_of inst j) up) in
        inl (omega (arith, climb_done i j low high same up, way)))
        (λ over. by_lt_z (bay_of inst j) (bay_of inst i)
        (λ up.
        let way = ap (λ n. inst.travel * n) (back (bay_of inst i) (bay_of inst j) up) in
        inr (omega (arith, climb_done j i high low (sym same) up, way)))
        (λ under. beside (equal _ _ over under)))
      where
        one_way : (x y : ℤ) → x <ℤ y → bays_up x y ≡ bays_between x y
        one_way x y up = omega (arith, bays)

        back : (x y : ℤ) → y <ℤ x → bays_up y x ≡ bays_between x y
        back x y up = omega (arith, bays)

        equal : (x y : ℤ) → y ≤ℤ x → x ≤ℤ y → x ≡ y
        equal x y over under = omega (arith, ints)

        here : (x y : ℤ) → x ≡ y → bays_between x y ≡ 0
        here x y e = omega (arith, bays)

        beside : bay_of inst i ≡ bay_of inst j
            → IsClear inst sched (travel_between inst (bay_of inst i) (bay_of inst j)) i j
        beside e =
            let hatch = (v.tasks.hatches i j low high).0 e in
            let none =
            ap (λ n. inst.travel * n) (here (bay_of inst i) (bay_of inst j) e) ∙ mul-zero inst.travel in
            by_order i j (λ s. absurd (differ s))
            (λ l.
            let before = sooner_before inst ds i j (v.before.phases i j l high hatch) in
            inl (omega (arith, none, sooner_done i j low high before)))
            (λ l.
            let before = sooner_before inst ds j i (v.before.phases j i l low (sym hatch)) in
            inr (omega (arith, none, sooner_done j i high low before)))

    feasible_up : Valid inst → ((i j : ℕ) → IsApart inst i j → IsSettled inst ds i j) → Feasible inst sched
    feasible_up v settled = feasible_done (travel_done v) (apart_done settled) margin_done

  -- where cranes go as they like
  module _ (v : Valid inst) (as_free : inst.turn ≡ Free) where
    -- what is sooner is past
    past_done : (i j : ℕ) → i < length inst.tasks → j < length inst.tasks → is_sooner inst ds i j ≡ true
        → end_of inst sched i + separation inst i (crane_of sched i) j (crane_of sched j) ≤ start_of sched j
    past_done i j low high t =
        let step =
        greater_second _ _ (sooner_ticks inst ds i j)
        (crane_ticks inst (is_sooner inst ds i j) i j (assigned ds i) (assigned ds j)) (forced_done i j low high) in
        let is = ap₂ (crane_ticks inst (is_sooner inst ds i j) i j) (d.cranes i low) (d.cranes j high)
        ∙ ap (λ turn. pair_ticks turn inst (is_sooner inst ds i j) i (crane_of sched i) j (crane_of sched j)) as_free
        ∙ cond-true (is_sooner inst ds i j) _ None t in
        let past = subst (IsStep (start_of sched i) (start_of sched j)) is step in
        omega (arith, past)

    -- two tasks that conflict are clear of each other where those are whose order is open
    module _ (open_clear : AreOpenClear inst ds begins) where
      abbrev IsSeparate : ℕ → ℕ → Type 0
      IsSeparate i j = IsClear inst sched (separation inst i (crane_of sched i) j (crane_of sched j)) i j

      open_done : (i j : ℕ) → Conflicts inst ds i j → (¬ IsSettled inst ds i j) → IsSeparate i j
      open_done i j c unsettled = by_order i j (λ e. absurd (conflict_differs inst v ds i j c e))
          (λ l. elim (open_clear.clear i j _ _ l high (d.cranes i low) (d.cranes j high) c unsettled) [
            | inl h ↦ inl (omega (arith, h, d.starts i low, d.starts j high))
            | inr h ↦ inr (omega (arith, h, turned, d.starts i low, d.starts j high))
          ])
          (λ l. elim (open_clear.clear j i _ _ l low (d.cranes j high) (d.cranes i low) (conflict_turned inst ds i j c) other) [
            | inl h ↦ inr (omega (arith, h, turned, d.starts i low, d.starts j high))
            | inr h ↦ inl (omega (arith, h, d.starts i low, d.starts j high))
          ])
        where
          low : i < length inst.tasks
          low = (conflict_inside inst v ds i j c).0

          high : j < length inst.tasks
          high = (conflict_inside inst v ds i j c).1

          turned : separation inst j (crane_of sched j) i (crane_of sched i)
              ≡ separation inst i (crane_of sched i) j (crane_of sched j)
          turned = separation_turned inst j (crane_of sched j) i (crane_of sched i)

          other : ¬ IsSettled inst ds j i
          other s = unsettled (settled_turned inst ds j i s)

      clear_done : (i j : ℕ) → Conflicts inst ds i j → IsSeparate i j
      clear_done i j c = elim (cases_Bool (is_some (forced inst ds i j))) [
        | inl some ↦ inl (past_done i j inside.0 inside.1 (forced_sooner inst ds as_free i j some))
        | inr none ↦ elim (cases_Bool (is_some (forced inst ds j i))) [
          | inl some ↦
              let turned = separation_turned inst j (crane_of sched j) i (crane_of sched i) in
              inr (omega (arith, turned, past_done j i inside.1 inside.0 (forced_sooner inst ds as_free j i some)))
          | inr neither ↦ open_done i j c (λ s. elim (settled_cases inst ds i j s) [
            | inl h ↦ false≢true (sym none ∙ h)
            | inr h ↦ false≢true (sym neither ∙ h)
          ])
        ]
      ]
        where
          inside : (i < length inst.tasks) × (j < length inst.tasks)
          inside = conflict_inside inst v ds i j c

      conflict_near : (i j : ℕ) → i < length inst.tasks → j < length inst.tasks → i ≢ j
          → (crane_of sched i ≡ crane_of sched j) ⊎ (0 < slot_distance inst sched i j) → Conflicts inst ds i j
      conflict_near i j low high differ near = inr (record {
        free = as_free;
        first = low;
        second = high;
        differ = differ;
        first_crane = crane_of sched i;
        second_crane = crane_of sched j;
        of_first = d.cranes i low;
        of_second = d.cranes j high;
        near = near;
      })

      travel_clear : (i j : ℕ) → i < length inst.tasks → j < length inst.tasks → i ≢ j → KeepsTravel inst sched i j
      travel_clear i j low high differ same =
          let is =
          cond-true (eqb (crane_of sched i) (crane_of sched j)) (travel_between inst (bay_of inst i) (bay_of inst j))
          (slot_distance inst sched i j) (eq-eqb _ _ same) in
          subst (λ (n : ℕ). IsClear inst sched n i j) is
          (clear_done i j (conflict_near i j low high differ (inl same)))

      apart_clear : (i j : ℕ) → i < length inst.tasks → j < length inst.tasks → KeepsApart inst sched i j
      apart_clear i j low high a = elim (clear_done i j (inl (inl a))) [
        | inl h ↦ inl (omega (arith, h))
        | inr h ↦ inr (omega (arith, h))
      ]

      margin_clear : (i j : ℕ) → i < length inst.tasks → j < length inst.tasks → KeepsMargin inst sched i j
      margin_clear i j low high differ near =
          let is =
          cond-false (eqb (crane_of sched i) (crane_of sched j)) (travel_between inst (bay_of inst i) (bay_of inst j))
          (slot_distance inst sched i j) (ne_eqb _ _ differ) in
          subst (λ (n : ℕ). IsClear inst sched n i j) is
          (clear_done i j (conflict_near i j low high (λ e. differ (ap (crane_of sched) e)) (inr near)))

      feasible_clear : Feasible inst sched
      feasible_clear = feasible_done travel_clear apart_clear margin_clear

    -- and so are two that conflict where the schedule is feasible
    module _ (f : Feasible inst sched) where
      parted : (i j n : ℕ) → IsClear inst sched n i j
          → (end_of inst sched i ≤ start_of sched j) ⊎ (end_of inst sched j ≤ start_of sched i)
      parted i j n (inl h) = inl (omega arith)
      parted i j n (inr h) = inr (omega arith)

      of_one : (i j : ℕ) → i < length inst.tasks → j < length inst.tasks → i ≢ j → crane_of sched i ≡ crane_of sched j
          → (end_of inst sched i ≤ start_of sched j) ⊎ (end_of inst sched j ≤ start_of sched i)
      of_one i j low high differ same =
          parted i j (travel_between inst (bay_of inst i) (bay_of inst j)) (f.travel i j low high differ same)

      one_first : (i j : ℕ) → i < length inst.tasks → j < length inst.tasks → Conflicts inst ds i j
          → (end_of inst sched i ≤ start_of sched j) ⊎ (end_of inst sched j ≤ start_of sched i)
      one_first i j low high (inl (inl a)) = parted i j 0 (f.apart i j low high a)
      one_first i j low high (inl (inr a)) = elim (f.apart j i high low a) [
        | inl h ↦ inr (omega (arith, h))
        | inr h ↦ inl (omega (arith, h))
      ]
      one_first i j low high (inr clash) =
          let first : crane_of sched i ≡ clash.first_crane = same_Some _ _ (sym (d.cranes i low) ∙ clash.of_first) in
          let second : crane_of sched j ≡ clash.second_crane = same_Some _ _ (sym (d.cranes j high) ∙ clash.of_second) in
          elim (cases_eq (crane_of sched i) (crane_of sched j)) [
            | inl same ↦ of_one i j low high clash.differ same
            | inr differ ↦ elim clash.near [
              | inl same ↦ absurd (differ (first ∙ same ∙ sym second))
              | inr near ↦
                  let far = ap₂ (λ (x y : ℕ). task_distance inst i x j y) first second in
                  parted i j (slot_distance inst sched i j) (f.margin i j low high differ (omega (arith, near, far)))
            ]
          ]

      clear_again : (i j v w : ℕ) → i < length inst.tasks → j < length inst.tasks
          → assigned ds i ≡ Some v → assigned ds j ≡ Some w → Conflicts inst ds i j → AreClear inst begins i v j w
      clear_again i j v w low high on_v on_w c =
          let first : crane_of sched i ≡ v = same_Some _ _ (sym (d.cranes i low) ∙ on_v) in
          let second : crane_of sched j ≡ w = same_Some _ _ (sym (d.cranes j high) ∙ on_w) in
          elim (one_first i j low high c) [
            | inl h ↦
                let is = ap₂ (λ (x y : ℕ). separation inst i x j y) first second in
                inl (omega (arith, separation_kept inst sched f i j low high h, is, d.starts i low, d.starts j high))
            | inr h ↦
                let is = ap₂ (λ (x y : ℕ). separation inst j x i y) second first in
                inr (omega (arith, separation_kept inst sched f j i high low h, is, d.starts i low, d.starts j high))
          ]

-- ---- a complete node with starts that meet it

module _ (inst : InstanceView) (ds : List Decision) (begins : List ℕ) (v : Valid inst)
    (fits : Fits inst ds) (complete : IsComplete inst ds) (reach : IsInReach inst ds)
    (meets : Meets inst ds begins) where
  done : IsDone inst ds begins (schedule_with inst ds begins)
  done = done_with inst ds begins fits complete.tasks reach meets

  -- where cranes go one way it goes upward
  pub goes_with : inst.turn ≡ OneWay → GoesUp inst (schedule_with inst ds begins)
  goes_with one = record {
    feasible = feasible_up inst ds begins _ done one v (complete.pairs one);
    upward = record { one_crane = climb_done inst ds begins _ done one; two_cranes = lead_done inst ds begins _ done one };
  }

  -- it is as decided
  pub agrees_with : Agrees inst ds (schedule_with inst ds begins)
  agrees_with = agrees_of inst v (schedule_with inst ds begins) ds fits
      (λ j k e. let p = placed_at j k e in same_Some _ _ (sym (done.cranes j p.task) ∙ e))
      (λ i j low high t. sooner_done inst ds begins _ done i j low high (or_right _ (is_ordered ds i j) t))
    where
      placed_at : (j k : ℕ) → assigned ds j ≡ Some k → IsPlaced inst j k
      placed_at j k e =
          subst (λ (o : Option ℕ). IfSome o (IsPlaced inst j)) e (placed inst ds fits reach j)

-- a node has one list of least starts
pub least_same : (inst : InstanceView) (ds : List Decision) (a b : List ℕ) → AreLeast inst ds a → AreLeast inst ds b → a ≡ b
least_same inst ds a b p q = ext_get_or 0 a b (p.meets.all_tasks ∙ sym q.meets.all_tasks) (λ j low.
    let inside : j < length inst.tasks = omega (arith, p.meets.all_tasks) in
    let one = p.least b q.meets j inside in
    let other = q.least a p.meets j inside in
    omega (arith, one, other))

-- the schedule of a complete node with its least starts is one of the instance's turn
module _ (inst : InstanceView) (ds : List Decision) (begins : List ℕ) (v : Valid inst)
    (fits : Fits inst ds) (complete : IsComplete inst ds) (reach : IsInReach inst ds)
    (least : AreLeast inst ds begins) where
  pub goes_least : GoesBy inst.turn inst (schedule_with inst ds begins)
  goes_least = by_turn inst.turn refl
    where
      by_turn : (turn : Turn) → inst.turn ≡ turn → GoesBy turn inst (schedule_with inst ds begins)
      by_turn OneWay one = goes_with inst ds begins v fits complete reach least.meets one
      by_turn Free free =
          let found = complete.least free in
          let same = least_same inst ds found.starts begins found.least least in
          subst (λ (starts : List ℕ). Feasible inst (schedule_with inst ds starts)) same found.feasible

  pub feasible_least : Feasible inst (schedule_with inst ds begins)
  feasible_least = by_feasible inst.turn inst (schedule_with inst ds begins) goes_least

-- ---- a node of cranes that go as they like, all of whose tasks are assigned

module _ (inst : InstanceView) (ds : List Decision) (begins : List ℕ) (v : Valid inst)
    (fits : Fits inst ds) (reach : IsInReach inst ds) (as_free : inst.turn ≡ Free)
    (tasks : (j : ℕ) → j < length inst.tasks → IsSome (assigned ds j)) (least : AreLeast inst ds begins) where
  -- it is complete exactly where every two tasks are clear of each other whose order is open
  pub complete_where : IsComplete inst ds ↔ AreOpenClear inst ds begins
  complete_where = (
    (λ complete.
        let f = feasible_least inst ds begins v fits complete reach least in
        record {
          clear = λ i j x y order high on_x on_y c _.
              clear_again inst ds begins _ filled v as_free f i j x y (omega (arith, order, high)) high on_x on_y c;
        }),
    (λ open_clear. record {
      tasks = tasks;
      pairs = λ one. absurd (two_turns (sym one ∙ as_free));
      least = λ _. record {
        starts = begins;
        least = least;
        feasible = feasible_clear inst ds begins _ filled v as_free open_clear;
      };
    }),
  )
    where
      filled : IsDone inst ds begins (schedule_with inst ds begins)
      filled = done_with inst ds begins fits tasks reach least.meets

-- its starts are those, and so is its end
pub starts_with : (inst : InstanceView) (ds : List Decision) (begins : List ℕ)
    → length begins ≡ length inst.tasks
    → starts (schedule_with inst ds begins) ≡ begins
starts_with inst ds begins e =
    ext_get_or 0 (starts (schedule_with inst ds begins)) begins (count ∙ sym e) (λ j low.
    let there : j < length inst.tasks = omega (arith, count) in
    start_at (schedule_with inst ds begins) j ∙ ap (λ slot. slot.start) (slot_is inst ds begins j there))
  where
    count : length (starts (schedule_with inst ds begins)) ≡ length inst.tasks
    count =
        length-map (schedule_with inst ds begins) (λ slot. slot.start)
        ∙ length-map-range_with_len (slot_with ds begins) 0 (length inst.tasks)

pub ends_with : (inst : InstanceView) (ds : List Decision) (begins : List ℕ) → Meets inst ds begins
    → ends inst (schedule_with inst ds begins) ≡ last_end inst.tasks begins
ends_with inst ds begins meets = ap (last_end inst.tasks) (starts_with inst ds begins meets.all_tasks)
