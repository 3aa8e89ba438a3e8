-- What a schedule decides asks for no less than a complete node that it is of.
use Rattle.std.proofs.Common.{◌≡◌, ℕ, zero, suc, ◌+◌, ◌<◌, ◌≤◌, ◌⊎◌, inl, inr, Bool, true, false, eqb, ◌&&◌, List, [], ◌∷◌, ◌++◌, length, map, Contains, Option, None, Some, IfSome, IsSome, refl, ap, ap₂, sym, subst, subst₂, ◌∙◌, arith, nat_le, slice_index, slice_index_or}
use Rattle.std.proofs.lemmas.Option.{same_Some}
use Rattle.std.proofs.lemmas.Bool.{and_parts, cond-true, cond_both, eq-eqb, eqb-true, false≢true, le-leb, leb-true, or_cases, or_left, or_right}
use Rattle.std.specs.List.{range_with_len}
use Rattle.qc_close.specs.Model.{Decision, Assign, Order, Pair, Slot, Turn, OneWay, Free, GoesBy, InstanceView, Valid, pair_of, ticks_of, task_numbers, Agrees, AreLeast, Conflicts, Fits, IsComplete, IsInReach, Meets, assigned, crane_ticks, forced, head_by, is_before, is_ordered, is_sooner, pair_ticks, schedule_with, sooner_ticks, IsClear, crane_of, end_of, start_of, starts}
use Rattle.qc_model.proofs.CompleteNodes.{agrees_with, goes_least, greater_first, greater_second, starts_with}
use Rattle.qc_model.proofs.NodeLemmas.{IsStep, assigned_is, greater_keeps, if_some, meets_by, ordered_is}
use Rattle.qc_dist.proofs.Assigned.{assigned_other, ordered_here}
use Rattle.qc_starts.specs.Tight.{decided_by, order_in, ordered_pairs}
use Rattle.qc_search.proofs.PairLemmas.{conflict_listed, ordered_clear, ordered_rise}

pub some_is : (o : Option ℕ) (k : ℕ) → IsSome o → IfSome o (λ v. k ≡ v) → o ≡ Some k
some_is None k some is = absurd (false≢true some)
some_is (Some v) k some is = ap Some (sym is)

-- a pair is ordered still, whatever is decided besides
ordered_more : (d : Decision) (ds : List Decision) (i j : ℕ) → is_ordered ds i j ≡ true → is_ordered (d ∷ ds) i j ≡ true
ordered_more (Assign h k) ds i j t = t
ordered_more (Order h k) ds i j t = or_right (eqb h i && eqb k j) (is_ordered ds i j) t

module _ (inst : InstanceView) (sched : List Slot) where
  abbrev on_crane : ℕ → Decision
  on_crane j = Assign j (crane_of sched j)

  abbrev orders : List Pair → List Decision
  orders pairs = map (order_in inst sched) pairs

  -- ---- the schedule agrees with what it decides

  pub order_agrees : (p : Pair) (ds : List Decision) → IsClear inst sched 0 p.first p.second → Agrees inst ds sched
      → Agrees inst (order_in inst sched p ∷ ds) sched
  order_agrees p ds clear rest =
      cond_both (nat_le (end_of inst sched p.first) (start_of sched p.second)) (Order p.first p.second)
      (Order p.second p.first) (λ (d : Decision). Agrees inst (d ∷ ds) sched)
      (λ t. (leb-true _ _ t, rest))
      (λ f. (other f clear, rest))
    where
      other : nat_le (end_of inst sched p.first) (start_of sched p.second) ≡ false
          → IsClear inst sched 0 p.first p.second → end_of inst sched p.second ≤ start_of sched p.first
      other f (inl a) =
          absurd (false≢true (sym f ∙ le-leb (end_of inst sched p.first) (start_of sched p.second) (omega (arith, a))))
      other f (inr b) = omega (arith, b)

  orders_agree : (pairs : List Pair) → ((p : Pair) → Contains pairs p → IsClear inst sched 0 p.first p.second)
      → Agrees inst (orders pairs) sched
  orders_agree [] h = tt
  orders_agree (p ∷ ps) h =
      order_agrees p (orders ps) (h p (0, omega arith, refl))
      (orders_agree ps (λ q c. h q (suc c.0, omega (arith, c.1), c.2)))

  cranes_agree : (ks : List ℕ) (ds : List Decision) → Agrees inst ds sched → Agrees inst (map on_crane ks ++ ds) sched
  cranes_agree [] ds h = h
  cranes_agree (k ∷ ks) ds h = (refl, cranes_agree ks ds h)

  abbrev pairs : List Pair
  pairs = ordered_pairs inst.turn inst sched

  pub decided_agrees : Valid inst → GoesBy inst.turn inst sched → Agrees inst (decided_by inst sched) sched
  decided_agrees v g =
      cranes_agree (task_numbers inst) (orders pairs) (orders_agree pairs (ordered_clear inst v sched g))

  -- ---- what it decides

  assigned_in : (a n : ℕ) (ds : List Decision) (j : ℕ) → a ≤ j → j < a + n
      → assigned (map on_crane (range_with_len a n) ++ ds) j ≡ Some (crane_of sched j)
  assigned_in a zero ds j low high = absurd (omega arith)
  assigned_in a (suc n) ds j low high =
      cond_both (eqb a j) (Some (crane_of sched a)) (assigned (map on_crane (range_with_len (a + 1) n) ++ ds) j)
      (λ (o : Option ℕ). o ≡ Some (crane_of sched j))
      (λ t. ap (λ (k : ℕ). Some (crane_of sched k)) (same t))
      (λ f. let differ = other f in assigned_in (a + 1) n ds j (omega arith) (omega arith))
    where
      same : eqb a j ≡ true → a ≡ j
      same t = eqb-true a j t

      other : eqb a j ≡ false → ¬ (a ≡ j)
      other f e = false≢true (sym f ∙ eq-eqb a j e)

  pub decided_crane : (j : ℕ) → j < length inst.tasks → assigned (decided_by inst sched) j ≡ Some (crane_of sched j)
  decided_crane j low = assigned_in 0 (length inst.tasks) (orders pairs) j (omega arith) (omega arith)

  behind_cranes : (ks : List ℕ) (ds : List Decision) (i j : ℕ) → is_ordered ds i j ≡ true
      → is_ordered (map on_crane ks ++ ds) i j ≡ true
  behind_cranes [] ds i j t = t
  behind_cranes (k ∷ ks) ds i j t = behind_cranes ks ds i j t

  ordered_at : (pairs : List Pair) (k : ℕ) (p : Pair) → k < length pairs → slice_index_or pairs k p ≡ p → (i j : ℕ)
      → order_in inst sched p ≡ Order i j → is_ordered (orders pairs) i j ≡ true
  ordered_at [] k p low e i j is = absurd (omega arith)
  ordered_at (q ∷ qs) zero p low e i j is =
      subst (λ (d : Decision). is_ordered (d ∷ orders qs) i j ≡ true) (sym (ap (order_in inst sched) e ∙ is))
      (ordered_here (orders qs) i j)
  ordered_at (q ∷ qs) (suc k) p low e i j is =
      ordered_more (order_in inst sched q) (orders qs) i j (ordered_at qs k p (omega (arith, low)) e i j is)

  ordered_as : (p : Pair) → Contains pairs p → (i j : ℕ) → order_in inst sched p ≡ Order i j
      → is_ordered (decided_by inst sched) i j ≡ true
  ordered_as p c i j is =
      behind_cranes (task_numbers inst) (orders pairs) i j (ordered_at pairs c.0 p c.1 c.2 i j is)

  -- a pair that the schedule has in this order is so decided
  pub decided_order : Valid inst → (i j : ℕ) → Contains pairs (pair_of i j) ⊎ Contains pairs (pair_of j i)
      → end_of inst sched i ≤ start_of sched j → is_ordered (decided_by inst sched) i j ≡ true
  decided_order v i j (inl a) first =
      ordered_as (pair_of i j) a i j
      (cond-true (nat_le (end_of inst sched i) (start_of sched j)) (Order i j) (Order j i)
      (le-leb (end_of inst sched i) (start_of sched j) first))
  decided_order v i j (inr a) first =
      ordered_as (pair_of j i) a i j
      (cond_both (nat_le (end_of inst sched j) (start_of sched i)) (Order j i) (Order i j) (λ (d : Decision). d ≡ Order i j)
      (λ t. absurd (both_first (leb-true _ _ t)))
      (λ f. refl))
    where
      both_first : end_of inst sched j ≤ start_of sched i → ⊥
      both_first second =
          let r = ordered_rise inst v sched (pair_of j i) a in
          let one = v.tasks.ticks i r.1 in
          omega (arith, first, second, one)

-- ---- what is ordered conflicts, still

-- whatever is decided that leaves them their cranes
pub conflict_moves : (inst : InstanceView) (ds es : List Decision)
    → ((t v : ℕ) → assigned ds t ≡ Some v → assigned es t ≡ Some v) → (i j : ℕ) → Conflicts inst ds i j → Conflicts inst es i j
conflict_moves inst ds es keep i j (inl at) = inl at
conflict_moves inst ds es keep i j (inr clash) = inr (record {
  free = clash.free;
  first = clash.first;
  second = clash.second;
  differ = clash.differ;
  first_crane = clash.first_crane;
  second_crane = clash.second_crane;
  of_first = keep i clash.first_crane clash.of_first;
  of_second = keep j clash.second_crane clash.of_second;
  near = clash.near;
})

none_some : (o : Option ℕ) (k : ℕ) → o ≡ None → o ≡ Some k → ⊥
none_some o k e f = cc

still_assigned : (ds : List Decision) (h k : ℕ) → assigned ds h ≡ None → (t v : ℕ) → assigned ds t ≡ Some v
    → assigned (Assign h k ∷ ds) t ≡ Some v
still_assigned ds h k none t v is = assigned_other ds h k t other ∙ is
  where
    other : ¬ (h ≡ t)
    other e = none_some (assigned ds t) v (subst (λ (n : ℕ). assigned ds n ≡ None) e none) is

pub ordered_conflicts : (inst : InstanceView) (ds : List Decision) → Fits inst ds → (i j : ℕ) → is_ordered ds i j ≡ true
    → Conflicts inst ds i j
ordered_conflicts inst [] fits i j t = absurd (false≢true t)
ordered_conflicts inst (Assign h k ∷ ds) fits i j t =
    conflict_moves inst ds (Assign h k ∷ ds) (still_assigned ds h k fits.2) i j (ordered_conflicts inst ds fits.3 i j t)
ordered_conflicts inst (Order h k ∷ ds) fits i j t = elim (or_cases (eqb h i && eqb k j) (is_ordered ds i j) t) [
  | inl e ↦
      let p = and_parts (eqb h i) (eqb k j) e in
      conflict_moves inst ds (Order h k ∷ ds) (λ t v is. is) i j (subst₂ (Conflicts inst ds) (eqb-true h i p.0) (eqb-true k j p.1) fits.0)
  | inr e ↦ conflict_moves inst ds (Order h k ∷ ds) (λ t v is. is) i j (ordered_conflicts inst ds fits.3 i j e)
]

-- what cranes ask for where two tasks are ordered, they ask for where they are ordered too
more_asked : (inst : InstanceView) (s r : Bool) → (s ≡ true → r ≡ true) → (i j x y : ℕ) (p q : Option ℕ)
    → IsStep x y (crane_ticks inst r i j p q) → IsStep x y (crane_ticks inst s i j p q)
more_asked inst s r too i j x y None q step = tt
more_asked inst s r too i j x y (Some v) None step = tt
more_asked inst s r too i j x y (Some v) (Some w) step = by_turn inst.turn step
  where
    by_turn : (turn : Turn) → IsStep x y (pair_ticks turn inst r i v j w) → IsStep x y (pair_ticks turn inst s i v j w)
    by_turn OneWay kept = kept
    by_turn Free kept =
        cond_both s _ _ (IsStep x y)
        (λ t. subst (IsStep x y) (cond-true r _ None (too t)) kept)
        (λ _. tt)

-- ---- the schedule of a complete node

module _ (inst : InstanceView) (ds : List Decision) (begins : List ℕ) (v : Valid inst)
    (fits : Fits inst ds) (complete : IsComplete inst ds) (reach : IsInReach inst ds)
    (least : AreLeast inst ds begins) where
  abbrev sched : List Slot
  sched = schedule_with inst ds begins

  abbrev decided : List Decision
  decided = decided_by inst sched

  goes : GoesBy inst.turn inst sched
  goes = goes_least inst ds begins v fits complete reach least

  agrees : Agrees inst ds sched
  agrees = agrees_with inst ds begins v fits complete reach least.meets

  same_crane : (j : ℕ) → j < length inst.tasks → assigned decided j ≡ assigned ds j
  same_crane j low =
      decided_crane inst sched j low
      ∙ sym (some_is (assigned ds j) (crane_of sched j) (complete.tasks j low) (assigned_is inst sched ds agrees j))

  has_crane : (j k : ℕ) → j < length inst.tasks → assigned ds j ≡ Some k → crane_of sched j ≡ k
  has_crane j k low e = same_Some _ _ (sym (decided_crane inst sched j low) ∙ same_crane j low ∙ e)

  sooner_too : (i j : ℕ) → is_sooner inst ds i j ≡ true → is_sooner inst decided i j ≡ true
  sooner_too i j t = by_case (or_cases (is_before inst i j) (is_ordered ds i j) t)
    where
      by_case : (is_before inst i j ≡ true) ⊎ (is_ordered ds i j ≡ true) → is_sooner inst decided i j ≡ true
      by_case (inl e) = or_left (is_before inst i j) (is_ordered decided i j) e
      by_case (inr e) =
          or_right (is_before inst i j) (is_ordered decided i j)
          (decided_order inst sched v i j
          (conflict_listed inst v sched ds has_crane i j (ordered_conflicts inst ds fits i j e))
          (ordered_is inst sched ds agrees i j e))

  -- starts that keep what the schedule decides keep the node
  pub node_met : (others : List ℕ) → Meets inst decided others → Meets inst ds others
  node_met others m = record {
    all_tasks = m.all_tasks;
    heads = λ j low.
        subst (λ (o : Option ℕ). head_by inst j o ≤ slice_index others j) (same_crane j low) (m.heads j low);
    steps = λ i j ticks low high e.
        subst (IsStep (slice_index others i) (slice_index others j)) e (step_kept i j low high);
  }
    where
      step_kept : (i j : ℕ) → i < length inst.tasks → j < length inst.tasks
          → IsStep (slice_index others i) (slice_index others j) (forced inst ds i j)
      step_kept i j low high =
          let s = slice_index others i in
          let t = slice_index others j in
          let kept : IsStep s t (forced inst decided i j) =
          if_some (forced inst decided i j) (λ n. s + n ≤ t) (λ n e. m.steps i j n low high e) in
          let soon = sooner_ticks inst decided i j in
          let cranes = crane_ticks inst (is_sooner inst decided i j) i j (assigned decided i) (assigned decided j) in
          greater_keeps (λ n. s + n ≤ t) (sooner_ticks inst ds i j)
          (crane_ticks inst (is_sooner inst ds i j) i j (assigned ds i) (assigned ds j))
          (cond_both (is_sooner inst ds i j) (Some (ticks_of inst i)) None (IsStep s t)
          (λ is. subst (IsStep s t) (cond-true (is_sooner inst decided i j) (Some (ticks_of inst i)) None (sooner_too i j is))
          (greater_first s t soon cranes kept))
          (λ _. tt))
          (subst (IsStep s t) (ap₂ (crane_ticks inst (is_sooner inst ds i j) i j) (same_crane i low) (same_crane j high))
          (more_asked inst (is_sooner inst ds i j) (is_sooner inst decided i j) (sooner_too i j) i j s t (assigned decided i)
          (assigned decided j) (greater_second s t soon cranes kept)))

  -- its starts are the least with what it decides
  pub decided_least : AreLeast inst decided (starts sched)
  decided_least = record {
    meets = meets_by inst decided sched goes (decided_agrees inst sched v goes);
    least = λ others m j low.
        subst (λ (b : List ℕ). slice_index b j ≤ slice_index others j)
        (sym (starts_with inst ds begins least.meets.all_tasks)) (least.least others (node_met others m) j low);
  }
