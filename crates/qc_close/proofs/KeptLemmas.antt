-- What a crew keeps as tasks get and lose their cranes, and what it answers of closed ends.
use Rattle.std.proofs.Common.{◌≡◌, ℕ, ◌+◌, ◌-◌, ◌*◌, ◌<◌, ◌≤◌, inl, inr, Bool, true, false, ◌||◌, leb, List, length, get_or, set, map, is_none, Option, None, Some, ℤ, pos, negsuc, ◌≤ℤ◌, of_z, to_z, w32, ap, sym, subst, ◌∙◌, arith}
use Rattle.std.proofs.Math.IntN.{nat_abs}
use Rattle.std.proofs.lemmas.Bool.{cases_eq, le-leb, lt-leb, or_cases, or_left, or_right}
use Rattle.std.proofs.lemmas.Int.{ints}
use Rattle.std.proofs.lemmas.List.{get_or_read, get_or-set_other, get_or-set_same, length-replicate, length-set}
use Rattle.qc_close.specs.Model.{MOST_DISTANCE, MOST_READY, MOST_TASKS, MOST_WORK, Task, Turn, AreInRange, crane_in, no_cranes, barred_frame, at_least_zero, grain, is_closed, is_short_along, is_short_before, last_before, left_bays, work_at, InstanceView, Valid, bay_of, task, ticks_of, free, way_frame, crane_numbers}
use Rattle.qc_model.proofs.LimitsOf.{limits_of, travel_of}
use Rattle.qc_close.specs.declared.closed.TheConstants.{LAST_CLOSED}
use Rattle.qc_close.specs.declared.crew.Crew.TheInside.{Inside}
use Rattle.qc_close.specs.CrewFields.{IsKept, view_of}
use Rattle.qc_close.specs.Bars.{Changes, IsTable}
use Rattle.qc_close.specs.Crews.{CrewView}
use Rattle.qc_close.specs.Lasts.{IsLast}
use Rattle.qc_close.specs.Lefts.{IsLeft}
use Rattle.qc_close.specs.Spots.{AreSoonest, AreSpots}
use Rattle.qc_close.specs.Trips.{AreTrips}
use Rattle.qc_close.proofs.CrewLemmas.{at, bay_index, cranes_else, cranes_there, last_test, left_put, left_take, none_there, put_room, work_within}
use Rattle.qc_close.proofs.GrainLemmas.{grain_is}
use Rattle.qc_close.proofs.ShortLemmas.{last_rises, short_sooner}

-- ---- one task

pub range_set : (inst : InstanceView) (cranes : List (Option ℕ)) (j : ℕ) (o : Option ℕ) → AreInRange inst cranes
    → j < length cranes → ((k : ℕ) → o ≡ Some k → k < length inst.cranes) → AreInRange inst (set cranes j o)
range_set inst cranes j o range low new i k e = elim (cases_eq i j) [
  | inl same ↦
      new k (sym (cranes_there inst cranes j o low)
      ∙ subst (λ (n : ℕ). crane_in (set cranes j o) n ≡ Some k) same e)
  | inr differ ↦ range i k (sym (cranes_else inst cranes j o i differ) ∙ e)
]

pub same_crane : (k n most : ℕ) → Some k ≡ Some n → k < most → n < most
same_crane k n most e low =
    let same : k ≡ n = cc in
    omega (arith, same, low)

pub no_crane_some : (n : ℕ) → None ≡ Some n → ⊥
no_crane_some n e = cc

at_most : (z : ℤ) (n : ℕ) → z ≤ℤ pos n → at_least_zero z ≤ n
at_most (pos m) n le = omega (arith, ints)
at_most (negsuc m) n le = omega arith

pub bay_inside : (inst : InstanceView) → Valid inst → (cranes : List (Option ℕ)) (left : List ℕ) → IsLeft inst cranes left
    → (j : ℕ) → j < length inst.tasks → (t : Task) → t ≡ task inst j → nat_abs (to_z w32 (of_z w32 t.bay)) < length left
bay_inside inst valid cranes left is j low t t_is =
    let on_ship = valid.tasks.bays j low in
    let most = (limits_of inst valid).bays.1 in
    let same = ap (λ (u : Task). nat_abs (to_z w32 (of_z w32 u.bay))) t_is
    ∙ bay_index (bay_of inst j) on_ship.0 (omega (arith, ints, on_ship.1, most)) in
    omega (arith, same, at_most (bay_of inst j) inst.bays on_ship.1, is.count)

module _ (inst : InstanceView) (valid : Valid inst) (cranes : List (Option ℕ)) (left : List ℕ) (is : IsLeft inst cranes left)
    (j : ℕ) (low : j < length inst.tasks) (many : length cranes ≡ length inst.tasks) (t : Task) (t_is : t ≡ task inst j)
    (v : ℕ) (v_is : v ≡ get_or left (nat_abs (to_z w32 (of_z w32 t.bay))) v) where
  abbrev x : ℕ
  x = nat_abs (to_z w32 (of_z w32 t.bay))

  x_is : x ≡ at inst j
  x_is =
      let on_ship = valid.tasks.bays j low in
      let most = (limits_of inst valid).bays.1 in
      ap (λ (u : Task). nat_abs (to_z w32 (of_z w32 u.bay))) t_is
      ∙ bay_index (bay_of inst j) on_ship.0 (omega (arith, ints, on_ship.1, most))

  on_list : at inst j < length left
  on_list =
      omega (arith, at_most (bay_of inst j) inst.bays (valid.tasks.bays j low).1, is.count)

  read : v ≡ get_or left (at inst j) 0
  read = get_or_read left x v (omega (arith, x_is, on_list)) v_is 0 ∙ ap (λ y. get_or left y 0) x_is

  ticks_is : t.ticks ≡ ticks_of inst j
  ticks_is = ap (λ (u : Task). u.ticks) t_is

  pub put_fits : crane_in cranes j ≡ None → (k : ℕ) → t.ticks ≤ v
  put_fits free k = omega (arith, read, ticks_is, put_room inst cranes left is j low many on_list k free)

  pub put_left : crane_in cranes j ≡ None → (k : ℕ) → IsLeft inst (set cranes j (Some k)) (set left x (v - t.ticks))
  put_left free k =
      let same : get_or left (at inst j) 0 - ticks_of inst j ≡ v - t.ticks = omega (arith, read, ticks_is) in
      subst (λ (y : ℕ). IsLeft inst (set cranes j (Some k)) (set left y (v - t.ticks))) (sym x_is)
      (subst (λ (n : ℕ). IsLeft inst (set cranes j (Some k)) (set left (at inst j) n)) same
      (left_put inst cranes left is j low many on_list k free))

  pub take_fits : v ≤ MOST_TASKS * MOST_WORK
  take_fits = omega (arith, read, is.work (at inst j), work_within inst valid cranes (at inst j))

  pub take_left : is_none (crane_in cranes j) ≡ false → IsLeft inst (set cranes j None) (set left x (v + t.ticks))
  take_left taken =
      let same : get_or left (at inst j) 0 + ticks_of inst j ≡ v + t.ticks = omega (arith, read, ticks_is) in
      subst (λ (y : ℕ). IsLeft inst (set cranes j None) (set left y (v + t.ticks))) (sym x_is)
      (subst (λ (n : ℕ). IsLeft inst (set cranes j None) (set left (at inst j) n)) same
      (left_take inst cranes left is j low many on_list taken))

-- ---- when tasks can start with their cranes

some_is : (j k v : ℕ) → Some v ≡ Some k → v ≡ k
some_is j k v e = cc

module _ (inst : InstanceView) (cranes : List (Option ℕ)) (soonest : List ℕ) (s : AreSoonest inst cranes soonest)
    (j : ℕ) (low : j < length inst.tasks) (many : length cranes ≡ length inst.tasks) where
  pub put_soonest : (k v : ℕ) → v ≡ free inst j k → v ≤ MOST_READY + MOST_DISTANCE
      → AreSoonest inst (set cranes j (Some k)) (set soonest j v)
  put_soonest k v is few = record {
    many = length-set soonest j v ∙ s.many;
    is = λ i n e. elim (cases_eq i j) [
      | inl same ↦
          let k_is = some_is i n k (sym (cranes_there inst cranes j (Some k) (omega (arith, low, many))) ∙ ap (crane_in (set cranes j (Some k))) (sym same) ∙ e) in
          ap (λ m. get_or (set soonest j v) m 0) same ∙ get_or-set_same soonest j v 0 (omega (arith, low, s.many)) ∙ is
          ∙ ap (λ m. free inst m k) (sym same) ∙ ap (free inst i) k_is
      | inr differ ↦
          get_or-set_other soonest j i v 0 differ ∙ s.is i n (sym (cranes_else inst cranes j (Some k) i differ) ∙ e)
    ];
    bound = λ i n e. elim (cases_eq i j) [
      | inl same ↦
          let k_is = some_is i n k (sym (cranes_there inst cranes j (Some k) (omega (arith, low, many))) ∙ ap (crane_in (set cranes j (Some k))) (sym same) ∙ e) in
          let at : free inst i n ≡ v = ap (λ m. free inst m n) same ∙ ap (free inst j) (sym k_is) ∙ sym is in
          omega (arith, at, few)
      | inr differ ↦ s.bound i n (sym (cranes_else inst cranes j (Some k) i differ) ∙ e)
    ];
  }

  still : (i n : ℕ) → crane_in (set cranes j None) i ≡ Some n → crane_in cranes i ≡ Some n
  still i n e = elim (cases_eq i j) [
    | inl same ↦ absurd (no_crane_some n (sym (cranes_there inst cranes j None (omega (arith, low, many))) ∙ ap (crane_in (set cranes j None)) (sym same) ∙ e))
    | inr differ ↦ sym (cranes_else inst cranes j None i differ) ∙ e
  ]

  pub take_soonest : AreSoonest inst (set cranes j None) soonest
  take_soonest = record {
    many = s.many;
    is = λ i n e. s.is i n (still i n e);
    bound = λ i n e. s.bound i n (still i n e);
  }

  -- it alone has another crane
  pub put_changes : (k : ℕ) → crane_in cranes j ≡ None → Changes cranes (set cranes j (Some k)) j k
  put_changes k free = record {
    others = λ i differ. sym (cranes_else inst cranes j (Some k) i differ);
    before = λ v e. absurd (no_crane_some v (sym free ∙ e));
    after = λ v e. sym (some_is j v k (sym (cranes_there inst cranes j (Some k) (omega (arith, low, many))) ∙ e));
  }

  pub take_changes : (k : ℕ) → crane_in cranes j ≡ Some k → Changes cranes (set cranes j None) j k
  take_changes k some = record {
    others = λ i differ. sym (cranes_else inst cranes j None i differ);
    before = λ v e. sym (some_is j v k (sym some ∙ e));
    after = λ v e. absurd (no_crane_some v (sym (cranes_there inst cranes j None (omega (arith, low, many))) ∙ e));
  }

pub no_soonest : (inst : InstanceView) (cranes : List (Option ℕ)) (soonest : List ℕ) → cranes ≡ no_cranes inst
    → length soonest ≡ length inst.tasks → AreSoonest inst cranes soonest
no_soonest inst cranes soonest none many = record {
  many = many;
  is = λ i n e. absurd (no_crane_some n (sym (none_there (length inst.tasks) i) ∙ ap (λ cs. crane_in cs i) (sym none) ∙ e));
  bound = λ i n e. absurd (no_crane_some n (sym (none_there (length inst.tasks) i) ∙ ap (λ cs. crane_in cs i) (sym none) ∙ e));
}

-- ---- a crew as it is opened

pub kept_open : (f : Inside) (inst : InstanceView) → f.inst ≡ inst → Valid inst → f.cranes.items ≡ no_cranes inst
    → AreSpots inst f.spots → length f.soonest.items ≡ length inst.tasks → IsTable inst (no_cranes inst) f.spots f.table
    → ((spots : List ℕ) → AreTrips inst (no_cranes inst) spots f.trips) → IsLeft inst (no_cranes inst) f.left.items
    → f.step ≡ grain inst → IsLast (is_short_before inst f.turn (no_cranes inst)) LAST_CLOSED f.bare → IsKept f
kept_open f inst e valid none spots many table trips left step bare =
    let back = sym e in
    let none_is = none ∙ ap no_cranes back in
    record {
      valid = subst Valid back valid;
      count = ap length none_is ∙ length-replicate (length f.inst.tasks) None;
      range = λ j k some. absurd (no_crane_some k (sym (none_there (length f.inst.tasks) j) ∙ ap (λ cs. crane_in cs j) (sym none_is) ∙ some));
      spots = subst (λ i. AreSpots i f.spots) back spots;
      soonest = no_soonest f.inst f.cranes.items f.soonest.items none_is (many ∙ ap (λ (i : InstanceView). length i.tasks) back);
      table = subst (λ cs. IsTable f.inst cs f.spots f.table) (sym none_is) (subst (λ i. IsTable i (no_cranes i) f.spots f.table) back table);
      trips = subst (λ cs. AreTrips f.inst cs f.spots.of_task.items f.trips) (sym none_is)
          (subst (λ i. AreTrips i (no_cranes i) f.spots.of_task.items f.trips) back (trips f.spots.of_task.items));
      left = subst (λ cs. IsLeft f.inst cs f.left.items) (sym none_is) (subst (λ i. IsLeft i (no_cranes i) f.left.items) back left);
      step = step ∙ ap grain back;
      bare = subst (λ i. IsLast (is_short_before i f.turn (no_cranes i)) LAST_CLOSED f.bare) back bare;
    }

-- ---- closed ends

-- what is short before an end is so before each earlier one
falls : (inst : InstanceView) → Valid inst → (turn : Turn) (cranes : List (Option ℕ)) (n m : ℕ) → n ≤ m
    → is_short_before inst turn cranes m ≡ true → is_short_before inst turn cranes n ≡ true
falls inst valid turn cranes n m le =
    short_sooner inst.travel (map (barred_frame inst turn cranes) (crane_numbers inst)) (left_bays inst cranes) (work_at inst cranes)
    (last_before (grain inst) n) (last_before (grain inst) m)
    (last_rises (grain inst) n m (grain_is inst (travel_of inst valid).0).some le)

falls_along : (inst : InstanceView) → Valid inst → (turn : Turn) (cranes : List (Option ℕ)) (n m : ℕ) → n ≤ m
    → is_short_along inst turn cranes m ≡ true → is_short_along inst turn cranes n ≡ true
falls_along inst valid turn cranes n m le =
    short_sooner inst.travel (map (way_frame inst turn cranes) (crane_numbers inst)) (left_bays inst cranes) (work_at inst cranes)
    (last_before (grain inst) n) (last_before (grain inst) m)
    (last_rises (grain inst) n m (grain_is inst (travel_of inst valid).0).some le)

-- an assignment that is closed at an end is so at each earlier one
pub closed_falls : (inst : InstanceView) (turn : Turn) (cranes : List (Option ℕ)) (n m : ℕ) → Valid inst → n ≤ m
    → is_closed inst turn cranes m ≡ true → is_closed inst turn cranes n ≡ true
closed_falls inst turn cranes n m valid le closed =
    let bare = λ (end : ℕ). is_short_before inst turn (no_cranes inst) end in
    let own = λ (end : ℕ). is_short_before inst turn cranes end in
    let way = λ (end : ℕ). is_short_along inst turn cranes end in
    elim (or_cases (bare m) (own m || way m) closed) [
      | inl short ↦ or_left (bare n) (own n || way n) (falls inst valid turn (no_cranes inst) n m le short)
      | inr some ↦ or_right (bare n) (own n || way n) (elim (or_cases (own m) (way m) some) [
        | inl short ↦ or_left (own n) (way n) (falls inst valid turn cranes n m le short)
        | inr short ↦ or_right (own n) (way n) (falls_along inst valid turn cranes n m le short)
      ])
    ]

module _ (f : Inside) (k : IsKept f) where
  abbrev bare : ℕ → Bool
  bare n = is_short_before f.inst f.turn (no_cranes f.inst) n

  abbrev own : ℕ → Bool
  own n = is_short_before f.inst f.turn f.cranes.items n || is_short_along f.inst f.turn f.cranes.items n

  tests : (end : ℕ) → 0 < end → end ≤ LAST_CLOSED → leb end f.bare ≡ bare end
  tests end some within =
      last_test bare (falls f.inst k.valid f.turn (no_cranes f.inst)) LAST_CLOSED f.bare end k.bare some within

  module _ (v : CrewView) (is : view_of f ≡ v) where
    pub closed_early : (end : ℕ) → 0 < end → end ≤ LAST_CLOSED → end ≤ f.bare → leb end f.bare ≡ is_closed v.inst v.turn v.cranes end
    closed_early end some within early =
        subst (λ (w : CrewView). leb end f.bare ≡ is_closed w.inst w.turn w.cranes end) is
        (le-leb end f.bare early ∙ sym (or_left (bare end) (own end) (sym (tests end some within) ∙ le-leb end f.bare early)))

    pub bare_closed : 0 < f.bare → is_closed v.inst v.turn v.cranes f.bare ≡ true
    bare_closed some =
        subst (λ (w : CrewView). is_closed w.inst w.turn w.cranes f.bare ≡ true) is
        (or_left (bare f.bare) (own f.bare) (k.bare.passes some))

    pub closed_late : (end : ℕ) → 0 < end → end ≤ LAST_CLOSED → f.bare < end
        → (is_short_before v.inst v.turn v.cranes end || is_short_along v.inst v.turn v.cranes end)
        ≡ is_closed v.inst v.turn v.cranes end
    closed_late end some within late =
        subst (λ (w : CrewView). (is_short_before w.inst w.turn w.cranes end || is_short_along w.inst w.turn w.cranes end)
        ≡ is_closed w.inst w.turn w.cranes end) is
        (sym (ap (λ b. b || own end) (sym (tests end some within) ∙ lt-leb end f.bare late)))
