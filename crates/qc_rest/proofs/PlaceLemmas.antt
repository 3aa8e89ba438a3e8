-- The cranes of the rest begin where they can be by now, in their order and the gap apart.
use Rattle.std.proofs.Common.{◌≡◌, ℕ, zero, suc, ◌+◌, ◌-◌, ◌*◌, ◌/◌, ◌<◌, ◌≤◌, ℤ, pos, ◌+ℤ◌, ◌-ℤ◌, ◌≤ℤ◌, inl, inr, length, refl, ap, subst, ◌∙◌, arith}
use Rattle.std.proofs.lemmas.Bool.{cases_lt}
use Rattle.std.proofs.Math.Nat.{mul-le-mul_left, zero-div}
use Rattle.qc_dispatch.specs.Course.{Course}
use Rattle.qc_dispatch.specs.Promises.{Keeps}
use Rattle.qc_model.specs.Bays.{bays_between, bays_up}
use Rattle.qc_model.specs.Instance.{Valid, bay_of}
use Rattle.qc_model.specs.Rules.{Feasible}
use Rattle.qc_model.proofs.Bays.{bays}
use Rattle.qc_model.proofs.LimitsOf.{travel_of}
use Rattle.qc_rest.specs.GoneOn.{AreGoneOn}
use Rattle.qc_rest.specs.Places.{ArePlaces, IsHighEnough, IsNextOf, Outlook, far_of, off_of}
use Rattle.qc_rest.specs.Progress.{AreOver}
use Rattle.qc_rest.specs.Stands.{CanBeAt, IsStand, stand_of}
use Rattle.qc_rest.proofs.LimitLemmas.{stand_stand, stand_task, task_stand, task_task}

at_itself : (x : ℤ) → x ≤ℤ x
at_itself x = omega (arith, bays)

-- a lower limit of one crane and an upper limit of another
room : (g a b : ℕ) (x y : ℤ) → bays_up y (x +ℤ pos g) ≤ a + b → ((x -ℤ pos a) +ℤ pos g) ≤ℤ (y +ℤ pos b)
room g a b x y low = omega (arith, bays)

one_gap : (g v k w : ℕ) → v + 1 ≡ k → k ≤ w → g * (w - v) ≡ g + g * (w - k)
one_gap g v k w next order =
    let e : w - v ≡ 1 + (w - k) = omega arith in
    ap (λ (n : ℕ). g * n) e ∙ omega arith

moved_up : (g h n : ℕ) (x y : ℤ) → n ≡ g + h → (x +ℤ pos n) ≤ℤ y → ((x +ℤ pos g) +ℤ pos h) ≤ℤ y
moved_up g h n x y e low = omega (arith, bays)

near_enough : (x y : ℤ) (a : ℕ) → (y -ℤ pos a) ≤ℤ x → x ≤ℤ (y +ℤ pos a) → bays_between y x ≤ a
near_enough x y a low high = omega (arith, bays)

near_both : (x y : ℤ) (a : ℕ) → y ≤ℤ (x +ℤ pos a) → x ≤ℤ (y +ℤ pos a) → bays_between x y ≤ a
near_both x y a low high = omega (arith, bays)

under : (x y : ℤ) (a : ℕ) → (y -ℤ pos a) ≤ℤ x → y ≤ℤ (x +ℤ pos a)
under x y a low = omega (arith, bays)

no_less : (x y : ℤ) (a : ℕ) → y ≤ℤ x → (y -ℤ pos a) ≤ℤ x
no_less x y a low = omega (arith, bays)

over : (x y z : ℤ) → x ≤ℤ y → y ≤ℤ z → x ≤ℤ z
over x y z one other = omega (arith, bays)

module _ (o : Outlook) (valid : Valid o.course.inst) (plan : Feasible o.course.inst o.course.plan) (keeps : Keeps o.course)
    (known : AreOver o.course o.over)
    (stand : (k : ℕ) → k < length o.course.inst.cranes → IsStand o.course o.over k (stand_of o.stands k))
    (gone : AreGoneOn o.course o.over o.goes) (tops places : ℕ → ℤ) (are : ArePlaces o tops places) where
  abbrev c : Course
  c = o.course

  -- a crane that is at the lower limit of a task of its own, or of its stand, leaves all others room
  module _ (k : ℕ) (low : k < length c.inst.cranes) where
    at_task : (j : ℕ) → IsNextOf o k j → (bay_of c.inst j -ℤ pos (off_of o j)) ≤ℤ tops k
    at_task j next = (are.highest k low (bay_of c.inst j -ℤ pos (off_of o j))).1 (λ w order high. record {
      stand = room (c.inst.gap * (w - k)) (off_of o j) (far_of o w) (bay_of c.inst j) (stand_of o.stands w).bay
          (omega (arith, task_stand o valid plan keeps known stand gone k w order high j next));
      tasks = λ i other. room (c.inst.gap * (w - k)) (off_of o j) (off_of o i) (bay_of c.inst j) (bay_of c.inst i)
          (omega (arith, task_task o valid plan keeps known stand gone k w order high j i next other));
    })

    at_stand : ((stand_of o.stands k).bay -ℤ pos (far_of o k)) ≤ℤ tops k
    at_stand = (are.highest k low ((stand_of o.stands k).bay -ℤ pos (far_of o k))).1 (λ w order high. record {
      stand = room (c.inst.gap * (w - k)) (far_of o k) (far_of o w) (stand_of o.stands k).bay (stand_of o.stands w).bay
          (omega (arith, stand_stand o valid plan keeps known stand gone k w order high));
      tasks = λ i other. room (c.inst.gap * (w - k)) (far_of o k) (off_of o i) (stand_of o.stands k).bay (bay_of c.inst i)
          (omega (arith, stand_task o valid plan keeps known stand gone k w order high i other));
    })

  -- the gap above a crane that leaves all others room, the next one leaves them room too
  next_top : (v k : ℕ) → v + 1 ≡ k → k < length c.inst.cranes → places v ≤ℤ tops v → (places v +ℤ pos c.inst.gap) ≤ℤ tops k
  next_top v k next low below = (are.highest k low (places v +ℤ pos c.inst.gap)).1 (λ w order high.
      let rooms = (are.highest v (omega (arith, next, low)) (places v)).0 below w (omega (arith, next, order)) high in
      let e = one_gap c.inst.gap v k w next order in
      record {
        stand = moved_up c.inst.gap (c.inst.gap * (w - k)) (c.inst.gap * (w - v)) (places v) _ e rooms.stand;
        tasks = λ j is. moved_up c.inst.gap (c.inst.gap * (w - k)) (c.inst.gap * (w - v)) (places v) _ e (rooms.tasks j is);
      })

  below_top : (k : ℕ) → k < length c.inst.cranes → ((v : ℕ) → v + 1 ≡ k → places v ≤ℤ tops v) → places k ≤ℤ tops k
  below_top k low before = (are.each_one k low (tops k)).1 (record {
    stand = inr (at_itself (tops k));
    tasks = λ j next. under (tops k) (bay_of c.inst j) (off_of o j) (at_task k low j next);
    next = λ v next. next_top v k next low (before v next);
  })

  pub all_below : (k : ℕ) → k < length c.inst.cranes → places k ≤ℤ tops k
  all_below zero low = below_top zero low (λ v next. absurd (omega arith))
  all_below (suc k) low = below_top (suc k) low (λ v next.
      let e : k ≡ v = omega arith in
      subst (λ (u : ℕ). places u ≤ℤ tops u) e (all_below k (omega arith)))

  pub high_enough : (k : ℕ) → k < length c.inst.cranes → IsHighEnough o tops places k (places k)
  high_enough k low = (are.each_one k low (places k)).0 (at_itself (places k))

  -- neighbours are the gap apart
  pub in_order : (k : ℕ) → k + 1 < length c.inst.cranes → (places k +ℤ pos c.inst.gap) ≤ℤ places (k + 1)
  in_order k low = (high_enough (k + 1) low).next k refl

  one_more : (g n : ℕ) (x y z : ℤ) → (x +ℤ pos (g * n)) ≤ℤ y → (y +ℤ pos g) ≤ℤ z → (x +ℤ pos (g * suc n)) ≤ℤ z
  one_more g n x y z one next = omega (arith, bays)

  -- and any two as many gaps as there are cranes between
  pub places_apart : (v n : ℕ) → v + n < length c.inst.cranes → (places v +ℤ pos (c.inst.gap * n)) ≤ℤ places (v + n)
  places_apart v zero high =
      let e : v ≡ v + 0 = omega arith in
      subst (λ (u : ℕ). (places v +ℤ pos (c.inst.gap * 0)) ≤ℤ places u) e (omega (arith, bays))
  places_apart v (suc n) high =
      let before = places_apart v n (omega arith) in
      let step = in_order (v + n) (omega arith) in
      let e : v + n + 1 ≡ v + suc n = omega arith in
      subst (λ (u : ℕ). (places v +ℤ pos (c.inst.gap * suc n)) ≤ℤ places u) e
      (one_more c.inst.gap n (places v) (places (v + n)) (places (v + n + 1)) before step)

  -- ---- where a crane can be

  no_lower : (k : ℕ) (low : k < length c.inst.cranes) → ((stand_of o.stands k).bay -ℤ pos (far_of o k)) ≤ℤ places k
  no_lower k low = elim (high_enough k low).stand [
    | inl stays ↦ no_less (places k) (stand_of o.stands k).bay (far_of o k) stays
    | inr top ↦ over _ (tops k) (places k) (at_stand k low) top
  ]

  self_gap : (g k : ℕ) (x y : ℤ) → (x +ℤ pos (g * (k - k))) ≤ℤ y → x ≤ℤ y
  self_gap g k x y low =
      let none : k - k ≡ 0 = omega arith in
      let e : g * (k - k) ≡ 0 = ap (λ (n : ℕ). g * n) none ∙ omega arith in
      omega (arith, bays, e)

  pub no_higher : (k : ℕ) (low : k < length c.inst.cranes) → places k ≤ℤ ((stand_of o.stands k).bay +ℤ pos (far_of o k))
  no_higher k low =
      let rooms = (are.highest k low (places k)).0 (all_below k low) k (omega arith) low in
      self_gap c.inst.gap k (places k) _ rooms.stand

  pub in_reach : (k : ℕ) (low : k < length c.inst.cranes) → bays_between (stand_of o.stands k).bay (places k) ≤ far_of o k
  in_reach k low = near_enough (places k) (stand_of o.stands k).bay (far_of o k) (no_lower k low) (no_higher k low)

  same_place : (x y : ℤ) (n : ℕ) → bays_between x y ≤ n → n ≡ 0 → y ≡ x
  same_place x y n near none = omega (arith, bays)

  way_fits : (t n a : ℕ) → 0 < t → n ≤ a / t → t * n ≤ a
  way_fits t n a some few =
      let more = mul-le-mul_left t few in
      let part : t * (a / t) ≤ a = omega arith in
      omega (arith, more, part)

  -- a crane that must stay is where it stands
  pub stays : (k : ℕ) → k < length c.inst.cranes → c.clock < (stand_of o.stands k).until → places k ≡ (stand_of o.stands k).bay
  stays k low held =
      let spare : c.clock - (stand_of o.stands k).until ≡ 0 = omega arith in
      let none : far_of o k ≡ 0 = ap (λ (a : ℕ). a / c.inst.travel) spare ∙ zero-div c.inst.travel in
      same_place (stand_of o.stands k).bay (places k) (far_of o k) (in_reach k low) none

  -- one that needn't is near enough to its tasks
  pub near_task : (k j : ℕ) → k < length c.inst.cranes → IsNextOf o k j → bays_between (places k) (bay_of c.inst j) ≤ off_of o j
  near_task k j low next =
      let above = (high_enough k low).tasks j next in
      let rooms = (are.highest k low (places k)).0 (all_below k low) k (omega arith) low in
      let below = self_gap c.inst.gap k (places k) _ (rooms.tasks j next) in
      near_both (places k) (bay_of c.inst j) (off_of o j) above below

  -- each crane can be at its place by now
  pub can_be : (k : ℕ) → k < length c.inst.cranes → CanBeAt c.inst c.clock (stand_of o.stands k) (places k)
  can_be k low = elim (cases_lt c.clock (stand_of o.stands k).until) [
    | inl held ↦ inl (held, stays k low held)
    | inr loose ↦
        let fits = way_fits c.inst.travel (bays_between (stand_of o.stands k).bay (places k)) (c.clock - (stand_of o.stands k).until)
        (omega (arith, (travel_of c.inst valid).0)) (in_reach k low) in
        inr (omega (arith, fits, loose))
  ]
