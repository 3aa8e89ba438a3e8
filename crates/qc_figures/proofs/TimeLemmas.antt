-- The tasks of a crane and its way take no more than the time from when it is ready to its last end: while it does a
-- task it stands, so at each part of a tick it does one task, or goes, or neither.
use Rattle.std.proofs.Common.{◌≡◌, ◌≢◌, ℕ, zero, suc, ◌+◌, ◌-◌, ◌*◌, ◌/◌, ◌<◌, ◌≤◌, max, ◌⊎◌, inl, inr, Bool, true, false, cond, not, ◌==◌, ltb, ℤ, pos, ◌+ℤ◌, ◌-ℤ◌, ◌*ℤ◌, unsigned_abs, List, length, refl, ap, sym, zero-add, add-zero, subst, ◌∙◌, arith, sum_by, le_of_eq, mul-le-mul_left}
use Rattle.std.specs.List.{range_with_len}
use Rattle.std.proofs.lemmas.Bool.{cases_lt, cond-false, cond-true, eq-eqb, eqb-true, le-ltb, lt-ltb}
use Rattle.std.proofs.lemmas.Int.{ints}
use Rattle.std.proofs.lemmas.List.{length-map}
use Rattle.std.proofs.lemmas.List.Sums.{sum_by-cons}
use Rattle.qc_model.specs.declared.schedule.Slot.{Slot}
use Rattle.qc_model.specs.Instance.{InstanceView, Valid, crane, ticks_of}
use Rattle.qc_model.specs.Judge.{IsJudgeable}
use Rattle.qc_model.specs.Rules.{Feasible, crane_of, end_of, start_of, starts}
use Rattle.qc_model.proofs.NodeLemmas.{ends_by, start_at}
use Rattle.qc_model.proofs.Sums.{InARow, in_a_row}
use Rattle.qc_motion.specs.declared.track.Waypoint.{Waypoint}
use Rattle.qc_motion.specs.Waypoints.{waypoint}
use Rattle.qc_figures.specs.Figures.{PlanView, clipped, does, done_at, figures, greatest, leg, of_crane, plan_end, ready_at, track, way_of, way_parts, work_of}
use Rattle.qc_figures.specs.Motions.{HasPlace, IsPath, IsWay, parts}
use Rattle.qc_figures.proofs.MotionLemmas.{GoesEvenly, IsMotion, evenly_of, motion_of, parts_are}
use Rattle.qc_figures.proofs.WayLemmas.{rises}

-- ---- two sums as one

sum_split : (f : ℕ → ℕ) (a n m : ℕ)
    → sum_by f (range_with_len a (n + m)) ≡ sum_by f (range_with_len a n) + sum_by f (range_with_len (a + n) m)
sum_split f a zero m = omega (arith, ap (λ (x : ℕ). sum_by f (range_with_len a x)) (zero-add m), ap (λ (x : ℕ). sum_by f (range_with_len x m)) (add-zero a))
sum_split f a (suc n) m =
    let rest = sum_split f (a + 1) n m in
    let all = sum_by-cons f a (range_with_len (a + 1) (n + m)) in
    let front = sum_by-cons f a (range_with_len (a + 1) n) in
    let e : suc n + m ≡ suc (n + m) = omega arith in
    let g : a + 1 + n ≡ a + suc n = omega arith in
    omega (arith, rest, all, front, ap (λ (x : ℕ). sum_by f (range_with_len a x)) e, ap (λ (x : ℕ). sum_by f (range_with_len x m)) g)

sum_shift : (f g : ℕ → ℕ) (d a n : ℕ) → ((i : ℕ) → i < a + n → f (d + i) ≡ g i)
    → sum_by f (range_with_len (d + a) n) ≡ sum_by g (range_with_len a n)
sum_shift f g d a zero h = refl
sum_shift f g d a (suc n) h =
    let rest = sum_shift f g d (a + 1) n (λ i low. h i (omega arith)) in
    let e : d + (a + 1) ≡ d + a + 1 = omega arith in
    omega (arith, rest, sum_by-cons f (d + a) (range_with_len (d + a + 1) n), sum_by-cons g a (range_with_len (a + 1) n), h a (omega arith), ap (λ (x : ℕ). sum_by f (range_with_len x n)) e)

pub sum_same : (f g : ℕ → ℕ) (a n : ℕ) → ((j : ℕ) → j < a + n → f j ≡ g j)
    → sum_by f (range_with_len a n) ≡ sum_by g (range_with_len a n)
sum_same f g a zero h = refl
sum_same f g a (suc n) h =
    omega (arith, sum_same f g (a + 1) n (λ j low. h j (omega arith)), sum_by-cons f a (range_with_len (a + 1) n), sum_by-cons g a (range_with_len (a + 1) n), h a (omega arith))

-- jobs of two kinds in a row: n of the first and then m of the second
module _ (on on' : ℕ → Bool) (start start' long long' : ℕ → ℕ) (n m from to : ℕ)
    (first : InARow on start long n from to) (second : InARow on' start' long' m from to)
    (clear : (i j : ℕ) → i < n → j < m → on i ≡ true → on' j ≡ true
    → (start i + long i ≤ start' j) ⊎ (start' j + long' j ≤ start i)) where
  pick : {A : Type 0} → (ℕ → A) → (ℕ → A) → ℕ → A
  pick f g j = cond (ltb j n) (f j) (g (j - n))

  in_first : {A : Type 0} (f g : ℕ → A) (j : ℕ) → j < n → pick f g j ≡ f j
  unfolding pick
  in_first f g j low = cond-true (ltb j n) (f j) (g (j - n)) (lt-ltb j n low)

  in_second : {A : Type 0} (f g : ℕ → A) (j : ℕ) → n ≤ j → pick f g j ≡ g (j - n)
  unfolding pick
  in_second f g j high = cond-false (ltb j n) (f j) (g (j - n)) (le-ltb j n high)

  both : InARow (pick on on') (pick start start') (pick long long') (n + m) from to
  both = record {
    within = λ j low t. elim (cases_lt j n) [
      | inl l ↦
          let w = first.within j l (sym (in_first on on' j l) ∙ t) in
          (omega (arith, w.0, in_first start start' j l), omega (arith, w.1, in_first start start' j l, in_first long long' j l))
      | inr h ↦
          let w = second.within (j - n) (omega arith) (sym (in_second on on' j h) ∙ t) in
          (omega (arith, w.0, in_second start start' j h), omega (arith, w.1, in_second start start' j h, in_second long long' j h))
    ];
    clear = λ i j order low t u. elim (cases_lt j n) [
      | inl l ↦
          let i_low : i < n = omega arith in
          elim (first.clear i j order l (sym (in_first on on' i i_low) ∙ t) (sym (in_first on on' j l) ∙ u)) [
            | inl h ↦ inl (omega (arith, h, in_first start start' i i_low, in_first long long' i i_low, in_first start start' j l))
            | inr h ↦ inr (omega (arith, h, in_first start start' i i_low, in_first start start' j l, in_first long long' j l))
          ]
      | inr jh ↦ elim (cases_lt i n) [
        | inl il ↦
            elim (clear i (j - n) il (omega arith) (sym (in_first on on' i il) ∙ t) (sym (in_second on on' j jh) ∙ u)) [
              | inl h ↦ inl (omega (arith, h, in_first start start' i il, in_first long long' i il, in_second start start' j jh))
              | inr h ↦ inr (omega (arith, h, in_first start start' i il, in_second start start' j jh, in_second long long' j jh))
            ]
        | inr ih ↦
            elim (second.clear (i - n) (j - n) (omega arith) (omega arith) (sym (in_second on on' i ih) ∙ t) (sym (in_second on on' j jh) ∙ u)) [
              | inl h ↦ inl (omega (arith, h, in_second start start' i ih, in_second long long' i ih, in_second start start' j jh))
              | inr h ↦ inr (omega (arith, h, in_second start start' i ih, in_second start start' j jh, in_second long long' j jh))
            ]
      ]
    ];
  }

  two_in_a_row :
      sum_by (λ j. cond (on j) (long j) 0) (range_with_len 0 n) + sum_by (λ j. cond (on' j) (long' j) 0) (range_with_len 0 m)
      ≤ to - from
  two_in_a_row =
      let all = λ (j : ℕ). cond (pick on on' j) (pick long long' j) 0 in
      let one = sum_same all (λ j. cond (on j) (long j) 0) 0 n
      (λ j low. ap (λ (b : Bool). cond b (pick long long' j) 0) (in_first on on' j (omega arith)) ∙ ap (λ (x : ℕ). cond (on j) x 0) (in_first long long' j (omega arith))) in
      let at : (i : ℕ) → n + i - n ≡ i = λ i. omega arith in
      let two = sum_shift all (λ j. cond (on' j) (long' j) 0) n 0 m
      (λ i low. ap (λ (b : Bool). cond b (pick long long' (n + i)) 0) (in_second on on' (n + i) (omega arith) ∙ ap on' (at i))
      ∙ ap (λ (x : ℕ). cond (on' i) x 0) (in_second long long' (n + i) (omega arith) ∙ ap long' (at i))) in
      let e : n + 0 ≡ 0 + n = omega arith in
      omega (arith, sum_split all 0 n m, one, two, ap (λ (x : ℕ). sum_by all (range_with_len x m)) e, in_a_row (pick on on') (pick start start') (pick long long') (n + m) from to both)

-- ---- the greatest of some numbers

greatest_ge : (f : ℕ → ℕ) (a n j : ℕ) → a ≤ j → j < a + n → f j ≤ greatest f (range_with_len a n)
greatest_ge f a zero j low high = absurd (omega arith)
greatest_ge f a (suc n) j low high = elim (cases_lt a j) [
  | inl l ↦ let rest = greatest_ge f (a + 1) n j (omega arith) (omega arith) in omega arith
  | inr h ↦ let e : j ≡ a = omega arith in omega (arith, ap f e)
]

greatest_le : (f : ℕ → ℕ) (b a n : ℕ) → ((j : ℕ) → a ≤ j → j < a + n → f j ≤ b) → greatest f (range_with_len a n) ≤ b
greatest_le f b a zero h = omega arith
greatest_le f b a (suc n) h =
    let rest = greatest_le f b (a + 1) n (λ j low high. h j (omega arith) (omega arith)) in
    omega (arith, h a (omega arith) (omega arith))

at_most : (b : Bool) (x y : ℕ) → x ≤ y → cond b x 0 ≤ y
at_most true x y le = le
at_most false x y le = omega arith

-- ---- who goes doesn't stand

-- the same place at two ticks of one leg: it doesn't lead anywhere
stands : (q p r : ℤ) (l a b : ℕ) → b ≡ a + 1
    → (q *ℤ pos l) ≡ ((p *ℤ pos l) +ℤ ((r -ℤ p) *ℤ pos a))
    → (q *ℤ pos l) ≡ ((p *ℤ pos l) +ℤ ((r -ℤ p) *ℤ pos b))
    → p ≡ r
stands q p r l a b e one two =
    let same : ((r -ℤ p) *ℤ pos a) ≡ ((r -ℤ p) *ℤ pos b) = omega (arith, ints, one, two) in
    let none = flat (r -ℤ p) a b e same in
    omega (arith, ints, none)
  where
    flat : (z : ℤ) (a b : ℕ) → b ≡ a + 1 → (z *ℤ pos a) ≡ (z *ℤ pos b) → z ≡ pos 0
    flat z a b e same =
        let next : (z *ℤ pos b) ≡ (z *ℤ pos (a + 1)) = ap (λ n. z *ℤ pos n) e in
        omega (arith, ints, same, next)

-- ---- tasks of one crane

apart_of : (inst : InstanceView) (sched : List Slot) → Feasible inst sched
    → (i j : ℕ) → i < j → j < length inst.tasks → crane_of sched i ≡ crane_of sched j
    → (end_of inst sched i ≤ start_of sched j) ⊎ (end_of inst sched j ≤ start_of sched i)
apart_of inst sched feasible i j order h same =
    elim (feasible.travel i j (omega arith) h (λ e. absurd (omega arith)) same) [
      | inl x ↦ inl (omega (arith, x))
      | inr x ↦ inr (omega (arith, x))
    ]

-- ---- parts of a tick

-- the parts of some numbers, together
sum_times : (d : ℕ) (on : ℕ → Bool) (f : ℕ → ℕ) (a n : ℕ)
    → sum_by (λ j. cond (on j) (d * f j) 0) (range_with_len a n)
    ≡ d * sum_by (λ j. cond (on j) (f j) 0) (range_with_len a n)
sum_times d on f a zero = omega arith
sum_times d on f a (suc n) =
    let rest = sum_times d on f (a + 1) n in
    let here = one (on a) (f a) in
    let all = sum_by-cons (λ j. cond (on j) (d * f j) 0) a (range_with_len (a + 1) n) in
    let each = sum_by-cons (λ j. cond (on j) (f j) 0) a (range_with_len (a + 1) n) in
    omega (arith, rest, here, all, ap (λ (x : ℕ). d * x) each)
  where
    one : (b : Bool) (x : ℕ) → cond b (d * x) 0 ≡ d * cond b x 0
    one true x = refl
    one false x = omega arith

-- what fits in parts fits in whole ticks
fits_in : (d work way from till : ℕ) → (d ≡ 1) ⊎ (d ≡ 2) → d * work + way ≤ d * till - d * from
    → work + way / d ≤ till - from
fits_in d work way from till (inl e) h =
    let c : 1 * work + way ≤ 1 * till - 1 * from = subst (λ (m : ℕ). m * work + way ≤ m * till - m * from) e h in
    subst (λ (m : ℕ). work + way / m ≤ till - from) (sym e) (omega (arith, c))
fits_in d work way from till (inr e) h =
    let c : 2 * work + way ≤ 2 * till - 2 * from = subst (λ (m : ℕ). m * work + way ≤ m * till - m * from) e h in
    subst (λ (m : ℕ). work + way / m ≤ till - from) (sym e) (omega (arith, c))

-- ---- a crane

module _ (p : PlanView) (k : ℕ) (valid : Valid p.inst) (judgeable : IsJudgeable p.inst p.sched)
    (feasible : Feasible p.inst p.sched) (way : IsWay p.inst p.sched p.way) (low : k < length p.inst.cranes)
    (is : IsPath p.inst p.sched p.way k (track p k)) where
  abbrev inst : InstanceView
  inst = p.inst

  abbrev sched : List Slot
  sched = p.sched

  abbrev points : List Waypoint
  points = track p k

  abbrev d : ℕ
  d = parts p.way

  abbrev from : ℕ
  from = ready_at p k

  abbrev till : ℕ
  till = done_at p k

  a_part : 1 ≤ d
  a_part = elim (parts_are p.way) [ inl e ↦ omega arith | inr e ↦ omega arith ]

  motion : IsMotion inst sched p.way
  motion = motion_of inst sched p.way valid feasible way

  even : GoesEvenly inst sched p.way k points
  even = evenly_of inst sched p.way k points is

  slot : (j : ℕ) → j < length inst.tasks → j < length sched
  slot j h = let e = judgeable.all_tasks in omega arith

  on_crane : (j : ℕ) → does sched k j ≡ true → crane_of sched j ≡ k
  on_crane j t = eqb-true (crane_of sched j) k t

  ends_before : (j : ℕ) → j < length inst.tasks → end_of inst sched j ≤ plan_end p
  ends_before j h =
      let n : length (starts sched) ≡ length inst.tasks = length-map sched (λ s. s.start) ∙ judgeable.all_tasks in
      omega (arith, ends_by inst.tasks (starts sched) j n h, start_at sched j)

  by_till : (j : ℕ) → j < length inst.tasks → does sched k j ≡ true → end_of inst sched j ≤ till
  by_till j h t =
      omega (arith, greatest_ge (of_crane sched k (end_of inst sched)) 0 (length inst.tasks) j (omega arith) (omega arith), cond-true (does sched k j) (end_of inst sched j) 0 t)

  pub till_by : till ≤ plan_end p
  till_by =
      let last = greatest_le (of_crane sched k (end_of inst sched)) (plan_end p) 0 (length inst.tasks)
      (λ j _ h. at_most (does sched k j) (end_of inst sched j) (plan_end p) (ends_before j (omega arith))) in
      omega arith

  -- a task begins when the crane is ready, and two of them are clear of each other
  begins : (j : ℕ) → j < length inst.tasks → does sched k j ≡ true → (crane inst k).ready ≤ start_of sched j
  begins j h t =
      let r = (feasible.ready j h).1 in
      subst (λ (v : ℕ). (crane inst v).ready ≤ start_of sched j) (on_crane j t) (omega (arith, r))

  clear_tasks : (i j : ℕ) → i < j → j < length inst.tasks → does sched k i ≡ true → does sched k j ≡ true
      → (end_of inst sched i ≤ start_of sched j) ⊎ (end_of inst sched j ≤ start_of sched i)
  clear_tasks i j order h t u = apart_of inst sched feasible i j order h (on_crane i t ∙ sym (on_crane j u))

  -- the tasks in parts of a tick
  abbrev start : ℕ → ℕ
  start j = d * start_of sched j

  abbrev ticks : ℕ → ℕ
  ticks j = d * ticks_of inst j

  tasks_row : InARow (does sched k) start ticks (length inst.tasks) (d * from) (d * till)
  tasks_row = record {
    within = λ j h t.
        let b = begins j h t in
        let early : from ≤ start_of sched j = omega arith in
        let s = mul-le-mul_left d early in
        let e = mul-le-mul_left d (by_till j h t) in
        (s, omega (arith, e));
    clear = λ i j order h t u. elim (clear_tasks i j order h t u) [
      | inl c ↦ let e = mul-le-mul_left d c in inl (omega (arith, e))
      | inr c ↦ let e = mul-le-mul_left d c in inr (omega (arith, e))
    ];
  }

  -- the legs in which it goes
  abbrev u_of : ℕ → Waypoint
  u_of i = waypoint points i

  abbrev v_of : ℕ → Waypoint
  v_of i = waypoint points (i + 1)

  abbrev goes_on : ℕ → Bool
  goes_on i = not (unsigned_abs ((u_of i).place -ℤ (v_of i).place) == 0)

  abbrev begin : ℕ → ℕ
  begin i = clipped (d * from) (d * till) (u_of i).at

  abbrev long : ℕ → ℕ
  long i = clipped (d * from) (d * till) (v_of i).at - clipped (d * from) (d * till) (u_of i).at

  rising_to : (i n : ℕ) → i + n < length points → (u_of i).at ≤ (u_of (i + n)).at
  rising_to i zero h = le_of_eq (ap (λ (x : ℕ). (waypoint points x).at) (omega arith))
  rising_to i (suc n) h =
      let e : i + suc n ≡ i + n + 1 = omega arith in
      omega (arith, rising_to i n (omega arith), rises points even.rising (i + n) (omega arith), ap (λ (x : ℕ). (waypoint points x).at) e)

  legs_row : InARow goes_on begin long (length points - 1) (d * from) (d * till)
  legs_row = record {
    within = λ i h t.
        let r = rises points even.rising i (omega arith) in
        let order : from ≤ till = omega arith in
        let o = mul-le-mul_left d order in
        (omega (arith, o), omega (arith, o, r));
    clear = λ i j order h t u.
        let r = rises points even.rising i (omega arith) in
        let e : i + 1 + (j - (i + 1)) ≡ j = omega arith in
        let s = rising_to (i + 1) (j - (i + 1)) (omega arith) in
        inl (omega (arith, r, s, ap (λ (x : ℕ). (waypoint points x).at) e));
  }

  -- while it does a task it doesn't go
  apart_legs : (j i : ℕ) → j < length inst.tasks → i < length points - 1 → does sched k j ≡ true → goes_on i ≡ true
      → (start j + ticks j ≤ begin i) ⊎ (begin i + long i ≤ start j)
  apart_legs j i h g t u =
      let r = rises points even.rising i (omega arith) in
      let w = tasks_row.within j h t in
      let lasts : 1 ≤ ticks_of inst j = omega arith in
      let some = mul-le-mul_left d lasts in
      let one = a_part in
      elim (cases_lt (begin i) (start j + ticks j)) [
        | inr late ↦ inl late
        | inl early ↦ elim (cases_lt (start j) (begin i + long i)) [
          | inr over ↦ inr over
          | inl under ↦
              let m = max (start j) (u_of i).at in
              absurd (stays (u_of i) (v_of i) u (same_place j i m h g t (omega arith) (omega arith) (omega arith) (omega arith)))
        ]
      ]
    where
      stays : (u v : Waypoint) → not (unsigned_abs (u.place -ℤ v.place) == 0) ≡ true → u.place ≢ v.place
      stays u v differs e =
          let none : unsigned_abs (u.place -ℤ v.place) ≡ 0 = omega (arith, ints, e) in
          let zero_is = eq-eqb (unsigned_abs (u.place -ℤ v.place)) 0 none in
          let no : not true ≡ true = ap not (sym zero_is) ∙ differs in
          cc no

      -- at two moments of one task and of one leg
      same_place : (j i m : ℕ) → j < length inst.tasks → i < length points - 1 → does sched k j ≡ true
          → start j ≤ m → m + 1 ≤ start j + ticks j → (u_of i).at ≤ m → m + 1 ≤ (v_of i).at
          → (u_of i).place ≡ (v_of i).place
      same_place j i m h g t s_low e_high u_low v_high =
          let by = mul-le-mul_left d (ends_before j h) in
          let (q, q_is) = motion.somewhere k m low (omega (arith, by)) in
          let (r, r_is) = motion.somewhere k (m + 1) low (omega (arith, by)) in
          let move = λ (x : ℕ) (y : ℤ) (at : HasPlace inst sched p.way k x d y).
          subst (λ (v : ℕ). HasPlace inst sched p.way v x d y) (sym (on_crane j t)) at in
          let q_at = motion.at_task j m q h (omega arith) (omega arith) (move m q q_is) in
          let r_at = motion.at_task j (m + 1) r h (omega arith) (omega arith) (move (m + 1) r r_is) in
          let one = even.linear i m q (omega arith) (omega arith) (omega arith) (omega (arith, by)) q_is in
          let two = even.linear i (m + 1) r (omega arith) (omega arith) (omega arith) (omega (arith, by)) r_is in
          let rise : m + 1 - (u_of i).at ≡ m - (u_of i).at + 1 = omega arith in
          stands q (u_of i).place (v_of i).place ((v_of i).at - (u_of i).at) (m - (u_of i).at) (m + 1 - (u_of i).at) rise
          one (ap (λ (x : ℤ). x *ℤ pos ((v_of i).at - (u_of i).at)) (q_at ∙ sym r_at) ∙ two)

  parts_fit : d * work_of p k + way_parts p k ≤ d * till - d * from
  parts_fit =
      let row = two_in_a_row (does sched k) goes_on start begin ticks long (length inst.tasks) (length points - 1) (d * from) (d * till)
      tasks_row legs_row apart_legs in
      let work = sum_times d (does sched k) (ticks_of inst) 0 (length inst.tasks) in
      let legs = sum_same (λ i. leg (d * from) (d * till) (u_of i) (v_of i)) (λ i. cond (goes_on i) (long i) 0) 0 (length points - 1)
      (λ i _. turned (unsigned_abs ((u_of i).place -ℤ (v_of i).place) == 0) (long i)) in
      omega (arith, row, work, legs)
    where
      turned : (b : Bool) (x : ℕ) → cond b 0 x ≡ cond (not b) x 0
      turned true x = refl
      turned false x = refl

  fits : work_of p k + way_of p k ≤ till - from
  fits = fits_in d (work_of p k) (way_parts p k) from till (parts_are p.way) parts_fit

  -- the figures of the crane make up all ticks
  pub ticks_whole :
      (figures p k).not_ready + (figures p k).work + (figures p k).moving + (figures p k).waiting + (figures p k).idle
      ≡ plan_end p
  ticks_whole = omega (arith, fits, till_by)
