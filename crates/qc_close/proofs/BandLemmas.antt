-- Packed tasks are told by where they lie for each crane: those of a crane lie below those of each crane below it, and
-- their span is the least stretch among which each may lie.
use Rattle.std.proofs.Common.{◌≡◌, ℕ, ◌+◌, ◌-◌, ◌*◌, ◌<◌, ◌≤◌, nat_le, ◌⊎◌, inl, inr, Bool, true, false, List, length, get_or, min, Option, None, Some, MatchOption, ℤ, ◌≤ℤ◌, ◌<ℤ◌, refl, ap, sym, subst, ◌∙◌, arith, int_le, below_more}
use Rattle.std.specs.Int.{int_max, int_min}
use Rattle.std.specs.Option.{option_map_or}
use Rattle.std.proofs.lemmas.Bool.{cases_lt, false≢true, leb-true}
use Rattle.std.proofs.Math.Nat.{mul-sub}
use Rattle.std.proofs.lemmas.Nat.{mul-le}
use Rattle.std.proofs.lemmas.Int.{by_lt_z, clamps, ints}
use Rattle.qc_close.specs.Model.{bays_up, InstanceView, place}
use Rattle.qc_model.proofs.Bays.{bays}
use Rattle.qc_model.proofs.NodeLemmas.{T_true, true_T}
use Rattle.qc_close.specs.Bands.{AreBelow, AreStacked, HasNone, IsBand, IsBandOf, IsFinding, IsFound, IsFloor, IsFloorOf, IsFoundFrom, IsNearest, IsOne, IsPlace, IsReach, IsStretch, Lies, may, widened}
use Rattle.qc_close.specs.declared.packs.Band.{Band}

-- a number is one of the first n and one more
before_more : (P : ℕ → Type 0) (n : ℕ) → ((i : ℕ) → i < n → P i) → P n → (i : ℕ) → i < n + 1 → P i
before_more P n h here = below_more P n h here

-- ---- the tasks of one crane

module _ (inst : InstanceView) (cranes : List (Option ℕ)) (tasks : List ℕ) (v : ℕ) where
  one_more : (n : ℕ) (x : ℤ) → IsOne inst cranes tasks v n x → IsOne inst cranes tasks v (n + 1) x
  one_more n x one =
      record { index = one.index; before = omega (arith, one.before); may = one.may; place = one.place }

  pub band_skips : (n : ℕ) (o : Option Band) → IsBandOf inst cranes tasks v n o
      → may inst cranes (get_or tasks n 0) v ≡ false → IsBandOf inst cranes tasks v (n + 1) o
  band_skips n None before fails =
      before_more (λ i. may inst cranes (get_or tasks i 0) v ≡ false) n before fails
  band_skips n (Some b) before fails = record {
    low = one_more n b.low before.low;
    high = one_more n b.high before.high;
    within =
        before_more _ n before.within (λ t. absurd (false≢true (sym fails ∙ t)));
    near = before.near;
  }

  pub band_takes : (n : ℕ) (o : Option Band) (x : ℤ) → IsBandOf inst cranes tasks v n o
      → may inst cranes (get_or tasks n 0) v ≡ true → place inst (get_or tasks n 0) v ≡ x
      → IsPlace x → IsBand inst cranes tasks v (n + 1) (widened o x)
  band_takes n None x before t at near = record {
    low = record { index = n; before = omega arith; may = t; place = at };
    high = record { index = n; before = omega arith; may = t; place = at };
    within = before_more _ n (λ i low u. absurd (false≢true (sym (before i low) ∙ u)))
        (λ u. (omega (arith, ints, at), omega (arith, ints, at)));
    near = (near, near);
  }
  band_takes n (Some b) x before t at near = record {
    low = by_lt_z {P = IsOne inst cranes tasks v (n + 1) (int_min x b.low)} b.low x
        (λ less. subst (IsOne inst cranes tasks v (n + 1)) (low_is less) (one_more n b.low before.low))
        (λ over. record { index = n; before = omega arith; may = t; place = at ∙ low_here over });
    high = by_lt_z {P = IsOne inst cranes tasks v (n + 1) (int_max x b.high)} x b.high
        (λ less. subst (IsOne inst cranes tasks v (n + 1)) (high_is less) (one_more n b.high before.high))
        (λ over. record { index = n; before = omega arith; may = t; place = at ∙ high_here over });
    within = before_more _ n
        (λ i low u. let w = before.within i low u in (omega (arith, ints, clamps, w.0), omega (arith, ints, clamps, w.1)))
        (λ u. (omega (arith, ints, clamps, at), omega (arith, ints, clamps, at)));
    near =
        let was = before.near in (
          (omega (arith, ints, clamps, near.0, was.0), omega (arith, ints, clamps, near.1, was.0)),
          (omega (arith, ints, clamps, near.0, was.1), omega (arith, ints, clamps, near.1, was.1)),
        );
  }
    where
      low_is : b.low <ℤ x → b.low ≡ int_min x b.low
      low_is less = omega (arith, ints, clamps)

      low_here : x ≤ℤ b.low → x ≡ int_min x b.low
      low_here over = omega (arith, ints, clamps)

      high_is : x <ℤ b.high → b.high ≡ int_max x b.high
      high_is less = omega (arith, ints, clamps)

      high_here : b.high ≤ℤ x → x ≡ int_max x b.high
      high_here over = omega (arith, ints, clamps)

-- ---- bands above one another

module _ (inst : InstanceView) (cranes : List (Option ℕ)) (tasks : List ℕ) where
  -- a crane that may do none of the tasks
  pub stacked_skips : (w : ℕ) → AreStacked inst cranes tasks w → HasNone inst cranes tasks w (length tasks)
      → AreStacked inst cranes tasks (w + 1)
  stacked_skips w before none v u i j low high is_i is_j t s = elim (cases_lt u w) [
    | inl l ↦ before v u i j low l is_i is_j t s
    | inr l ↦
        let e : u ≡ w = omega arith in
        absurd (false≢true (sym (none j is_j) ∙ sym (ap (may inst cranes (get_or tasks j 0)) e) ∙ s))
  ]

  pub floor_skips : (w : ℕ) (o : Option ℤ) → IsFloorOf inst cranes tasks w o → HasNone inst cranes tasks w (length tasks)
      → IsFloorOf inst cranes tasks (w + 1) o
  floor_skips w None before none = before_more (λ v. HasNone inst cranes tasks v (length tasks)) w before none
  floor_skips w (Some x) before none = record {
    crane = before.crane;
    before = omega (arith, before.before);
    one = before.one;
    lowest = λ v i low is_i t.
        before_more (λ v. may inst cranes (get_or tasks i 0) v ≡ true → x ≤ℤ place inst (get_or tasks i 0) v) w
        (λ v low t. before.lowest v i low is_i t)
        (λ t. absurd (false≢true (sym (none i is_i) ∙ t))) v low t;
  }

  -- one whose tasks all lie below the floor
  module _ (w : ℕ) (b : Band) (band : IsBand inst cranes tasks w (length tasks) b) where
    abbrev IsBelow : Option ℤ → Type 0
    IsBelow o = option_map_or (λ x. int_le x b.high) o false ≡ false

    below : (x : ℤ) → int_le x b.high ≡ false → b.high <ℤ x
    below x fails = by_lt_z b.high x (λ l. l) (λ over. absurd (false≢true (sym fails ∙ T_true over.le)))

    pub stacked_takes : (o : Option ℤ) → AreStacked inst cranes tasks w → IsFloorOf inst cranes tasks w o → IsBelow o
        → AreStacked inst cranes tasks (w + 1)
    stacked_takes o before floor under v u i j low high is_i is_j t s = elim (cases_lt u w) [
      | inl l ↦ before v u i j low l is_i is_j t s
      | inr l ↦
          let e : u ≡ w = omega arith in
          subst (λ (u : ℕ). place inst (get_or tasks j 0) u <ℤ place inst (get_or tasks i 0) v) (sym e)
          (under_floor o floor under v i j (omega arith) is_i is_j t (ap (may inst cranes (get_or tasks j 0)) (sym e) ∙ s))
    ]
      where
        under_floor : (o : Option ℤ) → IsFloorOf inst cranes tasks w o → IsBelow o → (v i j : ℕ) → v < w → i < length tasks
            → j < length tasks → may inst cranes (get_or tasks i 0) v ≡ true → may inst cranes (get_or tasks j 0) w ≡ true
            → place inst (get_or tasks j 0) w <ℤ place inst (get_or tasks i 0) v
        under_floor None floor under v i j low is_i is_j t s = absurd (false≢true (sym (floor v low i is_i) ∙ t))
        under_floor (Some x) floor under v i j low is_i is_j t s =
            let less = below x under in
            let above = floor.lowest v i low is_i t in
            let inside = band.within j is_j s in
            omega (arith, ints, less, above, inside.1)

    pub floor_takes : (o : Option ℤ) → IsFloorOf inst cranes tasks w o → IsBelow o
        → IsFloor inst cranes tasks (w + 1) b.low
    floor_takes o floor under = record {
      crane = w;
      before = omega arith;
      one = band.low;
      lowest = λ v i low is_i t. elim (cases_lt v w) [
        | inl l ↦ over o floor under v i l is_i t
        | inr l ↦
            let e : v ≡ w = omega arith in
            subst (λ (v : ℕ). b.low ≤ℤ place inst (get_or tasks i 0) v) (sym e)
            (band.within i is_i (ap (may inst cranes (get_or tasks i 0)) (sym e) ∙ t)).0
      ];
    }
      where
        over : (o : Option ℤ) → IsFloorOf inst cranes tasks w o → IsBelow o → (v i : ℕ) → v < w → i < length tasks
            → may inst cranes (get_or tasks i 0) v ≡ true → b.low ≤ℤ place inst (get_or tasks i 0) v
        over None floor under v i low is_i t = absurd (false≢true (sym (floor v low i is_i) ∙ t))
        over (Some x) floor under v i low is_i t =
            let less = below x under in
            let above = floor.lowest v i low is_i t in
            let inside = (band.within band.high.index band.high.before band.high.may).0 in
            omega (arith, ints, less, above, inside, band.high.place)

    -- one that lies as high as the floor
    pub not_stacked : (o : Option ℤ) (n : ℕ) → w < n → IsFloorOf inst cranes tasks w o
        → option_map_or (λ x. int_le x b.high) o false ≡ true → ¬ AreStacked inst cranes tasks n
    not_stacked None n low floor high all = false≢true high
    not_stacked (Some x) n low floor high all =
        let one = floor.one in
        let less =
        all floor.crane w one.index band.high.index floor.before low one.before band.high.before one.may band.high.may in
        let reached : x ≤ℤ b.high = record { le = true_T high } in
        omega (arith, ints, less, reached, one.place, band.high.place)

-- ---- stretches among which tasks may lie

module _ (inst : InstanceView) (cranes : List (Option ℕ)) where
  lower_below : 1 ≤ inst.gap → (j v w : ℕ) → v < w → place inst j w <ℤ place inst j v
  lower_below gap j v w low =
      let more : 1 ≤ inst.gap * (w - v) = omega (arith, mul-le 1 1 inst.gap (w - v) gap (omega arith)) in
      omega (arith, ints, more, mul-sub inst.gap w v)

  -- the first crane from above whose place isn't below
  pub nearest_hit : 1 ≤ inst.gap → (low : ℤ) (j c : ℕ) (x : ℤ) → c < length inst.cranes → AreBelow inst cranes j (c + 1) low
      → may inst cranes j c ≡ true → x ≡ place inst j c → low ≤ℤ x → IsPlace x → IsNearest inst cranes low j x
  nearest_hit gap low j c x few under t at above near = record {
    lies = record {
      crane = c;
      before = few;
      may = t;
      from = omega (arith, ints, at, above);
      to = omega (arith, ints, at);
    };
    least = λ other l.
        let from = l.from in
        let to = l.to in
        elim (cases_lt c l.crane) [
          | inl higher ↦
              let less = under l.crane (omega arith) l.before l.may in
              absurd (omega (arith, ints, less, from))
          | inr not_higher ↦ elim (cases_lt l.crane c) [
            | inl lower ↦ let more = lower_below gap j l.crane c lower in omega (arith, ints, at, more, to)
            | inr not_lower ↦
                let e : l.crane ≡ c = omega arith in
                let same = ap (place inst j) e in
                omega (arith, ints, at, same, to)
          ]
        ];
    near = near;
  }

  -- a crane that may not do it, or has it below
  pub next_below : (low : ℤ) (j n c m : ℕ) → n ≡ c + 1 → m ≡ c → AreBelow inst cranes j n low
      → (may inst cranes j c ≡ true → place inst j c <ℤ low) → AreBelow inst cranes j m low
  next_below low j n c m e is under here v low_v few t = elim (cases_lt c v) [
    | inl higher ↦ under v (omega (arith, e, higher)) few t
    | inr not_higher ↦
        let same : v ≡ c = omega (arith, is, low_v, not_higher) in
        subst (λ (u : ℕ). place inst j u <ℤ low) (sym same) (here (sym (ap (may inst cranes j) same) ∙ t))
  ]

  wider : (low high more : ℤ) (j : ℕ) → high ≤ℤ more → Lies inst cranes low high j → Lies inst cranes low more j
  wider low high more j up l =
      let to = l.to in
      record { crane = l.crane; before = l.before; may = l.may; from = l.from; to = omega (arith, ints, up, to) }

  module _ (tasks : List ℕ) where
    pub reach_more : (n : ℕ) (low high x : ℤ) → IsReach inst cranes tasks n low high
        → IsNearest inst cranes low (get_or tasks n 0) x
        → IsReach inst cranes tasks (n + 1) low (int_max high x)
    reach_more n low high x before one = record {
      lie = before_more (λ i. Lies inst cranes low (int_max high x) (get_or tasks i 0)) n
          (λ i h. wider low high (int_max high x) (get_or tasks i 0) (omega (arith, ints, clamps)) (before.lie i h))
          (wider low x (int_max high x) (get_or tasks n 0) (omega (arith, ints, clamps)) one.lies);
      least = λ other h lie.
          let first = before.least other h (λ i low. lie i (omega arith)) in
          let second = one.least other (lie n (omega arith)) in
          omega (arith, ints, clamps, first, second);
      above = let up = before.above in omega (arith, ints, clamps, up);
      near =
          let one_near = one.near in
          let two_near = before.near in
          (omega (arith, ints, clamps, one_near.0, two_near.0), omega (arith, ints, clamps, one_near.1, two_near.1));
    }

    -- ---- what is found

    abbrev From : Option ℕ → Option ℕ → Type 0
    From before after = MatchOption after (Unit {0}) (λ n. (before ≡ Some n) ⊎ IsStretch inst cranes tasks n)

    pub found_through : (a b c : Option ℕ) → IsFinding inst cranes tasks a b → IsFinding inst cranes tasks b c
        → IsFinding inst cranes tasks a c
    found_through a b c one two = record { kept = λ n h. two.kept n (one.kept n h); from = from a b c one.from two.from }
      where
        from : (a b c : Option ℕ) → From a b → From b c → From a c
        from a b None one two = tt
        from a b (Some n) one (inr s) = inr s
        from a b (Some n) one (inl e) = subst (From a) e one

    -- the lesser of what was before and the bays of a stretch
    abbrev pub lesser : Option ℕ → ℕ → ℕ
    lesser o n = option_map_or (λ m. min m n) o n

    pub found_closer : (o : Option ℕ) (low high : ℤ) → IsReach inst cranes tasks (length tasks) low high → IsPlace low
        → IsFinding inst cranes tasks o (Some (lesser o (bays_up low high)))
    found_closer o low high r near = lessened o (bays_up low high) (record {
      low = low;
      high = high;
      lie = r.lie;
      is = refl;
      near = (near, r.near);
    })
      where
        lessened : (o : Option ℕ) (n : ℕ) → IsStretch inst cranes tasks n → IsFinding inst cranes tasks o (Some (lesser o n))
        lessened None n s = record { kept = λ k h. absurd h; from = inr s }
        lessened (Some m) n s = record {
          kept = λ k h. omega arith;
          from = elim (cases_lt m n) [
            | inl l ↦ let e : m ≡ min m n = omega arith in inl (ap Some e)
            | inr l ↦ let e : n ≡ min m n = omega arith in inr (subst (IsStretch inst cranes tasks) e s)
          ];
        }

    pub found_later : (a b : Option ℕ) (low : ℤ) → IsFinding inst cranes tasks a b → IsFoundFrom inst cranes tasks a low
        → IsFoundFrom inst cranes tasks b low
    found_later a b low f found high up lie = f.kept (bays_up low high) (found high up lie)

-- ---- the same as the code comes to it, where a signed number is read back

test_moved : (o : Option ℤ) (y z : ℤ) (b : Bool) → option_map_or (λ x. int_le x y) o false ≡ b → y ≡ z
    → option_map_or (λ x. int_le x z) o false ≡ b
test_moved o y z b h e = sym (ap (λ y. option_map_or (λ x. int_le x y) o false) e) ∙ h

-- a stand of the bands: the floor so far, and that those so far are stacked
module _ (inst : InstanceView) (cranes : List (Option ℕ)) (tasks : List ℕ) (w : ℕ) (o : Option ℤ)
    (below : IsFloorOf inst cranes tasks w o) (so_far : AreStacked inst cranes tasks w) where
  pub record AreStackedTo (r : Option ℤ) : Type 0 where
    pub floor : IsFloorOf inst cranes tasks (w + 1) r
    pub stacked : AreStacked inst cranes tasks (w + 1)

  pub stand_skips : (r : Option ℤ) → r ≡ o → HasNone inst cranes tasks w (length tasks) → AreStackedTo r
  stand_skips r e none = subst AreStackedTo (sym e) (record {
    floor = floor_skips inst cranes tasks w o below none;
    stacked = stacked_skips inst cranes tasks w so_far none;
  })

  pub stand_takes : (b : Band) → IsBand inst cranes tasks w (length tasks) b → (r : Option ℤ) (y z : ℤ) → r ≡ Some z
      → option_map_or (λ x. int_le x y) o false ≡ false → y ≡ b.high → z ≡ b.low → AreStackedTo r
  stand_takes b band r y z e under high low =
      let fails = test_moved o y b.high false under high in
      subst AreStackedTo (sym (e ∙ ap Some low)) (record {
        floor = floor_takes inst cranes tasks w b band o below fails;
        stacked = stacked_takes inst cranes tasks w b band o so_far below fails;
      })

  pub not_stacked_at : (b : Band) → IsBand inst cranes tasks w (length tasks) b → (n : ℕ) → w < n → (y : ℤ)
      → option_map_or (λ x. int_le x y) o false ≡ true → y ≡ b.high → ¬ AreStacked inst cranes tasks n
  not_stacked_at b band n low y over high =
      not_stacked inst cranes tasks w b band o n low below (test_moved o y b.high true over high)

-- a task whose nearest place is no nearer than what was found
pub found_far : (inst : InstanceView) (cranes : List (Option ℕ)) (tasks : List ℕ) (i : ℕ) (low x y z : ℤ) (o : Option ℕ)
    → i < length tasks → IsNearest inst cranes y (get_or tasks i 0) x → y ≡ low → (n : ℕ) → n ≡ bays_up y z → z ≡ x
    → option_map_or (λ m. nat_le m n) o false ≡ true → IsFoundFrom inst cranes tasks o low
found_far inst cranes tasks i low x y z o inside one is n e same over high up lie =
    let there = subst (λ (y : ℤ). IsNearest inst cranes y (get_or tasks i 0) x) is one in
    let least = there.least high (lie i inside) in
    let most : n ≤ bays_up low high = omega (arith, bays, e, is, same, least) in
    by o over most
  where
    by : (o : Option ℕ) → option_map_or (λ m. nat_le m n) o false ≡ true → n ≤ bays_up low high → IsFound o (bays_up low high)
    by None over most = absurd (false≢true over)
    by (Some m) over most = omega (arith, leb-true m n over, most)

-- on stacked cranes the tasks of all cranes above lie below a place
pub below_place : (inst : InstanceView) (cranes : List (Option ℕ)) (tasks : List ℕ)
    → AreStacked inst cranes tasks (length inst.cranes) → (k w : ℕ) (y : ℤ) → k < length tasks
    → may inst cranes (get_or tasks k 0) w ≡ true → y ≡ place inst (get_or tasks k 0) w
    → (i : ℕ) → i < length tasks → AreBelow inst cranes (get_or tasks i 0) (w + 1) y
below_place inst cranes tasks stacked k w y inside t at i low v over few s =
    let less = stacked w v k i (omega arith) few inside low t s in
    omega (arith, ints, less, at)

pub reach_at : (inst : InstanceView) (cranes : List (Option ℕ)) (tasks : List ℕ) (n : ℕ) (low high x y z : ℤ)
    → IsReach inst cranes tasks n low high → IsNearest inst cranes y (get_or tasks n 0) x → y ≡ low
    → z ≡ int_max high x → IsReach inst cranes tasks (n + 1) low z
reach_at inst cranes tasks n low high x y z before one is e =
    subst (IsReach inst cranes tasks (n + 1) low) (sym e)
    (reach_more inst cranes tasks n low high x before
    (subst (λ (y : ℤ). IsNearest inst cranes y (get_or tasks n 0) x) is one))

pub band_step : (inst : InstanceView) (cranes : List (Option ℕ)) (tasks : List ℕ) (v n : ℕ) (o : Option Band) (x : ℤ)
    → IsBandOf inst cranes tasks v n o → may inst cranes (get_or tasks n 0) v ≡ true → x ≡ place inst (get_or tasks n 0) v
    → IsPlace x → (r : Band) (y : ℤ) → r ≡ widened o y → y ≡ x → IsBand inst cranes tasks v (n + 1) r
band_step inst cranes tasks v n o x before t at near r y e is =
    subst (IsBand inst cranes tasks v (n + 1)) (sym (e ∙ ap (widened o) is)) (band_takes inst cranes tasks v n o x before t (sym at) near)

module _ (inst : InstanceView) (cranes : List (Option ℕ)) (tasks : List ℕ) where
  pub closer_step : (o : Option ℕ) (low high : ℤ) → IsReach inst cranes tasks (length tasks) low high → IsPlace low
      → (r n : ℕ) (z : ℤ) → r ≡ lesser inst cranes tasks o n → n ≡ bays_up low z → z ≡ high
      → IsFinding inst cranes tasks o (Some r)
  closer_step o low high reach near r n z e is same =
      subst (λ (m : ℕ). IsFinding inst cranes tasks o (Some m)) (sym (e ∙ ap (lesser inst cranes tasks o) (is ∙ ap (bays_up low) same)))
      (found_closer inst cranes tasks o low high reach near)

  -- what is found from each place of task j on the first n cranes
  pub record IsClosest (j n : ℕ) (before o : Option ℕ) : Type 0 where
    pub finding : IsFinding inst cranes tasks before o
    pub found : (v : ℕ) → v < n → may inst cranes j v ≡ true → IsFoundFrom inst cranes tasks o (place inst j v)

  pub closest_takes : (j n : ℕ) (before o r : Option ℕ) (y : ℤ) → IsFinding inst cranes tasks before o
      → ((v : ℕ) → v < n → may inst cranes j v ≡ true → IsFoundFrom inst cranes tasks o (place inst j v))
      → IsFinding inst cranes tasks o r → IsFoundFrom inst cranes tasks r y → y ≡ place inst j n
      → IsClosest j (n + 1) before r
  closest_takes j n before o r y finding found more here at = record {
    finding = found_through inst cranes tasks before o r finding more;
    found = before_more (λ v. may inst cranes j v ≡ true → IsFoundFrom inst cranes tasks r (place inst j v)) n
        (λ v low t. found_later inst cranes tasks o r (place inst j v) more (found v low t))
        (λ _. subst (IsFoundFrom inst cranes tasks r) at here);
  }

  pub closest_skips : (j n : ℕ) (before o : Option ℕ) → IsFinding inst cranes tasks before o
      → ((v : ℕ) → v < n → may inst cranes j v ≡ true → IsFoundFrom inst cranes tasks o (place inst j v))
      → may inst cranes j n ≡ false → IsClosest j (n + 1) before o
  closest_skips j n before o finding found fails = record {
    finding = finding;
    found = before_more (λ v. may inst cranes j v ≡ true → IsFoundFrom inst cranes tasks o (place inst j v)) n found
        (λ t. absurd (false≢true (sym fails ∙ t)));
  }

  pub span_step : (n k : ℕ) (o r : Option ℕ)
      → ((i v : ℕ) → i < n → v < k → may inst cranes (get_or tasks i 0) v ≡ true
      → IsFoundFrom inst cranes tasks o (place inst (get_or tasks i 0) v))
      → IsFinding inst cranes tasks o r
      → ((v : ℕ) → v < k → may inst cranes (get_or tasks n 0) v ≡ true
      → IsFoundFrom inst cranes tasks r (place inst (get_or tasks n 0) v))
      → (i v : ℕ) → i < n + 1 → v < k → may inst cranes (get_or tasks i 0) v ≡ true
      → IsFoundFrom inst cranes tasks r (place inst (get_or tasks i 0) v)
  span_step n k o r found more here i v low low_v t =
      before_more (λ i. may inst cranes (get_or tasks i 0) v ≡ true → IsFoundFrom inst cranes tasks r (place inst (get_or tasks i 0) v)) n
      (λ i low t. found_later inst cranes tasks o r (place inst (get_or tasks i 0) v) more (found i v low low_v t))
      (λ t. here v low_v t) i low t

pub below_at : (inst : InstanceView) (cranes : List (Option ℕ)) (j m n : ℕ) (low y : ℤ) → AreBelow inst cranes j n low → m ≡ n
    → y ≡ low → AreBelow inst cranes j m y
below_at inst cranes j m n low y h e is =
    subst (λ (m : ℕ). AreBelow inst cranes j m y) (sym e) (subst (λ (y : ℤ). AreBelow inst cranes j n y) (sym is) h)

pub nearest_at : (inst : InstanceView) (cranes : List (Option ℕ)) (low y : ℤ) (j : ℕ) (x z : ℤ) → IsNearest inst cranes y j x
    → y ≡ low → z ≡ x → IsNearest inst cranes low j z
nearest_at inst cranes low y j x z h is same =
    subst (IsNearest inst cranes low j) (sym same) (subst (λ (y : ℤ). IsNearest inst cranes y j x) is h)
