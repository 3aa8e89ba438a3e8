-- The limits of two cranes leave room for both.
use Rattle.std.proofs.Common.{◌≡◌, ◌≢◌, ℕ, zero, suc, ◌+◌, ◌-◌, ◌*◌, ◌/◌, ◌<◌, ◌≤◌, ◌⊎◌, ℤ, pos, ◌+ℤ◌, ◌≤ℤ◌, inl, inr, List, length, false, IfSome, IsSome, Option, None, Some, refl, sym, ap, subst, ◌∙◌, arith}
use Rattle.std.specs.Int.{div_ceil}
use Rattle.std.specs.Prelude.{IsSomeAnd}
use Rattle.std.proofs.lemmas.Bool.{cases_eq, cases_lt, cond-false, cond-true, lt-ltb, ne_eqb}
use Rattle.std.proofs.lemmas.Grind.{div_ceil_times}
use Rattle.std.proofs.Math.Nat.{mul-le-mul_left}
use Rattle.qc_dispatch.specs.declared.stage.Stage.{Stage}
use Rattle.qc_dispatch.specs.declared.stage.Stage.TheVariants.{Waiting, Running, Ended}
use Rattle.qc_dispatch.specs.Course.{Course, end_in, is_waiting, stage_of, start_at, start_in}
use Rattle.qc_dispatch.specs.Order.{AreTied, Leads, free_of, gap}
use Rattle.qc_dispatch.specs.Promises.{Keeps}
use Rattle.qc_dispatch.specs.Worked.{begun_at}
use Rattle.qc_dispatch.proofs.OrderLemmas.{one_leads}
use Rattle.qc_model.specs.declared.schedule.Slot.{Slot}
use Rattle.qc_model.specs.Bays.{bays_between, bays_up}
use Rattle.qc_model.specs.Instance.{InstanceView, HasValidCranes, Valid, bay_of, crane, ticks_of}
use Rattle.qc_model.specs.Nodes.{berth_wait, free}
use Rattle.qc_model.specs.Rules.{Feasible, crane_of, slot_distance}
use Rattle.qc_model.specs.Ticks.{arrival, berth_clear, berth_distance, distance, travel_between}
use Rattle.qc_model.proofs.Bays.{bays}
use Rattle.qc_model.proofs.Extremes.{le_greatest}
use Rattle.qc_model.proofs.GoesLemmas.{distance_swapped}
use Rattle.qc_model.proofs.LimitsOf.{travel_of}
use Rattle.qc_rest.specs.declared.stand.Stand.{Stand}
use Rattle.qc_rest.specs.GoneOn.{AreGoneOn, end_with}
use Rattle.qc_rest.specs.Places.{IsNextOf, Outlook, far_of, off_of}
use Rattle.qc_rest.specs.Progress.{AreOver, HasBegun, IsLeft}
use Rattle.qc_rest.specs.Stands.{IsLastOf, IsStand, stand_of}
use Rattle.qc_rest.proofs.BegunLemmas.{clear, early, freed}
use Rattle.qc_rest.proofs.StandLemmas.{distance_at, gap_of_one, gap_of_two}

-- ---- ticks and bays

fits_parts : (t n a b q r : ℕ) → a < t * q + t → b ≤ r * t → t * n ≤ a + b → n ≤ q + r
fits_parts t n a b q r low up fits = elim (cases_lt (q + r) n) [
  | inr done ↦ done
  | inl fewer ↦
      let whole : q + r + 1 ≤ n = omega (arith, fewer) in
      let more : t * (q + r + 1) ≤ t * n = mul-le-mul_left t whole in
      absurd (omega (arith, more, up, low, fits))
]

floor_low : (t a : ℕ) → 0 < t → a < t * (a / t) + t
floor_low t a some = omega arith

-- so many bays are gone in these ticks, those gone rounded down and those to go rounded up
pub floor_ceil : (t n a b : ℕ) → 0 < t → t * n ≤ a + b → n ≤ a / t + div_ceil b t
floor_ceil t n a b some fits = fits_parts t n a b (a / t) (div_ceil b t) (floor_low t a some) (div_ceil_times b t some).0 fits

floor_fits : (t n a : ℕ) → 0 < t → t * n ≤ a → n ≤ a / t
floor_fits t n a some fits =
    omega (arith, fits_parts t n a 0 (a / t) 0 (floor_low t a some) (omega arith) (omega (arith, fits)))

ceil_fits : (t n b : ℕ) → 0 < t → t * n ≤ b → n ≤ div_ceil b t
ceil_fits t n b some fits =
    omega (arith, fits_parts t n 0 b 0 (div_ceil b t) (omega (arith, some)) (div_ceil_times b t some).0 (omega (arith, fits)))

-- how many bays crane v at X is above where it clears crane w at Y
abbrev pub rise : InstanceView → ℕ → ℤ → ℕ → ℤ → ℕ
rise inst v x w y = bays_up y (x +ℤ pos (inst.gap * (w - v)))

rise_apart : (inst : InstanceView) (v : ℕ) (x : ℤ) (w : ℕ) (y : ℤ) → v < w → inst.travel * rise inst v x w y ≡ distance inst v x w y
rise_apart inst v x w y order = rw (lt-ltb v w order) refl

no_gap : (g v w : ℕ) → v ≡ w → g * (w - v) ≡ 0
no_gap g v w same =
    let e : w - v ≡ 0 = omega arith in
    ap (λ (n : ℕ). g * n) e ∙ omega arith

rise_same : (inst : InstanceView) (v : ℕ) (x : ℤ) (w : ℕ) (y : ℤ) → v ≡ w → rise inst v x w y ≡ bays_up y x
rise_same inst v x w y same =
    ap (λ (g : ℕ). bays_up y (x +ℤ pos g)) (no_gap inst.gap v w same) ∙ omega (arith, bays)

rise_one : (inst : InstanceView) (v : ℕ) (x : ℤ) (w : ℕ) (y : ℤ) → v ≡ w → inst.travel * rise inst v x w y ≤ travel_between inst x y
rise_one inst v x w y same =
    let e = rise_same inst v x w y same in
    let part : bays_up y x ≤ bays_between x y = omega arith in
    let whole : rise inst v x w y ≤ bays_between x y = omega (arith, e, part) in
    mul-le-mul_left inst.travel whole

rise_back : (inst : InstanceView) (v : ℕ) (x : ℤ) (w : ℕ) (y : ℤ) → v ≡ w → inst.travel * rise inst v x w y ≤ travel_between inst y x
rise_back inst v x w y same =
    let e = rise_same inst v x w y same in
    let part : bays_up y x ≤ bays_between y x = omega arith in
    let whole : rise inst v x w y ≤ bays_between y x = omega (arith, e, part) in
    mul-le-mul_left inst.travel whole

-- ---- the berths of cranes

one_gap_more : (g n : ℕ) (x y z : ℤ) → (x +ℤ pos (g * n)) ≤ℤ y → (y +ℤ pos g) ≤ℤ z → (x +ℤ pos (g * suc n)) ≤ℤ z
one_gap_more g n x y z one next = omega (arith, bays)

berths_apart : (inst : InstanceView) → HasValidCranes inst → (v n : ℕ) → v + n < length inst.cranes
    → ((crane inst v).bay +ℤ pos (inst.gap * n)) ≤ℤ (crane inst (v + n)).bay
berths_apart inst cranes v zero high =
    let e : v ≡ v + 0 = omega arith in
    subst (λ (u : ℕ). ((crane inst v).bay +ℤ pos (inst.gap * 0)) ≤ℤ (crane inst u).bay) e (omega (arith, bays))
berths_apart inst cranes v (suc n) high =
    let before = berths_apart inst cranes v n (omega arith) in
    let step = cranes.order (v + n) (omega arith) in
    let e : v + n + 1 ≡ v + suc n = omega arith in
    subst (λ (u : ℕ). ((crane inst v).bay +ℤ pos (inst.gap * suc n)) ≤ℤ (crane inst u).bay) e
    (one_gap_more inst.gap n (crane inst v).bay (crane inst (v + n)).bay (crane inst (v + n + 1)).bay before step)

-- ---- free

free_arrival : (inst : InstanceView) (plan : List Slot) (j v : ℕ) (s : ℕ) → free_of inst plan j ≤ s → crane_of plan j ≡ v
    → arrival inst v (bay_of inst j) ≤ s
free_arrival inst plan j v s is_free by = subst (λ (k : ℕ). arrival inst k (bay_of inst j) ≤ s) by (omega (arith, is_free))

pub free_clear : (inst : InstanceView) (j k v s : ℕ) → free inst j k ≤ s → v < length inst.cranes
    → 0 < berth_distance inst v k (bay_of inst j) → berth_clear inst v k (bay_of inst j) ≤ s
free_clear inst j k v s is_free high away =
    let waits = le_greatest (berth_wait inst j k) v 0 (length inst.cranes) (omega arith) (omega (arith, high)) in
    let far = ne_eqb (berth_distance inst v k (bay_of inst j)) 0 (λ e. absurd (omega (arith, e, away))) in
    let is = cond-false _ 0 (berth_clear inst v k (bay_of inst j)) far in
    omega (arith, is_free, waits, is)

free_berth : (inst : InstanceView) (plan : List Slot) (j v : ℕ) (s : ℕ) → free_of inst plan j ≤ s → v < length inst.cranes
    → 0 < berth_distance inst v (crane_of plan j) (bay_of inst j) → berth_clear inst v (crane_of plan j) (bay_of inst j) ≤ s
free_berth inst plan j v s is_free high away = free_clear inst j (crane_of plan j) v s is_free high away

-- ---- options

no_end : (s : Stage) (o : Option ℕ) (ticks : ℕ) → s ≡ Waiting → IsSome o → IfSome o (λ start. IsSomeAnd (end_in s) (λ end. end + ticks ≤ start)) → ⊥
no_end Waiting None ticks waits some over = absurd (cc some)
no_end Waiting (Some start) ticks waits some over = over
no_end (Running t) o ticks waits some over = cc waits
no_end (Ended t u) o ticks waits some over = cc waits

begun_not_waiting : (s : Stage) → IsSome (start_in s) → is_waiting s ≡ false
begun_not_waiting Waiting some = absurd (cc some)
begun_not_waiting (Running start) some = refl
begun_not_waiting (Ended start end) some = refl

module _ (o : Outlook) (valid : Valid o.course.inst) (plan : Feasible o.course.inst o.course.plan) (keeps : Keeps o.course)
    (known : AreOver o.course o.over)
    (stand : (k : ℕ) → k < length o.course.inst.cranes → IsStand o.course o.over k (stand_of o.stands k))
    (gone : AreGoneOn o.course o.over o.goes) where
  abbrev c : Course
  c = o.course

  abbrev ends : ℕ → ℕ
  ends = end_with o.course o.over o.goes

  -- a task that is left never leads one that has begun
  pub begun_first : (i j : ℕ) → i < length c.inst.tasks → HasBegun c i → IsLeft c j → AreTied c.inst c.plan i j → i ≢ j → Leads c.inst c.plan i j
  begun_first i j low begun waits tied differ = elim (one_leads c.inst c.plan valid plan i j low waits.task differ tied) [
    | inl leads ↦ leads
    | inr leads ↦ absurd (no_end (stage_of c j) (start_at c i) (gap c.inst c.plan j i) waits.waits begun (keeps.order j i leads))
  ]

  pub goes_after : (i j : ℕ) → IsLeft c j → Leads c.inst c.plan i j → ends i + gap c.inst c.plan i j ≤ o.goes j
  goes_after i j waits leads = ((gone.each_one j waits (o.goes j)).0 (omega arith)).clear i leads

  pub goes_now : (j : ℕ) → IsLeft c j → c.clock ≤ o.goes j
  goes_now j waits = ((gone.each_one j waits (o.goes j)).0 (omega arith)).now

  pub goes_free : (j : ℕ) → IsLeft c j → free_of c.inst c.plan j ≤ o.goes j
  goes_free j waits = ((gone.each_one j waits (o.goes j)).0 (omega arith)).free

  pub end_begun : (i : ℕ) → HasBegun c i → ends i ≡ o.over i
  end_begun i begun = cond-false (is_waiting (stage_of c i)) (o.goes i + ticks_of c.inst i) (o.over i) (begun_not_waiting (stage_of c i) begun)

  pub end_left : (i : ℕ) → IsLeft c i → ends i ≡ o.goes i + ticks_of c.inst i
  end_left i waits = cond-true (is_waiting (stage_of c i)) (o.goes i + ticks_of c.inst i) (o.over i) (ap is_waiting waits.waits)

  not_both : (i j : ℕ) → HasBegun c i → IsLeft c j → i ≢ j
  not_both i j begun waits e =
      let at : IsSome (start_at c j) = subst (λ (k : ℕ). IsSome (start_at c k)) e begun in
      let none : IsSome (start_in Waiting) = subst (λ (s : Stage). IsSome (start_in s)) waits.waits at in
      cc none

  pub after_begun : (i j : ℕ) → i < length c.inst.tasks → HasBegun c i → IsLeft c j → AreTied c.inst c.plan i j
      → o.over i + gap c.inst c.plan i j ≤ o.goes j
  after_begun i j low begun waits tied =
      omega (arith, goes_after i j waits (begun_first i j low begun waits tied (not_both i j begun waits)), end_begun i begun)

  pub after_left : (i j : ℕ) → IsLeft c i → IsLeft c j → i ≢ j → AreTied c.inst c.plan i j
      → (o.goes i + ticks_of c.inst i + gap c.inst c.plan i j ≤ o.goes j) ⊎ (o.goes j + ticks_of c.inst j + gap c.inst c.plan j i ≤ o.goes i)
  after_left i j here there differ tied = elim (one_leads c.inst c.plan valid plan i j here.task there.task differ tied) [
    | inl leads ↦ inl (omega (arith, goes_after i j there leads, end_left i here))
    | inr leads ↦ inr (omega (arith, goes_after j i here leads, end_left j there))
  ]

  -- ---- a stand and a task that is left

  -- the task's own crane comes from where it stands
  pub own_goes : (v j : ℕ) (s : Stand) → IsLeft c j → crane_of c.plan j ≡ v → IsStand c o.over v s
      → s.until + travel_between c.inst s.bay (bay_of c.inst j) ≤ o.goes j
  own_goes v j s waits by (inl idle) =
      let there : s.until + travel_between c.inst s.bay (bay_of c.inst j) ≡ arrival c.inst v (bay_of c.inst j) =
      ap (λ (p : Stand). p.until + travel_between c.inst p.bay (bay_of c.inst j)) idle.1 in
      omega (arith, there, free_arrival c.inst c.plan j v (o.goes j) (goes_free j waits) by)
  own_goes v j s waits by (inr last) =
      let i = last.0 in
      let there : s.until + travel_between c.inst s.bay (bay_of c.inst j) ≡ o.over i + travel_between c.inst (bay_of c.inst i) (bay_of c.inst j) =
      ap (λ (p : Stand). p.until + travel_between c.inst p.bay (bay_of c.inst j)) last.2 in
      let one : crane_of c.plan i ≡ crane_of c.plan j = last.1.by ∙ sym by in
      omega (arith, there, gap_of_one c.inst c.plan i j one, after_begun i j last.1.task last.1.begun waits (inr (inr (inl one))))

  -- another has given way
  pub other_goes : (v j : ℕ) (s : Stand) → IsLeft c j → v < length c.inst.cranes → v ≢ crane_of c.plan j → IsStand c o.over v s
      → 0 < distance c.inst v s.bay (crane_of c.plan j) (bay_of c.inst j)
      → s.until + distance c.inst v s.bay (crane_of c.plan j) (bay_of c.inst j) ≤ o.goes j
  other_goes v j s waits high differ (inl idle) near =
      let bay : distance c.inst v s.bay (crane_of c.plan j) (bay_of c.inst j) ≡ berth_distance c.inst v (crane_of c.plan j) (bay_of c.inst j) =
      ap (λ (p : Stand). distance c.inst v p.bay (crane_of c.plan j) (bay_of c.inst j)) idle.1 in
      let until : s.until ≡ (crane c.inst v).ready = ap (λ (p : Stand). p.until) idle.1 in
      omega (arith, bay, until, free_berth c.inst c.plan j v (o.goes j) (goes_free j waits) high (omega (arith, bay, near)))
  other_goes v j s waits high differ (inr last) near =
      let i = last.0 in
      let w = crane_of c.plan j in
      let bay : distance c.inst v s.bay w (bay_of c.inst j) ≡ slot_distance c.inst c.plan i j =
      ap (λ (p : Stand). distance c.inst v p.bay w (bay_of c.inst j)) last.2
      ∙ distance_at c.inst v w (crane_of c.plan i) w (bay_of c.inst i) (bay_of c.inst j) (sym last.1.by) refl in
      let until : s.until ≡ o.over i = ap (λ (p : Stand). p.until) last.2 in
      let others : crane_of c.plan i ≢ w = λ e. differ (sym last.1.by ∙ e) in
      let away : 0 < slot_distance c.inst c.plan i j = omega (arith, bay, near) in
      omega (
        arith,
        bay,
        until,
        gap_of_two c.inst c.plan i j others,
        after_begun i j last.1.task last.1.begun waits (inr (inr (inr away))),
      )

  some_travel : 0 < c.inst.travel
  some_travel = omega (arith, (travel_of c.inst valid).0)

  abbrev stand_at : ℕ → Stand
  stand_at k = stand_of o.stands k

  module _ (v w : ℕ) (order : v ≤ w) (high : w < length c.inst.cranes) where
    low : v < length c.inst.cranes
    low = omega (arith, order, high)

    -- a lower crane's stand, and a task of the same crane or a higher one
    pub stand_task : (j : ℕ) → IsNextOf o w j
        → rise c.inst v (stand_at v).bay w (bay_of c.inst j) ≤ far_of o v + off_of o j
    stand_task j next =
        let x = (stand_at v).bay in
        let y = bay_of c.inst j in
        let now = goes_now j next.left in
        floor_ceil c.inst.travel (rise c.inst v x w y) (c.clock - (stand_at v).until) (o.goes j - c.clock) some_travel
        (elim (cases_eq v w) [
          | inl same ↦
              omega (arith, now, rise_one c.inst v x w y same, own_goes v j (stand_at v) next.left (next.by ∙ sym same) (stand v low))
          | inr differ ↦
              let less : v < w = omega (arith, order, differ) in
              let need : c.inst.travel * rise c.inst v x w y ≡ distance c.inst v x (crane_of c.plan j) y =
              rise_apart c.inst v x w y less ∙ distance_at c.inst v w v (crane_of c.plan j) x y refl (sym next.by) in
              elim (cases_lt 0 (distance c.inst v x (crane_of c.plan j) y)) [
                | inl near ↦ omega (arith, now, need, other_goes v j (stand_at v) next.left low (λ e. differ (e ∙ next.by)) (stand v low) near)
                | inr none ↦ omega (arith, need, none)
              ]
        ])

    -- a task of a crane, and the stand of the same crane or a higher one
    pub task_stand : (i : ℕ) → IsNextOf o v i
        → rise c.inst v (bay_of c.inst i) w (stand_at w).bay ≤ far_of o w + off_of o i
    task_stand i next =
        let x = bay_of c.inst i in
        let y = (stand_at w).bay in
        let now = goes_now i next.left in
        floor_ceil c.inst.travel (rise c.inst v x w y) (c.clock - (stand_at w).until) (o.goes i - c.clock) some_travel
        (elim (cases_eq v w) [
          | inl same ↦
              omega (arith, now, rise_back c.inst v x w y same, own_goes w i (stand_at w) next.left (next.by ∙ same) (stand w high))
          | inr differ ↦
              let less : v < w = omega (arith, order, differ) in
              let need : c.inst.travel * rise c.inst v x w y ≡ distance c.inst w y (crane_of c.plan i) x =
              rise_apart c.inst v x w y less ∙ distance_swapped c.inst v x w y
              ∙ distance_at c.inst w v w (crane_of c.plan i) y x refl (sym next.by) in
              elim (cases_lt 0 (distance c.inst w y (crane_of c.plan i) x)) [
                | inl near ↦ omega (arith, now, need, other_goes w i (stand_at w) next.left high (λ e. differ (sym (e ∙ next.by))) (stand w high) near)
                | inr none ↦ omega (arith, need, none)
              ]
        ])

    -- two tasks, of one crane or of two
    module _ (i j : ℕ) (one : IsNextOf o v i) (other : IsNextOf o w j) where
      abbrev climb : ℕ
      climb = c.inst.travel * rise c.inst v (bay_of c.inst i) w (bay_of c.inst j)

      abbrev FitsEither : Type 0
      FitsEither = (climb ≤ o.goes i - c.clock) ⊎ (climb ≤ o.goes j - c.clock)

      fits_after : (t u : ℕ) → climb ≤ t → climb ≤ u
          → (o.goes i + ticks_of c.inst i + t ≤ o.goes j) ⊎ (o.goes j + ticks_of c.inst j + u ≤ o.goes i) → FitsEither
      fits_after t u less more (inl ahead) = inr (omega (arith, ahead, less, goes_now i one.left))
      fits_after t u less more (inr ahead) = inl (omega (arith, ahead, more, goes_now j other.left))

      fits_one : v ≡ w → FitsEither
      fits_one same = elim (cases_eq i j) [
        | inl e ↦
            let none : rise c.inst v (bay_of c.inst i) w (bay_of c.inst j) ≡ 0 =
            rise_same c.inst v (bay_of c.inst i) w (bay_of c.inst j) same
            ∙ ap (λ (k : ℕ). bays_up (bay_of c.inst j) (bay_of c.inst k)) e ∙ omega (arith, bays) in
            inl (omega (arith, ap (λ (n : ℕ). c.inst.travel * n) none))
        | inr differ ↦
            let crane : crane_of c.plan i ≡ crane_of c.plan j = one.by ∙ same ∙ sym other.by in
            let there = gap_of_one c.inst c.plan i j crane in
            let back = gap_of_one c.inst c.plan j i (sym crane) in
            fits_after (gap c.inst c.plan i j) (gap c.inst c.plan j i)
            (omega (arith, there, rise_one c.inst v (bay_of c.inst i) w (bay_of c.inst j) same))
            (omega (arith, back, rise_back c.inst v (bay_of c.inst i) w (bay_of c.inst j) same))
            (after_left i j one.left other.left differ (inr (inr (inl crane))))
      ]

      fits_two : v < w → FitsEither
      fits_two less =
          let need : climb ≡ slot_distance c.inst c.plan i j =
          rise_apart c.inst v (bay_of c.inst i) w (bay_of c.inst j) less
          ∙ distance_at c.inst v w (crane_of c.plan i) (crane_of c.plan j) (bay_of c.inst i) (bay_of c.inst j) (sym one.by) (sym other.by) in
          let turned = distance_swapped c.inst (crane_of c.plan i) (bay_of c.inst i) (crane_of c.plan j) (bay_of c.inst j) in
          let cranes : crane_of c.plan i ≢ crane_of c.plan j = λ e. absurd (omega (arith, less, one.by, other.by, e)) in
          elim (cases_lt 0 (slot_distance c.inst c.plan i j)) [
            | inl near ↦
                fits_after (gap c.inst c.plan i j) (gap c.inst c.plan j i)
                (omega (arith, need, gap_of_two c.inst c.plan i j cranes))
                (omega (arith, need, turned, gap_of_two c.inst c.plan j i (λ e. cranes (sym e))))
                (after_left i j one.left other.left (λ e. cranes (ap (crane_of c.plan) e)) (inr (inr (inr near))))
            | inr none ↦ inl (omega (arith, need, none))
          ]

      fits_either : FitsEither
      fits_either = elim (cases_eq v w) [ inl same ↦ fits_one same | inr differ ↦ fits_two (omega (arith, order, differ)) ]

      pub task_task : rise c.inst v (bay_of c.inst i) w (bay_of c.inst j) ≤ off_of o i + off_of o j
      task_task = elim fits_either [
        | inl soon ↦ omega (arith, ceil_fits c.inst.travel (rise c.inst v (bay_of c.inst i) w (bay_of c.inst j)) (o.goes i - c.clock) some_travel soon)
        | inr soon ↦ omega (arith, ceil_fits c.inst.travel (rise c.inst v (bay_of c.inst i) w (bay_of c.inst j)) (o.goes j - c.clock) some_travel soon)
      ]

    -- two stands
    abbrev need : ℤ → ℤ → ℕ
    need x y = c.inst.travel * rise c.inst v x w y

    -- one crane has had the ticks to clear the other by now
    abbrev HasCleared : Stand → Stand → Type 0
    HasCleared s p = (need s.bay p.bay ≤ c.clock - s.until) ⊎ (need s.bay p.bay ≤ c.clock - p.until)

    module _ (less : v < w) where
      two_idle : HasCleared (record { bay = (crane c.inst v).bay; until = (crane c.inst v).ready })
          (record { bay = (crane c.inst w).bay; until = (crane c.inst w).ready })
      two_idle =
          let e : v + (w - v) ≡ w = omega (arith, less) in
          let apart = subst (λ (u : ℕ). ((crane c.inst v).bay +ℤ pos (c.inst.gap * (w - v))) ≤ℤ (crane c.inst u).bay) e
          (berths_apart c.inst valid.cranes v (w - v) (omega (arith, e, high))) in
          let none : rise c.inst v (crane c.inst v).bay w (crane c.inst w).bay ≡ 0 = omega (arith, bays, apart) in
          inl (omega (arith, ap (λ (n : ℕ). c.inst.travel * n) none))

      idle_last : (m : ℕ) → IsLastOf c o.over w m
          → HasCleared (record { bay = (crane c.inst v).bay; until = (crane c.inst v).ready }) (record { bay = bay_of c.inst m; until = o.over m })
      idle_last m last =
          let is : need (crane c.inst v).bay (bay_of c.inst m) ≡ berth_distance c.inst v (crane_of c.plan m) (bay_of c.inst m) =
          rise_apart c.inst v (crane c.inst v).bay w (bay_of c.inst m) less
          ∙ distance_at c.inst v w v (crane_of c.plan m) (crane c.inst v).bay (bay_of c.inst m) refl (sym last.by) in
          let is_free = freed c o.over keeps known m last.begun in
          let soon = early c o.over keeps known m last.begun in
          elim (cases_lt 0 (berth_distance c.inst v (crane_of c.plan m) (bay_of c.inst m))) [
            | inl near ↦ inl (omega (arith, is, soon, free_berth c.inst c.plan m v (begun_at c m) is_free low near))
            | inr none ↦ inl (omega (arith, is, none))
          ]

      last_idle : (i : ℕ) → IsLastOf c o.over v i
          → HasCleared (record { bay = bay_of c.inst i; until = o.over i }) (record { bay = (crane c.inst w).bay; until = (crane c.inst w).ready })
      last_idle i last =
          let is : need (bay_of c.inst i) (crane c.inst w).bay ≡ berth_distance c.inst w (crane_of c.plan i) (bay_of c.inst i) =
          rise_apart c.inst v (bay_of c.inst i) w (crane c.inst w).bay less
          ∙ distance_swapped c.inst v (bay_of c.inst i) w (crane c.inst w).bay
          ∙ distance_at c.inst w v w (crane_of c.plan i) (crane c.inst w).bay (bay_of c.inst i) refl (sym last.by) in
          let is_free = freed c o.over keeps known i last.begun in
          let soon = early c o.over keeps known i last.begun in
          elim (cases_lt 0 (berth_distance c.inst w (crane_of c.plan i) (bay_of c.inst i))) [
            | inl near ↦ inr (omega (arith, is, soon, free_berth c.inst c.plan i w (begun_at c i) is_free high near))
            | inr none ↦ inl (omega (arith, is, none))
          ]

      two_last : (i m : ℕ) → IsLastOf c o.over v i → IsLastOf c o.over w m
          → HasCleared (record { bay = bay_of c.inst i; until = o.over i }) (record { bay = bay_of c.inst m; until = o.over m })
      two_last i m one other =
          let is : need (bay_of c.inst i) (bay_of c.inst m) ≡ slot_distance c.inst c.plan i m =
          rise_apart c.inst v (bay_of c.inst i) w (bay_of c.inst m) less
          ∙ distance_at c.inst v w (crane_of c.plan i) (crane_of c.plan m) (bay_of c.inst i) (bay_of c.inst m) (sym one.by) (sym other.by) in
          let turned = distance_swapped c.inst (crane_of c.plan i) (bay_of c.inst i) (crane_of c.plan m) (bay_of c.inst m) in
          let cranes : crane_of c.plan i ≢ crane_of c.plan m = λ e. absurd (omega (arith, less, one.by, other.by, e)) in
          elim (cases_lt 0 (slot_distance c.inst c.plan i m)) [
            | inr none ↦ inl (omega (arith, is, none))
            | inl near ↦
                elim (clear c o.over keeps known i m one.task other.task (λ e. cranes (ap (crane_of c.plan) e)) (inr (inr (inr near))) one.begun other.begun) [
                  | inl ahead ↦ inl (omega (arith, is, ahead, gap_of_two c.inst c.plan i m cranes, early c o.over keeps known m other.begun))
                  | inr ahead ↦ inr (omega (arith, is, ahead, turned, gap_of_two c.inst c.plan m i (λ e. cranes (sym e)), early c o.over keeps known i one.begun))
                ]
          ]

      cleared : (s p : Stand) → IsStand c o.over v s → IsStand c o.over w p → HasCleared s p
      cleared s p (inl one) (inl other) =
          subst (λ (x : Stand). HasCleared x p) (sym one.1) (subst (λ (y : Stand). HasCleared (record { bay = (crane c.inst v).bay; until = (crane c.inst v).ready }) y) (sym other.1) two_idle)
      cleared s p (inl one) (inr other) =
          subst (λ (x : Stand). HasCleared x p) (sym one.1) (subst (λ (y : Stand). HasCleared (record { bay = (crane c.inst v).bay; until = (crane c.inst v).ready }) y) (sym other.2) (idle_last other.0 other.1))
      cleared s p (inr one) (inl other) =
          subst (λ (x : Stand). HasCleared x p) (sym one.2) (subst (λ (y : Stand). HasCleared (record { bay = bay_of c.inst one.0; until = o.over one.0 }) y) (sym other.1) (last_idle one.0 one.1))
      cleared s p (inr one) (inr other) =
          subst (λ (x : Stand). HasCleared x p) (sym one.2) (subst (λ (y : Stand). HasCleared (record { bay = bay_of c.inst one.0; until = o.over one.0 }) y) (sym other.2) (two_last one.0 other.0 one.1 other.1))

    pub stand_stand : rise c.inst v (stand_at v).bay w (stand_at w).bay ≤ far_of o v + far_of o w
    stand_stand =
        let x = (stand_at v).bay in
        let y = (stand_at w).bay in
        elim (cases_eq v w) [
          | inl same ↦
              let none : rise c.inst v x w y ≡ 0 =
              rise_same c.inst v x w y same ∙ ap (λ (k : ℕ). bays_up y (stand_at k).bay) same ∙ omega (arith, bays) in
              omega (arith, none)
          | inr differ ↦ elim (cleared (omega (arith, order, differ)) (stand_at v) (stand_at w) (stand v low) (stand w high)) [
            | inl soon ↦ omega (arith, floor_fits c.inst.travel (rise c.inst v x w y) (c.clock - (stand_at v).until) some_travel soon)
            | inr soon ↦ omega (arith, floor_fits c.inst.travel (rise c.inst v x w y) (c.clock - (stand_at w).until) some_travel soon)
          ]
        ]
