-- The work that is left at each bay as tasks get and lose their cranes, and that what code tries is what is to be tried.
use Rattle.std.proofs.Common.{[], ◌≡◌, ◌≢◌, ℕ, zero, suc, ◌+◌, ◌-◌, ◌*◌, ◌<◌, ◌≤◌, inl, inr, Bool, true, false, ◌&&◌, eqb, leb, nat_lt, cond, List, ◌∷◌, length, get_or, set, map, replicate, filter, is_none, Option, None, Some, ℤ, pos, negsuc, ◌≤ℤ◌, of_z, to_z, w32, take, refl, ap, sym, subst, ◌∙◌, arith, sum_by}
use Rattle.std.proofs.Math.Nat.{mul-zero}
use Rattle.std.proofs.Math.Path.{fun_ext}
use Rattle.std.proofs.Math.IntN.{nat_abs}
use Rattle.std.proofs.lemmas.Int.{ints}
use Rattle.std.proofs.lemmas.Bool.{cases_eq, cases_lt, eq-eqb, ne_eqb, le-leb, le-ltb, lt-leb, lt-ltb}
use Rattle.std.proofs.lemmas.Grind.{get_or-set_at}
use Rattle.std.proofs.lemmas.List.{get_or-set_other, get_or-set_same, length-replicate, length-set}
use Rattle.std.proofs.lemmas.List.FromFn.{fill_by_all, get_or-map-range_with_len, length-map-range_with_len}
use Rattle.std.proofs.lemmas.List.Sums.{sum_by-cons}
use Rattle.std.specs.List.{range_with_len}
use Rattle.qc_close.specs.Model.{Frame, MOST_TASKS, MOST_WORK, Task, crane_in, no_cranes, at_least_zero, Try, grain, is_short, last_before, left_at, left_bays, try_with, work_at, InstanceView, Valid, bay_of, task, ticks_of, crane_numbers, task_numbers, ticks_over}
use Rattle.qc_model.proofs.Bays.{bays}
use Rattle.qc_model.proofs.LimitsOf.{limits_of}
use Rattle.qc_model.proofs.OnRail.{ticks_bounded}
use Rattle.qc_close.specs.Counts.{bays_of, try_by}
use Rattle.qc_close.specs.Lasts.{IsLast}
use Rattle.qc_close.specs.Lefts.{IsLeft}
use Rattle.qc_close.proofs.CountLemmas.{sum_filter}
use Rattle.qc_close.proofs.Members.{Among, filter_among, range_among}

-- ---- sums in which one term changes

sum_same : (f g : ℕ → ℕ) (a n : ℕ) → ((i : ℕ) → a ≤ i → f i ≡ g i) → sum_by f (range_with_len a n) ≡ sum_by g (range_with_len a n)
sum_same f g a zero same = refl
sum_same f g a (suc n) same =
    omega (
      arith,
      sum_same f g (a + 1) n (λ i low. same i (omega arith)),
      same a (omega arith),
      sum_by-cons f a (range_with_len (a + 1) n),
      sum_by-cons g a (range_with_len (a + 1) n),
    )

pub sum_changed : (f g : ℕ → ℕ) (d j a n : ℕ) → a ≤ j → j < a + n → f j ≡ g j + d → ((i : ℕ) → i ≢ j → f i ≡ g i)
    → sum_by f (range_with_len a n) ≡ sum_by g (range_with_len a n) + d
sum_changed f g d j a zero low high here other = absurd (omega arith)
sum_changed f g d j a (suc n) low high here other = elim (cases_lt a j) [
  | inl less ↦
      omega (
        arith,
        sum_changed f g d j (a + 1) n (omega arith) (omega arith) here other,
        other a (λ e. absurd (omega arith)),
        sum_by-cons f a (range_with_len (a + 1) n),
        sum_by-cons g a (range_with_len (a + 1) n),
      )
  | inr more ↦
      let e : j ≡ a = omega arith in
      omega (
        arith,
        sum_same f g (a + 1) n (λ i above. other i (λ s. absurd (omega arith))),
        ap f e,
        ap g e,
        here,
        sum_by-cons f a (range_with_len (a + 1) n),
        sum_by-cons g a (range_with_len (a + 1) n),
      )
]

pub sum_few : (f : ℕ → ℕ) (b a n : ℕ) → ((i : ℕ) → i < a + n → f i ≤ b) → sum_by f (range_with_len a n) ≤ n * b
sum_few f b a zero le = omega arith
sum_few f b a (suc n) le =
    omega (
      arith,
      sum_few f b (a + 1) n (λ i low. le i (omega arith)),
      le a (omega arith),
      sum_by-cons f a (range_with_len (a + 1) n),
    )

module _ (inst : InstanceView) where
  abbrev pub at : ℕ → ℕ
  at j = at_least_zero (bay_of inst j)

  -- a task's ticks, where it is left at bay x
  abbrev pub term : List (Option ℕ) → ℕ → ℕ → ℕ
  term cranes x j = cond (is_none (crane_in cranes j) && eqb (at j) x) (ticks_of inst j) 0

  pub work_is : (cranes : List (Option ℕ)) (x : ℕ) → work_at inst cranes x ≡ sum_by (term cranes x) (task_numbers inst)
  work_is cranes x = sum_filter (ticks_of inst) (λ j. is_none (crane_in cranes j) && eqb (at j) x) (task_numbers inst)

  module _ (a b : List (Option ℕ)) (j : ℕ) (low : j < length inst.tasks) (none : is_none (crane_in a j) ≡ true)
      (some : is_none (crane_in b j) ≡ false) (other : (i : ℕ) → i ≢ j → crane_in a i ≡ crane_in b i) (x : ℕ) where
    work_changed : work_at inst a x ≡ work_at inst b x + cond (eqb (at j) x) (ticks_of inst j) 0
    work_changed =
        let here_a : term a x j ≡ cond (eqb (at j) x) (ticks_of inst j) 0 = ap (λ c. cond (c && eqb (at j) x) (ticks_of inst j) 0) none in
        let here_b : term b x j ≡ 0 = ap (λ c. cond (c && eqb (at j) x) (ticks_of inst j) 0) some in
        omega (
          arith,
          work_is a x,
          work_is b x,
          sum_changed (term a x) (term b x) (cond (eqb (at j) x) (ticks_of inst j) 0) j 0 (length inst.tasks) (omega arith)
              (omega arith) (omega (arith, here_a, here_b))
              (λ i differ. ap (λ o. cond (is_none o && eqb (at i) x) (ticks_of inst i) 0) (other i differ)),
        )

  pub cranes_there : (cranes : List (Option ℕ)) (j : ℕ) (o : Option ℕ) → j < length cranes → crane_in (set cranes j o) j ≡ o
  cranes_there cranes j o low = get_or-set_same cranes j o None low

  pub cranes_else : (cranes : List (Option ℕ)) (j : ℕ) (o : Option ℕ) (i : ℕ) → i ≢ j → crane_in (set cranes j o) i ≡ crane_in cranes i
  cranes_else cranes j o i differ = get_or-set_other cranes j i o None differ

  module _ (cranes : List (Option ℕ)) (left : List ℕ) (is : IsLeft inst cranes left) (j : ℕ) (low : j < length inst.tasks)
      (many : length cranes ≡ length inst.tasks) (on_ship : at j < length left) where
    inside : j < length cranes
    inside = omega (arith, many)

    -- with other cranes the work is another at its bay alone
    left_set : (others : List (Option ℕ)) (n : ℕ) → n ≡ work_at inst others (at j)
        → ((x : ℕ) → x ≢ at j → work_at inst cranes x ≡ work_at inst others x) → IsLeft inst others (set left (at j) n)
    left_set others n here same = record {
      count = length-set left (at j) n ∙ is.count;
      work = λ x. elim (cases_eq x (at j)) [
        | inl e ↦
            subst (λ (y : ℕ). get_or (set left (at j) n) y 0 ≡ work_at inst others y) (sym e)
            (get_or-set_same left (at j) n 0 on_ship ∙ here)
        | inr differ ↦ get_or-set_other left (at j) x n 0 differ ∙ is.work x ∙ same x differ
      ];
    }

    module _ (k : ℕ) (free : crane_in cranes j ≡ None) where
      put_change : (x : ℕ) → work_at inst cranes x ≡ work_at inst (set cranes j (Some k)) x + cond (eqb (at j) x) (ticks_of inst j) 0
      put_change =
          work_changed cranes (set cranes j (Some k)) j low (ap is_none free) (ap is_none (cranes_there cranes j (Some k) inside))
          (λ i differ. sym (cranes_else cranes j (Some k) i differ))

      pub put_room : ticks_of inst j ≤ get_or left (at j) 0
      put_room =
          omega (arith, is.work (at j), put_change (at j), ap (λ c. cond c (ticks_of inst j) 0) (eq-eqb (at j) (at j) refl))

      pub left_put : IsLeft inst (set cranes j (Some k)) (set left (at j) (get_or left (at j) 0 - ticks_of inst j))
      left_put =
          left_set (set cranes j (Some k)) (get_or left (at j) 0 - ticks_of inst j)
          (omega (arith, is.work (at j), put_change (at j), ap (λ c. cond c (ticks_of inst j) 0) (eq-eqb (at j) (at j) refl)))
          (λ x differ. omega (arith, put_change x, ap (λ c. cond c (ticks_of inst j) 0) (ne_eqb (at j) x (λ e. differ (sym e)))))

    module _ (taken : is_none (crane_in cranes j) ≡ false) where
      take_change : (x : ℕ) → work_at inst (set cranes j None) x ≡ work_at inst cranes x + cond (eqb (at j) x) (ticks_of inst j) 0
      take_change =
          work_changed (set cranes j None) cranes j low (ap is_none (cranes_there cranes j None inside)) taken
          (λ i differ. cranes_else cranes j None i differ)

      pub left_take : IsLeft inst (set cranes j None) (set left (at j) (get_or left (at j) 0 + ticks_of inst j))
      left_take =
          left_set (set cranes j None) (get_or left (at j) 0 + ticks_of inst j)
          (omega (arith, is.work (at j), take_change (at j), ap (λ c. cond c (ticks_of inst j) 0) (eq-eqb (at j) (at j) refl)))
          (λ x differ. omega (arith, take_change x, ap (λ c. cond c (ticks_of inst j) 0) (ne_eqb (at j) x (λ e. differ (sym e)))))

  pub work_within : Valid inst → (cranes : List (Option ℕ)) (x : ℕ) → work_at inst cranes x ≤ MOST_TASKS * MOST_WORK
  work_within valid cranes x =
      let all = sum_few (term cranes x) MOST_WORK 0 (length inst.tasks) (λ j low. one (is_none (crane_in cranes j) && eqb (at j) x) (ticks_of inst j) (ticks_bounded inst valid j (omega arith))) in
      omega (arith, all, work_is cranes x, valid.tasks.count)
    where
      one : (b : Bool) (n : ℕ) → n ≤ MOST_WORK → cond b n 0 ≤ MOST_WORK
      one true n le = le
      one false n le = omega arith

  -- ---- where work is left

  some_work : (js : List ℕ) → ((j : ℕ) → Among js j → 1 ≤ ticks_of inst j) → nat_lt 0 (ticks_over inst js) ≡ nat_lt 0 (length js)
  some_work [] some = refl
  some_work (j ∷ js) some =
      lt-ltb 0 (ticks_over inst (j ∷ js)) (omega (arith, some j (inl refl), sum_by-cons (ticks_of inst) j js))
      ∙ sym (lt-ltb 0 (length (j ∷ js)) (omega arith))

  module _ (valid : Valid inst) (cranes : List (Option ℕ)) (left : List ℕ) (is : IsLeft inst cranes left) where
    some_left : (x : ℕ) → nat_lt 0 (get_or left x 0) ≡ nat_lt 0 (length (left_at inst cranes x))
    some_left x =
        ap (nat_lt 0) (is.work x)
        ∙ some_work (left_at inst cranes x) (λ j a.
        let r = filter_among (λ j. is_none (crane_in cranes j) && eqb (at j) x) (task_numbers inst) j a in
        valid.tasks.ticks j (omega (arith, (range_among j 0 (length inst.tasks) r.0).1)))

    bays_same : bays_of left ≡ left_bays inst cranes
    bays_same =
        let many : length left - 1 ≡ inst.bays = omega (arith, is.count) in
        ap (λ (p : ℕ → Bool). filter p (range_with_len 1 (length left - 1))) (fun_ext some_left)
        ∙ ap (λ n. filter (λ x. nat_lt 0 (length (left_at inst cranes x))) (range_with_len 1 n)) many

    pub try_same : (of : ℕ → Frame) (tick : ℕ) (frames : List Frame) → frames ≡ map of (crane_numbers inst)
        → try_by inst.travel tick frames left ≡ try_with inst cranes of tick
    try_same of tick frames same =
        let P : List Frame → List ℕ → (ℕ → ℕ) → Try = λ fs bs w. record { travel = inst.travel; frames = fs; bays = bs; work = w; tick = tick } in
        ap (λ fs. P fs (bays_of left) (λ x. get_or left x 0)) same
        ∙ ap (λ bs. P (map of (crane_numbers inst)) bs (λ x. get_or left x 0)) bays_same
        ∙ ap (λ w. P (map of (crane_numbers inst)) (left_bays inst cranes) w) (fun_ext is.work)

-- ---- the loop that fills the list

pub none_there : (n j : ℕ) → crane_in (replicate n None) j ≡ None
none_there zero j = refl
none_there (suc n) zero = refl
none_there (suc n) (suc j) = none_there n j

nothing_there : (n x : ℕ) → ◌≡◌ {A = ℕ} (get_or (replicate n 0) x 0) 0
nothing_there zero x = refl
nothing_there (suc n) zero = refl
nothing_there (suc n) (suc x) = nothing_there n x

-- the first i tasks have no crane any more, the others have one
abbrev held : Bool → Option ℕ
held b = cond b None (Some 0)

abbrev opens : ℕ → ℕ → Option ℕ
opens i j = held (nat_lt j i)

abbrev pub opened : InstanceView → ℕ → List (Option ℕ)
opened inst i = map (opens i) (range_with_len 0 (length inst.tasks))

module _ (inst : InstanceView) where
  opened_many : (i : ℕ) → length (opened inst i) ≡ length inst.tasks
  opened_many i = length-map-range_with_len (opens i) 0 (length inst.tasks)

  opened_at : (i j : ℕ) → j < length inst.tasks → crane_in (opened inst i) j ≡ opens i j
  opened_at i j low = get_or-map-range_with_len (opens i) 0 (length inst.tasks) j j None low (omega arith)

  pub none_opened : (left : List ℕ) → left ≡ replicate (inst.bays + 1) 0 → IsLeft inst (opened inst 0) left
  none_opened left is = record {
    count = ap length is ∙ length-replicate (inst.bays + 1) 0;
    work = λ x.
        ap (λ (xs : List ℕ). get_or xs x 0) is ∙ nothing_there (inst.bays + 1) x
        ∙ omega (arith, work_is inst (opened inst 0) x, sum_few (term inst (opened inst 0) x) 0 0 (length inst.tasks) (none x), mul-zero (length inst.tasks));
  }
    where
      none : (x j : ℕ) → j < 0 + length inst.tasks → term inst (opened inst 0) x j ≤ 0
      none x j low =
          let e = opened_at 0 j (omega (arith, low)) ∙ ap held (le-ltb j 0 (omega arith)) in
          omega (arith, ap (λ o. cond (is_none o && eqb (at inst j) x) (ticks_of inst j) 0) e)

  opened_next : (i : ℕ) → i < length inst.tasks → set (opened inst i) i None ≡ opened inst (i + 1)
  opened_next i low =
      fill_by_all (opens (i + 1)) (set (opened inst i) i None) (length inst.tasks) None
      (length-set (opened inst i) i None ∙ opened_many i) at_each
    where
      other : (j : ℕ) → j < length inst.tasks → j ≢ i → nat_lt j i ≡ nat_lt j (i + 1)
          → crane_in (set (opened inst i) i None) j ≡ opens (i + 1) j
      other j under differ same =
          cranes_else inst (opened inst i) i None j differ ∙ opened_at i j under ∙ ap held same

      at_each : (j : ℕ) → j < length inst.tasks → crane_in (set (opened inst i) i None) j ≡ opens (i + 1) j
      at_each j under = elim (cases_eq j i) [
        | inl e ↦
            get_or-set_at (opened inst i) i j None None e (omega (arith, opened_many i, low))
            ∙ sym (ap held (lt-ltb j (i + 1) (omega (arith, e))))
        | inr differ ↦ elim (cases_lt j i) [
          | inl less ↦ other j under differ (lt-ltb j i less ∙ sym (lt-ltb j (i + 1) (omega arith)))
          | inr more ↦ elim (cases_lt i j) [
            | inl above ↦ other j under differ (le-ltb j i more ∙ sym (le-ltb j (i + 1) (omega (arith, above))))
            | inr same ↦ absurd (differ (omega (arith, more, same)))
          ]
        ]
      ]

  pub all_opened : (left : List ℕ) (n : ℕ) → n ≡ length inst.tasks → IsLeft inst (opened inst n) left
      → IsLeft inst (no_cranes inst) left
  all_opened left n is =
      subst (λ (cs : List (Option ℕ)). IsLeft inst cs left)
      (sym (fill_by_all (opens n) (no_cranes inst) (length inst.tasks) None (length-replicate {A = Option ℕ} (length inst.tasks) None)
      (λ j low. none_there (length inst.tasks) j
      ∙ sym (ap held (lt-ltb j n (omega (arith, low, is)))))))

pub bay_index : (z : ℤ) → pos 1 ≤ℤ z → z ≤ℤ pos 6000 → nat_abs (to_z w32 (of_z w32 z)) ≡ at_least_zero z
bay_index (pos n) low high = omega (arith, ints)
bay_index (negsuc n) low high = absurd (omega (arith, ints))

-- as the code reads a task
pub one_opened : (inst : InstanceView) → Valid inst → (n : ℕ) (left : List ℕ) (t : Task) → n < length inst.tasks
    → t ≡ task inst n → IsLeft inst (opened inst n) left
    → IsLeft inst (opened inst (n + 1)) (set left (nat_abs (to_z w32 (of_z w32 t.bay))) (get_or left (nat_abs (to_z w32 (of_z w32 t.bay))) 0 + t.ticks))
one_opened inst valid n left t low t_is is =
    let on_ship = valid.tasks.bays n low in
    let most = (limits_of inst valid).bays.1 in
    let x_is = bay_index (bay_of inst n) on_ship.0 (omega (arith, ints, on_ship.1, most)) in
    let taken = opened_at inst n n low ∙ ap held (le-ltb n n (omega arith)) in
    subst (λ (u : Task). IsLeft inst (opened inst (n + 1)) (set left (nat_abs (to_z w32 (of_z w32 u.bay))) (get_or left (nat_abs (to_z w32 (of_z w32 u.bay))) 0 + u.ticks)))
    (sym t_is)
    (subst (λ (x : ℕ). IsLeft inst (opened inst (n + 1)) (set left x (get_or left x 0 + ticks_of inst n))) (sym x_is)
    (subst (λ (cs : List (Option ℕ)). IsLeft inst cs (set left (at inst n) (get_or left (at inst n) 0 + ticks_of inst n))) (opened_next inst n low)
    (left_take inst (opened inst n) left is n low (opened_many inst n) (omega (arith, ints, bays, x_is, on_ship.1, is.count)) (ap is_none taken))))

-- ---- what code asks for

pub short_same : (inst : InstanceView) (of : ℕ → Frame) (cranes : List (Option ℕ)) (left : List ℕ) → Valid inst
    → IsLeft inst cranes left → (travel step n : ℕ) (frames whole : List Frame) → travel ≡ inst.travel → step ≡ grain inst
    → frames ≡ take n whole → n ≡ length inst.cranes
    → take (length inst.cranes) whole ≡ map of (crane_numbers inst) → (end : ℕ)
    → is_short (try_by travel (last_before step end) frames left)
    ≡ is_short (try_with inst cranes of (last_before (grain inst) end))
short_same inst of cranes left valid is travel step n frames whole is_travel is_step is_frames is_n all end =
    ap (λ t. is_short (try_by t (last_before step end) frames left)) is_travel
    ∙ ap (λ g. is_short (try_by inst.travel (last_before g end) frames left)) is_step
    ∙ ap is_short (try_same inst valid cranes left is of (last_before (grain inst) end) frames
    (is_frames ∙ ap (λ k. take k whole) is_n ∙ all))

-- ---- the last ends

-- where what passes at an end passes at each earlier one
module _ (p : ℕ → Bool) (falls : (n m : ℕ) → n ≤ m → p m ≡ true → p n ≡ true) where
  pub last_test : (limit last end : ℕ) → IsLast p limit last → 0 < end → end ≤ limit → leb end last ≡ p end
  last_test limit last end is some within = elim (cases_lt last end) [
    | inl after ↦ lt-leb end last after ∙ sym (is.others end after within)
    | inr before ↦ le-leb end last before ∙ sym (falls end last before (is.passes (omega arith)))
  ]
