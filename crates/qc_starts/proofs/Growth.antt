-- What a decision adds: nothing that is forced becomes less, and only what it names changes.
use Rattle.std.proofs.Common.{◌≡◌, ◌≢◌, ℕ, ◌<◌, ◌≤◌, Bool, true, false, ◌&&◌, ◌||◌, cond, eqb, ltb, inl, inr, List, ◌∷◌, length, Option, None, Some, IsSome, IsTrue, T, ℤ, ◌<ℤ◌, refl, sym, ap, ap₂, subst, ◌∙◌, arith, int_lt, nat_lt}
use Rattle.std.proofs.lemmas.Bool.{and_parts, cases_Bool, cases_eq, cond-false, cond-true, eq-eqb, ltb-true, ltb-false, ne_eqb, or_right}
use Rattle.std.proofs.lemmas.Int.{ints}
use Rattle.std.proofs.lemmas.Option.{none-some, same_Some}
use Rattle.qc_dist.specs.Added.{excess}
use Rattle.qc_dist.specs.Node.{IsOpen}
use Rattle.qc_dist.proofs.Assigned.{assigned_here, assigned_other, ordered_here, ordered_other}
use Rattle.qc_model.specs.declared.decision.Decision.{Decision}
use Rattle.qc_model.specs.declared.decision.Decision.TheVariants.{Assign, Order}
use Rattle.qc_model.specs.declared.turn.Turn.{Turn}
use Rattle.qc_model.specs.declared.turn.Turn.TheVariants.{OneWay, Free}
use Rattle.qc_model.specs.Instance.{InstanceView, bay_of, ticks_of}
use Rattle.qc_model.specs.Nodes.{IsSettled, Meets, assigned, crane_ticks, forced, free, greater, head, head_by, is_before, is_ordered, is_sooner, pair_ticks, reaches, sooner_ticks, upward_ticks}
use Rattle.qc_model.specs.Ticks.{task_distance}
use Rattle.qc_model.proofs.Extremes.{least_le}
use Rattle.qc_starts.specs.Seen.{IsReached}
use Rattle.qc_model.proofs.NodeLemmas.{settled_by}

-- ---- numbers that may be missing

-- no number becomes less or is lost
abbrev pub IsNoLess : Option ℕ → Option ℕ → Type 0
IsNoLess a b = (m : ℕ) → a ≡ Some m → (n : ℕ) × (b ≡ Some n) × (m ≤ n)

same_no_less : (a b : Option ℕ) → b ≡ a → IsNoLess a b
same_no_less a b e = λ m is. (m, e ∙ is, omega arith)

greater_none : (a : Option ℕ) → greater a None ≡ a
greater_none None = refl
greater_none (Some m) = refl

no_less_first : (a b : Option ℕ) → IsNoLess a (greater a b)
no_less_first None b m e = absurd (cc)
no_less_first (Some k) None m e = (k, refl, omega (arith, same_Some _ _ e))
no_less_first (Some k) (Some n) m e = (_, refl, omega (arith, same_Some _ _ e))

-- what the greater of two numbers is, by what the second adds
pub greater_more : (a b : Option ℕ) (n : ℕ) → excess a b ≡ Some n → greater a b ≡ Some n
greater_more None None n e = absurd (none-some n e)
greater_more (Some l) None n e = absurd (none-some n e)
greater_more None (Some m) n e = e
greater_more (Some l) (Some m) n e = elim (cases_Bool (ltb l m)) [
  | inl less ↦
      let same = same_Some _ _ (sym (cond-true (ltb l m) (Some m) None less) ∙ e) in
      ap Some (omega (arith, ltb-true l m less, same))
  | inr other ↦ absurd (none-some n (sym (cond-false (ltb l m) (Some m) None other) ∙ e))
]

pub greater_same : (a b : Option ℕ) → excess a b ≡ None → greater a b ≡ a
greater_same a None e = greater_none a
greater_same None (Some m) e = absurd (none-some m (sym e))
greater_same (Some l) (Some m) e = elim (cases_Bool (ltb l m)) [
  | inl less ↦ absurd (none-some m (sym e ∙ cond-true (ltb l m) (Some m) None less))
  | inr other ↦ ap Some (omega (arith, ltb-false l m other))
]

-- what is added is asked for by the second number
pub excess_by : (a b : Option ℕ) (n : ℕ) → excess a b ≡ Some n → b ≡ Some n
excess_by None None n e = absurd (none-some n e)
excess_by (Some l) None n e = absurd (none-some n e)
excess_by None (Some m) n e = e
excess_by (Some l) (Some m) n e = elim (cases_Bool (ltb l m)) [
  | inl less ↦ sym (cond-true (ltb l m) (Some m) None less) ∙ e
  | inr other ↦ absurd (none-some n (sym (cond-false (ltb l m) (Some m) None other) ∙ e))
]

-- ---- what cranes ask for

some_true : (b : Bool) (o : Option ℕ) (n : ℕ) → cond b o None ≡ Some n → b ≡ true
some_true true o n e = refl
some_true false o n e = absurd (none-some n e)

rises : (x y : ℤ) → int_lt x y ≡ true → x <ℤ y
rises x y t = record { lt = subst T (sym t) tt }

pub ticks_none : (inst : InstanceView) (sooner : Bool) (i j : ℕ) (a : Option ℕ) → crane_ticks inst sooner i j a None ≡ None
ticks_none inst sooner i j None = refl
ticks_none inst sooner i j (Some v) = refl

-- cranes that go one way ask for something at most one way
one_way : (inst : InstanceView) (i j n m v w : ℕ) → upward_ticks inst i v j w ≡ Some n
    → upward_ticks inst j w i v ≡ Some m → ⊥
one_way inst i j n m v w e f = elim (cases_eq v w) [
  | inl same ↦
      let up = some_true (int_lt (bay_of inst i) (bay_of inst j)) _ n (sym (cond-true (eqb v w) _ _ (eq-eqb v w same)) ∙ e) in
      let down = some_true (int_lt (bay_of inst j) (bay_of inst i)) _ m
      (sym (cond-true (eqb w v) _ _ (eq-eqb w v (sym same))) ∙ f) in
      let x = rises (bay_of inst i) (bay_of inst j) up in
      let y = rises (bay_of inst j) (bay_of inst i) down in
      omega (arith, ints)
  | inr differ ↦
      let lower = some_true (nat_lt w v && nat_lt 0 (task_distance inst i v j w)) _ n
      (sym (cond-false (eqb v w) _ _ (ne_eqb v w differ)) ∙ e) in
      let higher = some_true (nat_lt v w && nat_lt 0 (task_distance inst j w i v)) _ m
      (sym (cond-false (eqb w v) _ _ (ne_eqb w v (λ s. differ (sym s)))) ∙ f) in
      let x = ltb-true w v (and_parts (nat_lt w v) (nat_lt 0 (task_distance inst i v j w)) lower).0 in
      let y = ltb-true v w (and_parts (nat_lt v w) (nat_lt 0 (task_distance inst j w i v)) higher).0 in
      omega arith
]

pair_both : (turn : Turn) (inst : InstanceView) (s r : Bool) (i j n m v w : ℕ)
    → pair_ticks turn inst s i v j w ≡ Some n → pair_ticks turn inst r j w i v ≡ Some m → (s ≡ true) × (r ≡ true)
pair_both OneWay inst s r i j n m v w e f = absurd (one_way inst i j n m v w e f)
pair_both Free inst s r i j n m v w e f = (some_true s _ n e, some_true r _ m f)

-- cranes ask for something both ways only where each task is sooner than the other
pub both_ask : (inst : InstanceView) (s r : Bool) (i j n m : ℕ) (a b : Option ℕ) → crane_ticks inst s i j a b ≡ Some n
    → crane_ticks inst r j i b a ≡ Some m → (s ≡ true) × (r ≡ true)
both_ask inst s r i j n m None b e f = absurd (none-some n e)
both_ask inst s r i j n m (Some v) None e f = absurd (none-some n e)
both_ask inst s r i j n m (Some v) (Some w) e f = pair_both inst.turn inst s r i j n m v w e f

-- ---- a task that gets its crane

module _ (inst : InstanceView) (ds : List Decision) (t k : ℕ) where
  pub assigned_same : (i j : ℕ) → i ≢ t → j ≢ t → forced inst (Assign t k ∷ ds) i j ≡ forced inst ds i j
  assigned_same i j first second =
      ap₂ (λ (a b : Option ℕ). greater (sooner_ticks inst ds i j) (crane_ticks inst (is_sooner inst ds i j) i j a b))
      (assigned_other ds t k i (λ e. first (sym e))) (assigned_other ds t k j (λ e. second (sym e)))

  module _ (none : assigned ds t ≡ None) where
    pub open_from : (j : ℕ) → forced inst ds t j ≡ sooner_ticks inst ds t j
    open_from j =
        ap (λ (a : Option ℕ). greater (sooner_ticks inst ds t j) (crane_ticks inst (is_sooner inst ds t j) t j a (assigned ds j))) none
        ∙ greater_none (sooner_ticks inst ds t j)

    pub open_to : (i : ℕ) → forced inst ds i t ≡ sooner_ticks inst ds i t
    open_to i =
        ap (λ (a : Option ℕ). greater (sooner_ticks inst ds i t) (crane_ticks inst (is_sooner inst ds i t) i t (assigned ds i) a)) none
        ∙ ap (greater (sooner_ticks inst ds i t)) (ticks_none inst (is_sooner inst ds i t) i t (assigned ds i))
        ∙ greater_none (sooner_ticks inst ds i t)

    assign_grows : (i j : ℕ) → IsNoLess (forced inst ds i j) (forced inst (Assign t k ∷ ds) i j)
    assign_grows i j = elim (cases_eq i t) [
      | inl same ↦ subst (λ (x : ℕ). IsNoLess (forced inst ds x j) (forced inst (Assign t k ∷ ds) x j)) (sym same)
          (subst (λ (o : Option ℕ). IsNoLess o (forced inst (Assign t k ∷ ds) t j)) (sym (open_from j))
          (no_less_first (sooner_ticks inst ds t j) _))
      | inr first ↦ elim (cases_eq j t) [
        | inl same ↦ subst (λ (x : ℕ). IsNoLess (forced inst ds i x) (forced inst (Assign t k ∷ ds) i x)) (sym same)
            (subst (λ (o : Option ℕ). IsNoLess o (forced inst (Assign t k ∷ ds) i t)) (sym (open_to i))
            (no_less_first (sooner_ticks inst ds i t) _))
        | inr second ↦ same_no_less _ _ (assigned_same i j first second)
      ]
    ]

    assign_heads : k < length inst.cranes → IsTrue (reaches inst t k) → (j : ℕ)
        → head inst ds j ≤ head inst (Assign t k ∷ ds) j
    assign_heads crane reach j = elim (cases_eq j t) [
      | inl same ↦
          let less = least_le (free inst t) (reaches inst t) k 0 (length inst.cranes) (omega arith) (omega arith) reach in
          let before = ap (λ (o : Option ℕ). head_by inst t o) none in
          let after = ap (λ (o : Option ℕ). head_by inst t o) (assigned_here ds t k) in
          let old = ap (head inst ds) same in
          let new = ap (head inst (Assign t k ∷ ds)) same in
          omega (arith, less, before, after, old, new)
      | inr other ↦
          let is = ap (λ (o : Option ℕ). head_by inst j o) (assigned_other ds t k j (λ e. other (sym e))) in
          omega (arith, is)
    ]

pub head_same : (inst : InstanceView) (ds : List Decision) (t k j : ℕ) → j ≢ t
    → head inst (Assign t k ∷ ds) j ≡ head inst ds j
head_same inst ds t k j other =
    ap (λ (o : Option ℕ). head_by inst j o) (assigned_other ds t k j (λ e. other (sym e)))

-- ---- two tasks that get their order

none_of : (o : Option ℕ) → (IsSome o → ⊥) → o ≡ None
none_of None h = refl
none_of (Some n) h = absurd (h refl)

some_greater : (m : ℕ) (o : Option ℕ) → (n : ℕ) × (greater (Some m) o ≡ Some n)
some_greater m None = (m, refl)
some_greater m (Some n) = (_, refl)

module _ (inst : InstanceView) (ds : List Decision) (g h : ℕ) where
  pub ordered_same : (i j : ℕ) → (g ≡ i → h ≡ j → ⊥)
      → forced inst (Order g h ∷ ds) i j ≡ forced inst ds i j
  ordered_same i j differ =
      ap (λ (b : Bool). greater (cond (is_before inst i j || b) (Some (ticks_of inst i)) None)
      (crane_ticks inst (is_before inst i j || b) i j (assigned ds i) (assigned ds j))) (ordered_other ds g h i j differ)

  module _ (unsettled : ¬ IsSettled inst ds g h) where
    pub unsettled_from : forced inst ds g h ≡ None
    unsettled_from = none_of (forced inst ds g h) (λ some. unsettled (settled_by inst ds g h (inl some)))

    pub unsettled_to : forced inst ds h g ≡ None
    unsettled_to = none_of (forced inst ds h g) (λ some. unsettled (settled_by inst ds g h (inr some)))

    -- something is forced from the first to the second
    pub ordered_here_is : (len : ℕ) × (forced inst (Order g h ∷ ds) g h ≡ Some len)
    ordered_here_is =
        let news = Order g h ∷ ds in
        let asked = or_right (is_before inst g h) (is_ordered news g h) (ordered_here ds g h) in
        let cranes = crane_ticks inst (is_sooner inst news g h) g h (assigned ds g) (assigned ds h) in
        let more = some_greater (ticks_of inst g) cranes in (
          more.0,
          ap (λ (o : Option ℕ). greater o cranes)
              (cond-true (is_sooner inst news g h) (Some (ticks_of inst g)) None asked) ∙ more.1,
        )

    order_grows : (i j : ℕ) → IsNoLess (forced inst ds i j) (forced inst (Order g h ∷ ds) i j)
    order_grows i j = elim (cases_eq g i) [
      | inl first ↦ elim (cases_eq h j) [
        | inl second ↦ λ m is. absurd (none-some m (sym unsettled_from ∙ ap₂ (forced inst ds) first second ∙ is))
        | inr second ↦ same_no_less (forced inst ds i j) _ (ordered_same i j (λ e f. second f))
      ]
      | inr first ↦ same_no_less (forced inst ds i j) _ (ordered_same i j (λ e f. first e))
    ]

-- ---- any decision

pub forced_grows : (inst : InstanceView) (ds : List Decision) (d : Decision) → IsOpen inst ds d
    → (i j : ℕ) → IsNoLess (forced inst ds i j) (forced inst (d ∷ ds) i j)
forced_grows inst ds (Assign t k) able i j = assign_grows inst ds t k able.2 i j
forced_grows inst ds (Order g h) able i j = order_grows inst ds g h able.1 i j

pub head_grows : (inst : InstanceView) (ds : List Decision) (d : Decision) → IsOpen inst ds d → IsReached inst d
    → (j : ℕ) → head inst ds j ≤ head inst (d ∷ ds) j
head_grows inst ds (Assign t k) able reach j = assign_heads inst ds t k able.2 able.1 reach j
head_grows inst ds (Order g h) able reach j = omega arith

-- starts that meet a node met it before its newest decision
pub meets_before : (inst : InstanceView) (ds : List Decision) (d : Decision) → IsOpen inst ds d → IsReached inst d
    → (starts : List ℕ) → Meets inst (d ∷ ds) starts → Meets inst ds starts
meets_before inst ds d able reach starts meets = record {
  all_tasks = meets.all_tasks;
  heads = λ j low. omega (arith, head_grows inst ds d able reach j, meets.heads j low);
  steps = λ i j ticks low high is.
      let more = forced_grows inst ds d able i j ticks is in
      omega (arith, meets.steps i j more.0 low high more.1, more.2);
}
