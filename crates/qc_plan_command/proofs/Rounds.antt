-- Tasks of which none is before itself have ranks that rise along what is before what.
use Rattle.std.proofs.Common.{◌≡◌, ◌⊎◌, ◌<◌, ◌≤◌, ◌+◌, ℕ, zero, suc, Bool, true, false, not, ◌&&◌, ◌||◌, cond, [], length, inl, inr, ap, arith, refl, sym, ◌∙◌}
use Rattle.std.proofs.lemmas.Bool.{and_parts, cases_Bool, cases_lt, or_cases}
use Rattle.qc_model.specs.Instance.{InstanceView, IsBefore}
use Rattle.qc_model.specs.Nodes.{is_sooner}
use Rattle.qc_model.proofs.NodeLemmas.{before_found, sooner_before}

-- ---- tests of the numbers below one

pub some_below : (ℕ → Bool) → ℕ → Bool
some_below f zero = false
some_below f (suc k) = f k || some_below f k

-- the last of them that passes
pub last_below : (ℕ → Bool) → ℕ → ℕ
last_below f zero = 0
last_below f (suc k) = cond (f k) k (last_below f k)

pub found_below : (f : ℕ → Bool) (k : ℕ) → some_below f k ≡ true
    → (last_below f k < k) × (f (last_below f k) ≡ true)
unfolding some_below last_below
found_below f zero e = absurd (cc e)
found_below f (suc k) e = elim (cases_Bool (f k)) [
  | inl here ↦
      let is : last_below f (suc k) ≡ k = ap (λ (b : Bool). cond b k (last_below f k)) here in
      (omega (arith, is), ap f is ∙ here)
  | inr off ↦
      let is : last_below f (suc k) ≡ last_below f k = ap (λ (b : Bool). cond b k (last_below f k)) off in
      let more = found_below f k (sym (ap (λ (b : Bool). b || some_below f k) off) ∙ e) in
      (omega (arith, is, more.0), ap f is ∙ more.1)
]

pub none_below : (f : ℕ → Bool) (k i : ℕ) → some_below f k ≡ false → i < k → f i ≡ false
unfolding some_below
none_below f zero i e low = absurd (omega (arith, low))
none_below f (suc k) i e low = elim (cases_Bool (f k)) [
  | inl here ↦ absurd (cc (sym (ap (λ (b : Bool). b || some_below f k) here) ∙ e))
  | inr off ↦ elim (cases_lt i k) [
    | inl less ↦ none_below f k i (sym (ap (λ (b : Bool). b || some_below f k) off) ∙ e) less
    | inr last ↦ let same : i ≡ k = omega (arith, low, last) in ap f same ∙ off
  ]
]

-- ---- how many pass

one_of : Bool → ℕ
one_of true = 1
one_of false = 0

one_le : (b : Bool) → one_of b ≤ 1
unfolding one_of
one_le true = omega arith
one_le false = omega arith

one_more : (a b : Bool) → (a ≡ true → b ≡ true) → one_of a ≤ one_of b
unfolding one_of
one_more true b h = let is = h refl in omega (arith, ap one_of is)
one_more false b h = omega arith

pub count_below : (ℕ → Bool) → ℕ → ℕ
count_below f zero = 0
count_below f (suc k) = one_of (f k) + count_below f k

count_more : (f g : ℕ → Bool) → ((i : ℕ) → f i ≡ true → g i ≡ true) → (k : ℕ) → count_below f k ≤ count_below g k
unfolding count_below
count_more f g h zero = omega arith
count_more f g h (suc k) = omega (arith, one_more (f k) (g k) (h k), count_more f g h k)

count_new : (f g : ℕ → Bool) → ((i : ℕ) → f i ≡ true → g i ≡ true) → (k j : ℕ) → j < k → f j ≡ false → g j ≡ true
    → count_below f k + 1 ≤ count_below g k
unfolding count_below one_of
count_new f g h zero j low off on = absurd (omega (arith, low))
count_new f g h (suc k) j low off on = elim (cases_lt j k) [
  | inl less ↦ omega (arith, one_more (f k) (g k) (h k), count_new f g h k j less off on)
  | inr last ↦
      let same : j ≡ k = omega (arith, low, last) in
      let one = ap one_of (sym (ap f same) ∙ off) in
      let other = ap one_of (sym (ap g same) ∙ on) in
      omega (arith, one, other, count_more f g h k)
]

count_short : (f : ℕ → Bool) (k i : ℕ) → i < k → f i ≡ false → count_below f k + 1 ≤ k
unfolding count_below one_of
count_short f zero i low off = absurd (omega (arith, low))
count_short f (suc k) i low off = elim (cases_lt i k) [
  | inl less ↦ omega (arith, one_le (f k), count_short f k i less off)
  | inr last ↦
      let same : i ≡ k = omega (arith, low, last) in
      omega (arith, ap one_of (sym (ap f same) ∙ off), all_le f k)
]
  where
    all_le : (f : ℕ → Bool) (k : ℕ) → count_below f k ≤ k
    all_le f zero = omega arith
    all_le f (suc k) = omega (arith, one_le (f k), all_le f k)

-- ---- rounds

module _ (inst : InstanceView)
    (founded : (P : ℕ → Type 0)
    → ((j : ℕ) → P j → (i : ℕ) × P i × (i < length inst.tasks) × IsBefore inst i j)
    → (j : ℕ) → j < length inst.tasks → P j → ⊥)
    (within : (i j : ℕ) → IsBefore inst i j → i < length inst.tasks) where
  arc : ℕ → ℕ → Bool
  arc i j = is_sooner inst [] i j

  -- the tasks that are placed after so many rounds: in each all before which every task is placed
  placed : ℕ → ℕ → Bool
  placed zero j = false
  placed (suc t) j = not (some_below (λ i. arc i j && not (placed t i)) (length inst.tasks))

  arc_true : (i j : ℕ) → IsBefore inst i j → arc i j ≡ true
  unfolding arc
  arc_true i j has = sooner_before inst [] i j has

  arc_is : (i j : ℕ) → arc i j ≡ true → IsBefore inst i j
  unfolding arc
  arc_is i j e = elim (or_cases _ false e) [
    | inl before ↦ before_found i j inst.before before
    | inr never ↦ absurd (cc never)
  ]

  not_true : (b : Bool) → not b ≡ true → b ≡ false
  not_true true e = absurd (cc e)
  not_true false e = refl

  not_false : (b : Bool) → not b ≡ false → b ≡ true
  not_false true e = refl
  not_false false e = absurd (cc e)

  -- a task is placed after those before it
  first : (t i j : ℕ) → IsBefore inst i j → placed (suc t) j ≡ true → placed t i ≡ true
  unfolding placed
  first t i j has e =
      let none = none_below (λ i. arc i j && not (placed t i)) (length inst.tasks) i (not_true _ e) (within i j has) in
      not_false (placed t i) (sym (ap (λ (b : Bool). b && not (placed t i)) (arc_true i j has)) ∙ none)

  -- a task that isn't placed waits for one
  waits : (t j : ℕ) → placed (suc t) j ≡ false
      → (i : ℕ) × (placed t i ≡ false) × (i < length inst.tasks) × IsBefore inst i j
  unfolding placed
  waits t j e =
      let test : ℕ → Bool = λ i. arc i j && not (placed t i) in
      let some = found_below test (length inst.tasks) (not_false _ e) in
      let i = last_below test (length inst.tasks) in
      let parts = and_parts (arc i j) (not (placed t i)) some.1 in
      (i, not_true (placed t i) parts.1, some.0, arc_is i j parts.0)

  stays : (t j : ℕ) → placed t j ≡ true → placed (suc t) j ≡ true
  unfolding placed
  stays zero j e = absurd (cc e)
  stays (suc t) j e = elim (cases_Bool (placed (suc (suc t)) j)) [
    | inl on ↦ on
    | inr off ↦
        let by = waits (suc t) j off in
        let before = stays t by.0 (first t by.0 j by.3 e) in
        absurd (cc (sym before ∙ by.1))
  ]

  -- a round places one more, or all are placed
  grow : (t : ℕ) → ((j : ℕ) → j < length inst.tasks → placed t j ≡ true)
      ⊎ (count_below (placed t) (length inst.tasks) + 1 ≤ count_below (placed (suc t)) (length inst.tasks))
  grow t =
      let new : ℕ → Bool = λ j. not (placed t j) && placed (suc t) j in
      elim (cases_Bool (some_below new (length inst.tasks))) [
        | inl some ↦
            let found = found_below new (length inst.tasks) some in
            let j = last_below new (length inst.tasks) in
            let parts = and_parts (not (placed t j)) (placed (suc t) j) found.1 in
            inr (count_new (placed t) (placed (suc t)) (stays t) (length inst.tasks) j found.0
            (not_true (placed t j) parts.0) parts.1)
        | inr none ↦ inl (λ j low. elim (cases_Bool (placed t j)) [
          | inl on ↦ on
          | inr off ↦ absurd (founded (λ k. (k < length inst.tasks) × (placed t k ≡ false))
              (λ k has.
              let old : (not (placed t k) && placed (suc t) k) ≡ false = none_below new (length inst.tasks) k none has.0 in
              let by = waits t k (sym (ap (λ (b : Bool). not b && placed (suc t) k) has.1) ∙ old) in
              (by.0, (by.2, by.1), by.2, by.3)) j low (low, off))
        ])
      ]

  rounds : (t : ℕ) → ((j : ℕ) → j < length inst.tasks → placed t j ≡ true)
      ⊎ (t ≤ count_below (placed t) (length inst.tasks))
  rounds zero = inr (omega arith)
  rounds (suc t) = elim (rounds t) [
    | inl all ↦ inl (λ j low. stays t j (all j low))
    | inr many ↦ elim (grow t) [
      | inl all ↦ inl (λ j low. stays t j (all j low))
      | inr more ↦ inr (omega (arith, many, more))
    ]
  ]

  all_placed : (j : ℕ) → j < length inst.tasks → placed (length inst.tasks) j ≡ true
  all_placed j low = elim (rounds (length inst.tasks)) [
    | inl all ↦ all j low
    | inr many ↦ elim (cases_Bool (placed (length inst.tasks) j)) [
      | inl on ↦ on
      | inr off ↦ absurd (omega (arith, many, count_short (placed (length inst.tasks)) (length inst.tasks) j low off))
    ]
  ]

  -- ---- ranks

  -- the last of so many rounds before which the task isn't placed
  round : ℕ → ℕ → ℕ
  round zero j = 0
  round (suc t) j = cond (placed t j) (round t j) (suc t)

  round_le : (t j : ℕ) → round t j ≤ t
  unfolding round
  round_le zero j = omega arith
  round_le (suc t) j = elim (cases_Bool (placed t j)) [
    | inl on ↦ omega (arith, ap (λ (b : Bool). cond b (round t j) (suc t)) on, round_le t j)
    | inr off ↦ omega (arith, ap (λ (b : Bool). cond b (round t j) (suc t)) off)
  ]

  later : (t i j : ℕ) → IsBefore inst i j → round t i + 1 ≤ round (suc t) j
  unfolding round placed
  later zero i j has = omega arith
  later (suc t) i j has = elim (cases_Bool (placed (suc t) j)) [
    | inr off ↦ omega (arith, ap (λ (b : Bool). cond b (round (suc t) j) (suc (suc t))) off, round_le (suc t) i)
    | inl on ↦
        let same = ap (λ (b : Bool). cond b (round t i) (suc t)) (first t i j has on) in
        let kept = ap (λ (b : Bool). cond b (round (suc t) j) (suc (suc t))) on in
        omega (arith, same, kept, later t i j has)
  ]

  pub rank : ℕ → ℕ
  rank j = round (suc (length inst.tasks)) j

  pub rises : (i j : ℕ) → IsBefore inst i j → rank i < rank j
  unfolding rank round
  rises i j has =
      let low = within i j has in
      let n = length inst.tasks in
      let same = ap (λ (b : Bool). cond b (round n i) (suc n)) (all_placed i low) in
      omega (arith, same, later n i j has)
