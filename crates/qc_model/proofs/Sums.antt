-- Sums over the numbers of a range; and jobs in a row, which fit into the time that there is.
use Rattle.std.proofs.Common.{◌≡◌, ◌≢◌, ℕ, zero, suc, ◌+◌, ◌-◌, ◌<◌, ◌≤◌, min, ◌⊎◌, inl, inr, Bool, true, false, cond, refl, ap, arith, sum_by}
use Rattle.std.proofs.lemmas.Bool.{cases_lt}
use Rattle.std.proofs.lemmas.List.Sums.{sum_by-cons}
use Rattle.std.specs.List.{range_with_len}

sum_next : (f : ℕ → ℕ) (a n : ℕ)
    → sum_by f (range_with_len a (suc n)) ≡ f a + sum_by f (range_with_len (a + 1) n)
sum_next f a n = sum_by-cons f a (range_with_len (a + 1) n)

pub sum_zero : (f : ℕ → ℕ) (a n : ℕ) → ((j : ℕ) → a ≤ j → j < a + n → f j ≡ 0)
    → sum_by f (range_with_len a n) ≡ 0
sum_zero f a zero h = refl
sum_zero f a (suc n) h =
    let rest = sum_zero f (a + 1) n (λ j low high. h j (omega arith) (omega arith)) in
    omega (arith, sum_next f a n, h a (omega arith) (omega arith), rest)

pub sum_le : (f g : ℕ → ℕ) (a n : ℕ) → ((j : ℕ) → a ≤ j → j < a + n → f j ≤ g j)
    → sum_by f (range_with_len a n) ≤ sum_by g (range_with_len a n)
sum_le f g a zero h = omega arith
sum_le f g a (suc n) h =
    let rest = sum_le f g (a + 1) n (λ j low high. h j (omega arith) (omega arith)) in
    omega (arith, sum_next f a n, sum_next g a n, h a (omega arith) (omega arith), rest)

-- two sums side by side
pub sum_both : (f g h : ℕ → ℕ) (a n : ℕ) → ((j : ℕ) → a ≤ j → j < a + n → f j + g j ≤ h j)
    → sum_by f (range_with_len a n) + sum_by g (range_with_len a n) ≤ sum_by h (range_with_len a n)
sum_both f g h a zero k = omega arith
sum_both f g h a (suc n) k =
    let rest = sum_both f g h (a + 1) n (λ j low high. k j (omega arith) (omega arith)) in
    omega (arith, sum_next f a n, sum_next g a n, sum_next h a n, k a (omega arith) (omega arith), rest)

-- one term that is greater by so much
pub sum_raised : (f g : ℕ → ℕ) (d i a n : ℕ) → a ≤ i → i < a + n → g i + d ≤ f i
    → ((j : ℕ) → i ≢ j → g j ≤ f j)
    → sum_by g (range_with_len a n) + d ≤ sum_by f (range_with_len a n)
sum_raised f g d i a zero low high here other = absurd (omega arith)
sum_raised f g d i a (suc n) low high here other = elim (cases_lt a i) [
  | inl l ↦
      let rest = sum_raised f g d i (a + 1) n (omega arith) (omega arith) here other in
      omega (arith, sum_next f a n, sum_next g a n, other a (λ e. absurd (omega arith)), rest)
  | inr l ↦
      let e : i ≡ a = omega arith in
      let rest = sum_le g f (a + 1) n (λ j above _. other j (λ s. absurd (omega arith))) in
      omega (arith, sum_next f a n, sum_next g a n, ap f e, ap g e, here, rest)
]

-- of all terms at most one is greater, and by 1 alone
sum_once : (f g : ℕ → ℕ) (a n : ℕ) → ((j : ℕ) → f j ≤ g j + 1)
    → ((i j : ℕ) → i < j → j < a + n → g i < f i → f j ≤ g j)
    → sum_by f (range_with_len a n) ≤ sum_by g (range_with_len a n) + 1
sum_once f g a zero one alone = omega arith
sum_once f g a (suc n) one alone = elim (cases_lt (g a) (f a)) [
  | inl l ↦
      let rest = sum_le f g (a + 1) n (λ j above high. alone a j (omega arith) (omega arith) l) in
      omega (arith, sum_next f a n, sum_next g a n, one a, rest)
  | inr l ↦
      let rest = sum_once f g (a + 1) n one (λ i j order high. alone i j order (omega arith)) in
      omega (arith, sum_next f a n, sum_next g a n, rest)
]

-- of n jobs those that are on: each lies within the time, and no two overlap
pub record InARow (on : ℕ → Bool) (start long : ℕ → ℕ) (n from to : ℕ) : Type 0 where
  pub within : (j : ℕ) → j < n → on j ≡ true → (from ≤ start j) × (start j + long j ≤ to)
  pub clear : (i j : ℕ) → i < j → j < n → on i ≡ true → on j ≡ true
      → (start i + long i ≤ start j) ⊎ (start j + long j ≤ start i)

-- how much of each job is done by a moment
abbrev done_by : (ℕ → Bool) → (ℕ → ℕ) → (ℕ → ℕ) → ℕ → ℕ → ℕ
done_by on start long x j = cond (on j) (min (long j) (x - start j)) 0

none_yet : (b : Bool) (x s p from : ℕ) → x ≤ from → (b ≡ true → from ≤ s) → cond b (min p (x - s)) 0 ≡ 0
none_yet true x s p from early within = let w = within refl in omega arith
none_yet false x s p from early within = refl

one_more : (b : Bool) (x s p : ℕ) → cond b (min p (suc x - s)) 0 ≤ cond b (min p (x - s)) 0 + 1
one_more true x s p = omega arith
one_more false x s p = omega arith

one_at_a_time : (b c : Bool) (x s p t q : ℕ) → (b ≡ true → c ≡ true → (s + p ≤ t) ⊎ (t + q ≤ s))
    → cond b (min p (x - s)) 0 < cond b (min p (suc x - s)) 0
    → cond c (min q (suc x - t)) 0 ≤ cond c (min q (x - t)) 0
one_at_a_time false c x s p t q clear rises = absurd (omega arith)
one_at_a_time true false x s p t q clear rises = omega arith
one_at_a_time true true x s p t q clear rises =
    elim (clear refl refl) [ inl h ↦ omega arith | inr h ↦ omega arith ]

module _ (on : ℕ → Bool) (start long : ℕ → ℕ) (n from to : ℕ) (row : InARow on start long n from to) where
  none_by : (x : ℕ) → x ≤ from → sum_by (done_by on start long x) (range_with_len 0 n) ≡ 0
  none_by x early = sum_zero (done_by on start long x) 0 n (λ j _ low.
      none_yet (on j) x (start j) (long j) from early (λ t. (row.within j (omega arith) t).0))

  done_time : (x : ℕ) → sum_by (done_by on start long x) (range_with_len 0 n) ≤ x - from
  done_time zero = omega (arith, none_by 0 (omega arith))
  done_time (suc x) = elim (cases_lt x from) [
    | inl early ↦ omega (arith, none_by (suc x) (omega arith))
    | inr late ↦
        let more = λ (j : ℕ). one_more (on j) x (start j) (long j) in
        let alone = λ (i j : ℕ) (order : i < j) (high : j < 0 + n).
        one_at_a_time (on i) (on j) x (start i) (long i) (start j) (long j) (row.clear i j order (omega arith)) in
        omega (arith, done_time x, sum_once (done_by on start long (suc x)) (done_by on start long x) 0 n more alone)
  ]

  -- they take no longer together than the time that there is
  pub in_a_row : sum_by (λ j. cond (on j) (long j) 0) (range_with_len 0 n) ≤ to - from
  in_a_row =
      let all = sum_le (λ j. cond (on j) (long j) 0) (done_by on start long to) 0 n (λ j _ low.
      whole (on j) (start j) (long j) (λ t. (row.within j (omega arith) t).1)) in
      omega (arith, done_time to, all)
    where
      whole : (b : Bool) (s p : ℕ) → (b ≡ true → s + p ≤ to) → cond b p 0 ≤ cond b (min p (to - s)) 0
      whole true s p within = let w = within refl in omega arith
      whole false s p within = omega arith
