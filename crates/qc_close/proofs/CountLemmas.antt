-- Sums over cranes: of some of them, of the greatest and of the least.
use Rattle.std.proofs.Common.{[], ◌<◌, ◌≡◌, ℕ, zero, suc, ◌+◌, ◌-◌, ◌*◌, ◌≤◌, inl, inr, Bool, true, false, not, cond, List, ◌∷◌, length, map, refl, ap, sym, subst, arith, filter, sum_by, count_by}
use Rattle.std.proofs.Math.Nat.{mul-add, mul-zero}
use Rattle.std.proofs.lemmas.Bool.{cases_lt, cases_Bool, cond-true, cond_both}
use Rattle.std.proofs.lemmas.List.{length-map}
use Rattle.std.proofs.lemmas.List.Sums.{sum-map, sum_by-cons}
use Rattle.qc_model.specs.Closed.{fewest, most}
use Rattle.qc_close.proofs.Members.{Among}

-- of those that pass a test
pub sum_filter : (f : ℕ → ℕ) (p : ℕ → Bool) (xs : List ℕ) → sum_by f (filter p xs) ≡ sum_by (λ x. cond (p x) (f x) 0) xs
sum_filter f p [] = refl
sum_filter f p (x ∷ xs) =
    let rest = sum_filter f p xs in
    let all = sum_by-cons (λ x. cond (p x) (f x) 0) x xs in
    cond_both (p x) (x ∷ filter p xs) (filter p xs) (λ ys. sum_by f ys ≡ sum_by (λ x. cond (p x) (f x) 0) (x ∷ xs))
    (λ t. omega (arith, rest, all, sum_by-cons f x (filter p xs), cond-true (p x) (f x) 0 t))
    (λ t. omega (arith, rest, all, ap (λ b. cond b (f x) 0) t))

pub sums_within : (f g h : ℕ → ℕ) (xs : List ℕ) → ((x : ℕ) → Among xs x → f x + g x ≤ h x)
    → sum_by f xs + sum_by g xs ≤ sum_by h xs
sums_within f g h [] le = omega arith
sums_within f g h (x ∷ xs) le =
    let rest = sums_within f g h xs (λ y a. le y (inr a)) in
    omega (arith, rest, le x (inl refl), sum_by-cons f x xs, sum_by-cons g x xs, sum_by-cons h x xs)

pub most_cons : (n x : ℕ) (xs : List ℕ) → most n xs ≤ most n (x ∷ xs)
most_cons zero x xs = omega arith
most_cons (suc n) x xs = omega arith

most_more : (n x : ℕ) (xs : List ℕ) → x + most n xs ≤ most (suc n) (x ∷ xs)
most_more n x xs = omega arith

module _ (f : ℕ → ℕ) where
  -- what those that pass come to
  abbrev pub passing : (ℕ → Bool) → List ℕ → ℕ
  passing p ks = sum_by (λ k. cond (p k) (f k) 0) ks

  -- they come to no more than as many of the greatest
  pub passing_le : (p : ℕ → Bool) (ks : List ℕ) → passing p ks ≤ most (count_by p ks) (map f ks)
  passing_le p [] = omega arith
  passing_le p (k ∷ ks) = elim (cases_Bool (p k)) [
    | inl t ↦
        let this = ap (λ b. cond b (f k) 0) t in
        let one : count_by p (k ∷ ks) ≡ suc (count_by p ks) = omega (arith, sum_by-cons (λ k. cond (p k) 1 0) k ks, ap {B = ℕ} (λ b. cond b 1 0) t) in
        subst (λ (n : ℕ). passing p (k ∷ ks) ≤ most n (map f (k ∷ ks))) (sym one)
        (omega (arith, passing_le p ks, this, sum_by-cons (λ k. cond (p k) (f k) 0) k ks, most_more (count_by p ks) (f k) (map f ks)))
    | inr t ↦
        let this = ap (λ b. cond b (f k) 0) t in
        let none : count_by p (k ∷ ks) ≡ count_by p ks = omega (arith, sum_by-cons (λ k. cond (p k) 1 0) k ks, ap {B = ℕ} (λ b. cond b 1 0) t) in
        subst (λ (n : ℕ). passing p (k ∷ ks) ≤ most n (map f (k ∷ ks))) (sym none)
        (omega (arith, passing_le p ks, this, sum_by-cons (λ k. cond (p k) (f k) 0) k ks, most_cons (count_by p ks) (f k) (map f ks)))
  ]

  both_parts : (p : ℕ → Bool) (ks : List ℕ) → passing p ks + passing (λ k. not (p k)) ks ≡ sum_by f ks
  both_parts p [] = refl
  both_parts p (k ∷ ks) =
      let rest = both_parts p ks in
      omega (
        arith,
        rest,
        this (p k),
        sum_by-cons (λ k. cond (p k) (f k) 0) k ks,
        sum_by-cons (λ k. cond (not (p k)) (f k) 0) k ks,
        sum_by-cons f k ks,
      )
    where
      this : (b : Bool) → cond b (f k) 0 + cond (not b) (f k) 0 ≡ f k
      this true = omega arith
      this false = omega arith

  both_counts : (p : ℕ → Bool) (ks : List ℕ) → count_by p ks + count_by (λ k. not (p k)) ks ≡ length ks
  both_counts p [] = refl
  both_counts p (k ∷ ks) =
      let rest = both_counts p ks in
      omega (
        arith,
        rest,
        this (p k),
        sum_by-cons (λ k. cond (p k) 1 0) k ks,
        sum_by-cons (λ k. cond (not (p k)) 1 0) k ks,
      )
    where
      this : (b : Bool) → cond b 1 0 + cond (not b) 1 0 ≡ 1
      this true = refl
      this false = refl

  -- they come to no less than as many of the least
  pub fewest_le : (p : ℕ → Bool) (ks : List ℕ) → fewest (count_by p ks) (map f ks) ≤ passing p ks
  fewest_le p ks =
      let others = passing_le (λ k. not (p k)) ks in
      let count : length (map f ks) - count_by p ks ≡ count_by (λ k. not (p k)) ks = omega (arith, both_counts p ks, length-map ks f) in
      let same = ap (λ n. most n (map f ks)) count in
      omega (arith, others, same, both_parts p ks, sum-map f ks)

  pub member_le : (ks : List ℕ) (k : ℕ) → Among ks k → f k ≤ sum_by f ks
  member_le [] k a = absurd a
  member_le (i ∷ is) k (inl e) = omega (arith, sum_by-cons f i is, ap f e)
  member_le (i ∷ is) k (inr a) = omega (arith, sum_by-cons f i is, member_le is k a)

pub sum_le : (f g : ℕ → ℕ) (ks : List ℕ) → ((k : ℕ) → Among ks k → f k ≤ g k) → sum_by f ks ≤ sum_by g ks
sum_le f g [] h = omega arith
sum_le f g (k ∷ ks) h =
    omega (arith, h k (inl refl), sum_le f g ks (λ i a. h i (inr a)), sum_by-cons f k ks, sum_by-cons g k ks)

pub times_sum : (t : ℕ) (f : ℕ → ℕ) (ks : List ℕ) → t * sum_by f ks ≡ sum_by (λ k. t * f k) ks
times_sum t f [] = mul-zero t
times_sum t f (k ∷ ks) =
    let parts = mul-add t (f k) (sum_by f ks) in
    let whole = ap (λ n. t * n) (sum_by-cons f k ks) in
    omega (arith, whole, parts, times_sum t f ks, sum_by-cons (λ k. t * f k) k ks)

-- what passes is shared by those among which each that passes has one
pub shared : (f : ℕ → ℕ) (p : ℕ → Bool) (q : ℕ → ℕ → Bool) (ws js : List ℕ)
    → ((j : ℕ) → Among js j → p j ≡ true → (w : ℕ) × Among ws w × (q w j ≡ true))
    → sum_by (λ j. cond (p j) (f j) 0) js ≤ sum_by (λ w. sum_by (λ j. cond (q w j) (f j) 0) js) ws
shared f p q ws [] has = omega arith
shared f p q ws (j ∷ js) has =
    let rest = shared f p q ws js (λ i a. has i (inr a)) in
    let both =
    sums_within (λ w. cond (q w j) (f j) 0) (λ w. sum_by (λ j. cond (q w j) (f j) 0) js) (λ w. sum_by (λ j. cond (q w j) (f j) 0) (j ∷ js)) ws
    (λ w _. omega (arith, sum_by-cons (λ j. cond (q w j) (f j) 0) j js)) in
    omega (arith, rest, both, one (has j (inl refl)), sum_by-cons (λ j. cond (p j) (f j) 0) j js)
  where
    one : (p j ≡ true → (w : ℕ) × Among ws w × (q w j ≡ true))
        → cond (p j) (f j) 0 ≤ sum_by (λ w. cond (q w j) (f j) 0) ws
    one has_one = elim (cases_Bool (p j)) [
      | inl t ↦
          let w = has_one t in
          let this = ap (λ b. cond b (f j) 0) t in
          let its = ap (λ b. cond b (f j) 0) w.2 in
          omega (arith, this, its, member_le (λ w. cond (q w j) (f j) 0) ws w.0 w.1)
      | inr t ↦ let this = ap (λ b. cond b (f j) 0) t in omega (arith, this)
    ]

pub some_term : (f : ℕ → ℕ) (xs : List ℕ) → 0 < sum_by f xs → (x : ℕ) × Among xs x × (0 < f x)
some_term f [] h = absurd (omega arith)
some_term f (x ∷ xs) h = elim (cases_lt 0 (f x)) [
  | inl l ↦ (x, inl refl, l)
  | inr l ↦ let r = some_term f xs (omega (arith, sum_by-cons f x xs)) in (r.0, inr r.1, r.2)
]
