-- The k-th of sorted ends is the first tick by which k have come.
use Rattle.std.proofs.Common.{◌≡◌, ℕ, zero, suc, ◌+◌, ◌-◌, ◌*◌, ◌<◌, ◌≤◌, ◌∷◌, List, [], length, get_or, Bool, true, false, count_by, nat_le, cond, ap, inl, inr, arith}
use Rattle.std.specs.List.Sorted.{IsPermutation, IsSorted}
use Rattle.std.specs.Ordering.{is_lt, nat_cmp}
use Rattle.std.proofs.lemmas.Bool.{cases_lt, cond_both, le-leb, lt-leb, lt-ltb}
use Rattle.std.proofs.lemmas.Cmp.{nat_cmp_total}
use Rattle.std.proofs.lemmas.List.MinMax.{ranks_by}
use Rattle.std.proofs.lemmas.List.Sums.{sum_by-cons}
use Rattle.std.proofs.lemmas.List.Sorted.{sorted_far, sum_by-IsPermutation}
use Rattle.std.specs.Int.{div_ceil}
use Rattle.std.proofs.Math.Nat.{mul-le-mul_left, mul-le-mul_right}
use Rattle.std.proofs.lemmas.Grind.{div_ceil_times}
use Rattle.qc_odds.specs.Tally.{IsDoneBy, done_at, share}

-- one end more
count_step : (p : ℕ → Bool) (x : ℕ) (xs : List ℕ) → count_by p (x ∷ xs) ≡ cond (p x) 1 0 + count_by p xs
count_step p x xs = sum_by-cons (λ y. cond (p y) 1 0) x xs

count_least : (p : ℕ → Bool) (xs : List ℕ) (k : ℕ) → k ≤ length xs → ((i : ℕ) → i < k → p (get_or xs i 0) ≡ true) → k ≤ count_by p xs
count_least p xs zero few pass = omega arith
count_least p [] (suc k) few pass = absurd (omega arith)
count_least p (x ∷ xs) (suc k) few pass =
    let one : ◌≡◌ {A = ℕ} (cond (p x) 1 0) 1 = ap (λ (b : Bool). cond b 1 0) (pass 0 (omega arith)) in
    let rest = count_least p xs k (omega arith) (λ i low. pass (suc i) (omega arith)) in
    omega (arith, count_step p x xs, one, rest)

count_most : (p : ℕ → Bool) (xs : List ℕ) (k : ℕ) → ((i : ℕ) → k ≤ i → i < length xs → p (get_or xs i 0) ≡ false) → count_by p xs ≤ k
count_most p [] k fail = omega arith
count_most p (x ∷ xs) zero fail =
    let none : ◌≡◌ {A = ℕ} (cond (p x) 1 0) 0 = ap (λ (b : Bool). cond b 1 0) (fail 0 (omega arith) (omega arith)) in
    let rest = count_most p xs zero (λ i from low. fail (suc i) (omega arith) (omega arith)) in
    omega (arith, count_step p x xs, none, rest)
count_most p (x ∷ xs) (suc k) fail =
    let one : cond (p x) 1 0 ≤ 1 = cond_both (p x) 1 0 (λ n. n ≤ 1) (λ _. omega arith) (λ _. omega arith) in
    let rest = count_most p xs k (λ i from low. fail (suc i) (omega arith) (omega arith)) in
    omega (arith, count_step p x xs, one, rest)

-- a share of some runs is one run at the least, and no more than all
share_some : (percent runs : ℕ) → 1 ≤ percent → 1 ≤ runs → 1 ≤ share percent runs
share_some percent runs least some = elim (cases_lt 0 (div_ceil (percent * runs) 100)) [
  | inl some' ↦ some'
  | inr none ↦
      let around = div_ceil_times (percent * runs) 100 (omega arith) in
      let product = mul-le-mul_left percent some in
      absurd (omega (arith, around.0, none, product, least))
]

share_few : (percent runs : ℕ) → percent ≤ 100 → share percent runs ≤ runs
share_few percent runs most = elim (cases_lt runs (div_ceil (percent * runs) 100)) [
  | inl more ↦
      let around = div_ceil_times (percent * runs) 100 (omega arith) in
      let product = mul-le-mul_right runs most in
      absurd (omega (arith, around.1, more, product))
  | inr fits ↦ fits
]

module _ (ends : List ℕ) (sorted : IsSorted nat_cmp ends) (k : ℕ) (some : 1 ≤ k) (few : k ≤ length ends) where
  rises : (i j : ℕ) → i ≤ j → j < length ends → get_or ends i 0 ≤ get_or ends j 0
  rises i j le low = elim (cases_lt (get_or ends j 0) (get_or ends i 0)) [
    | inl down ↦
        let far = sorted_far (λ x y. is_lt (nat_cmp x y)) (ranks_by nat_cmp_total (λ (x : ℕ). x)) ends sorted i j 0 le low in
        absurd (cc (rw (lt-ltb (get_or ends j 0) (get_or ends i 0) down) at far))
    | inr up ↦ up
  ]

  pub kth_is : IsDoneBy ends k (get_or ends (k - 1) 0)
  kth_is = record {
    enough = count_least _ ends k few (λ i low. le-leb (get_or ends i 0) (get_or ends (k - 1) 0) (rises i (k - 1) (omega arith) (omega arith)));
    first = λ sooner lt.
        let most = count_most (λ end. nat_le end sooner) ends (k - 1) (λ i from low. lt-leb (get_or ends i 0) sooner (let up = rises (k - 1) i from low in omega arith)) in
        omega (arith, most);
  }

-- places don't matter
pub done_moved : (xs ys : List ℕ) (k tick : ℕ) → IsPermutation xs ys → IsDoneBy ys k tick → IsDoneBy xs k tick
done_moved xs ys k tick moved is = record {
  enough = omega (arith, is.enough, sum_by-IsPermutation (λ end. cond (nat_le end tick) 1 0) xs ys moved);
  first = λ sooner lt. omega (arith, is.first sooner lt, sum_by-IsPermutation (λ end. cond (nat_le end sooner) 1 0) xs ys moved);
}

-- of sorted ends, and of the same ones in any order
pub done_of : (xs ys : List ℕ) → IsPermutation xs ys → IsSorted nat_cmp ys → (percent : ℕ) → 1 ≤ percent → percent ≤ 100 → 1 ≤ length ys
    → IsDoneBy xs (share percent (length ys)) (done_at ys percent)
done_of xs ys moved sorted percent least most some =
    done_moved xs ys (share percent (length ys)) (done_at ys percent) moved
    (kth_is ys sorted (share percent (length ys)) (share_some percent (length ys) least some) (share_few percent (length ys) most))
