-- How many numbers of a range pass a test, and which of them comes first.
use Rattle.std.proofs.Common.{◌≡◌, ◌≢◌, ℕ, zero, suc, ◌+◌, ◌<◌, ◌≤◌, Bool, true, false, cond, List, [], ◌∷◌, length, slice_index_or, refl, ap, sym, ◌∙◌, inl, inr, ◌⊎◌, arith}
use Rattle.std.specs.List.{count_by, range_with_len}
use Rattle.std.proofs.lemmas.Bool.{cases_Bool, cases_eq, cases_lt, both_ways}
use Rattle.std.proofs.lemmas.List.Sums.{sum_by-cons}

abbrev pub tally : Bool → ℕ
tally b = cond b 1 0

count_next : (p : ℕ → Bool) (a n : ℕ)
    → count_by p (range_with_len a (suc n)) ≡ tally (p a) + count_by p (range_with_len (a + 1) n)
count_next p a n = sum_by-cons (λ x. cond (p x) 1 0) a (range_with_len (a + 1) n)

-- the tests give the same, and so as many pass
pub count_same : (p q : ℕ → Bool) (a n : ℕ) → ((i : ℕ) → a ≤ i → i < a + n → p i ≡ q i)
    → count_by p (range_with_len a n) ≡ count_by q (range_with_len a n)
count_same p q a zero same = refl
count_same p q a (suc n) same =
    let rest = count_same p q (a + 1) n (λ i low high. same i (omega arith) (omega arith)) in
    omega (arith, count_next p a n, count_next q a n, ap tally (same a (omega arith) (omega arith)), rest)

-- none passes
pub count_none : (p : ℕ → Bool) (a n : ℕ) → ((i : ℕ) → a ≤ i → i < a + n → p i ≡ false)
    → count_by p (range_with_len a n) ≡ 0
count_none p a zero fails = refl
count_none p a (suc n) fails =
    let rest = count_none p (a + 1) n (λ i low high. fails i (omega arith) (omega arith)) in
    omega (arith, count_next p a n, ap tally (fails a (omega arith) (omega arith)), rest)

-- where none passes, this one doesn't
pub none_passes : (p : ℕ → Bool) (a n i : ℕ) → a ≤ i → i < a + n → count_by p (range_with_len a n) ≡ 0 → p i ≡ false
none_passes p a zero i low high none = absurd (omega arith)
none_passes p a (suc n) i low high none = elim (cases_eq a i) [
  | inl e ↦ elim (cases_Bool (p a)) [
    | inl passes ↦ absurd (omega (arith, count_next p a n, ap tally passes))
    | inr fails ↦ ap p (sym e) ∙ fails
  ]
  | inr differ ↦ none_passes p (a + 1) n i (omega (arith, differ)) (omega arith) (omega (arith, count_next p a n))
]

-- one fewer passes
pub count_less_one : (p q : ℕ → Bool) (i a n : ℕ) → a ≤ i → i < a + n → p i ≡ true → q i ≡ false
    → ((j : ℕ) → j ≢ i → p j ≡ q j) → count_by p (range_with_len a n) ≡ count_by q (range_with_len a n) + 1
count_less_one p q i a zero low high passed failed same = absurd (omega arith)
count_less_one p q i a (suc n) low high passed failed same = elim (cases_eq a i) [
  | inl e ↦
      let in_p : p a ≡ true = ap p e ∙ passed in
      let in_q : q a ≡ false = ap q e ∙ failed in
      let rest = count_same p q (a + 1) n (λ j above _. same j (λ s. absurd (omega arith))) in
      omega (arith, count_next p a n, count_next q a n, ap tally in_p, ap tally in_q, rest)
  | inr differ ↦
      let rest = count_less_one p q i (a + 1) n (omega (arith, differ)) (omega arith) passed failed same in
      omega (arith, count_next p a n, count_next q a n, ap tally (same a differ), rest)
]

-- an element of a list that passes, where there is one
pub record Passes {X : Type 0} (p : X → Bool) (xs : List X) (d : X) : Type 0 where
  pub at : ℕ
  pub inside : at < length xs
  pub passes : p (slice_index_or xs at d) ≡ true

pub some_passes : {X : Type 0} (p : X → Bool) (xs : List X) (d : X) → 0 < count_by p xs → Passes p xs d
some_passes p [] d some = absurd (omega arith)
some_passes p (x ∷ xs) d some = elim (cases_Bool (p x)) [
  | inl here ↦ record { at = 0; inside = omega arith; passes = here }
  | inr not ↦
      let rest = some_passes p xs d (omega (arith, sum_by-cons (λ y. cond (p y) 1 0) x xs, ap tally not)) in
      record { at = suc rest.at; inside = omega (arith, rest.inside); passes = rest.passes }
]

-- where no element of a list passes, this one doesn't
pub none_in : {X : Type 0} (p : X → Bool) (xs : List X) (k : ℕ) (d : X) → k < length xs → count_by p xs ≡ 0
    → p (slice_index_or xs k d) ≡ false
none_in p [] k d inside none = absurd (omega arith)
none_in p (x ∷ xs) zero d inside none = elim (cases_Bool (p x)) [
  | inl here ↦ absurd (omega (arith, sum_by-cons (λ y. cond (p y) 1 0) x xs, ap tally here))
  | inr not ↦ not
]
none_in p (x ∷ xs) (suc k) d inside none =
    none_in p xs k d (omega arith) (omega (arith, sum_by-cons (λ y. cond (p y) 1 0) x xs))

-- of the numbers below n that pass one at which the function is least
pub record IsLeastOf (p : ℕ → Bool) (f : ℕ → ℕ) (n : ℕ) : Type 0 where
  pub at : ℕ
  pub inside : at < n
  pub passes : p at ≡ true
  pub least : (i : ℕ) → i < n → p i ≡ true → f at ≤ f i

least_below : (p : ℕ → Bool) (f : ℕ → ℕ) (n : ℕ) → ((i : ℕ) → i < n → p i ≡ false) ⊎ IsLeastOf p f n
least_below p f zero = inl (λ i low. absurd (omega arith))
least_below p f (suc n) = elim (cases_Bool (p n)) [
  | inr not ↦ elim (least_below p f n) [
    | inl none ↦ inl (λ i low. elim (cases_eq n i) [
      | inl e ↦ ap p (sym e) ∙ not
      | inr differ ↦ none i (omega arith)
    ])
    | inr best ↦ inr (record {
      at = best.at;
      inside = omega (arith, best.inside);
      passes = best.passes;
      least = λ i low h. elim (cases_eq n i) [
        | inl e ↦ absurd (both_ways (p n) not (ap p e ∙ h))
        | inr differ ↦ best.least i (omega arith) h
      ];
    })
  ]
  | inl here ↦ elim (least_below p f n) [
    | inl none ↦ inr (record {
      at = n;
      inside = omega arith;
      passes = here;
      least = λ i low h. elim (cases_eq n i) [
        | inl e ↦ omega (arith, ap f e)
        | inr differ ↦ absurd (both_ways (p i) (none i (omega arith)) h)
      ];
    })
    | inr best ↦ elim (cases_lt (f n) (f best.at)) [
      | inl less ↦ inr (record {
        at = n;
        inside = omega arith;
        passes = here;
        least = λ i low h. elim (cases_eq n i) [
          | inl e ↦ omega (arith, ap f e)
          | inr differ ↦ omega (arith, best.least i (omega arith) h)
        ];
      })
      | inr more ↦ inr (record {
        at = best.at;
        inside = omega (arith, best.inside);
        passes = best.passes;
        least = λ i low h. elim (cases_eq n i) [
          | inl e ↦ omega (arith, ap f e)
          | inr differ ↦ best.least i (omega arith) h
        ];
      })
    ]
  ]
]

pub least_of : (p : ℕ → Bool) (f : ℕ → ℕ) (n k : ℕ) → k < n → p k ≡ true → IsLeastOf p f n
least_of p f n k low passes = elim (least_below p f n) [
  | inl none ↦ absurd (both_ways (p k) (none k low) passes)
  | inr best ↦ best
]
