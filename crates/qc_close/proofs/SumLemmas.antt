-- The greatest and the least sums of so many numbers: of more of them, and of greater ones.
use Rattle.std.proofs.Common.{[], ◌≡◌, ℕ, zero, suc, ◌+◌, ◌-◌, ◌*◌, ◌<◌, ◌≤◌, max, inl, inr, List, ◌∷◌, length, get_or, map, drop, refl, ap, sym, ◌∙◌, arith, sum}
use Rattle.std.proofs.Math.Nat.{add-mul, suc-mul, zero-mul}
use Rattle.std.proofs.lemmas.Bool.{cases_lt}
use Rattle.std.proofs.lemmas.List.{drop_more, length-drop, length-map}
use Rattle.std.proofs.lemmas.List.Sums.{sum_by-cons}
use Rattle.qc_model.specs.Closed.{fewest, most}

-- all of them, where there are no more
pub most_all : (n : ℕ) (xs : List ℕ) → length xs ≤ n → most n xs ≡ sum xs
most_all zero [] few = refl
most_all zero (x ∷ xs) few = absurd (omega arith)
most_all (suc n) [] few = refl
most_all (suc n) (x ∷ xs) few =
    omega (arith, most_all n xs (omega arith), most_all (suc n) xs (omega arith), sum_by-cons (λ (k : ℕ). k) x xs)

most_rises : (n : ℕ) (xs : List ℕ) → most n xs ≤ most (suc n) xs
most_rises zero xs = omega arith
most_rises (suc n) [] = omega arith
most_rises (suc n) (x ∷ xs) = omega (arith, most_rises n xs, most_rises (suc n) xs)

-- each number more adds no more than the one before it
most_falls : (n : ℕ) (xs : List ℕ) → most n xs + most (suc (suc n)) xs ≤ 2 * most (suc n) xs
most_falls zero [] = omega arith
most_falls zero (x ∷ xs) = omega (arith, most_falls zero xs)
most_falls (suc n) [] = omega arith
most_falls (suc n) (x ∷ xs) = omega (arith, most_falls n xs, most_falls (suc n) xs)

-- more of them come to no less
pub most_by : (n k : ℕ) (xs : List ℕ) → most n xs ≤ most (k + n) xs
most_by n zero xs =
    let e : n ≡ 0 + n = omega arith in
    omega (arith, ap (λ i. most i xs) e)
most_by n (suc k) xs =
    let e : suc (k + n) ≡ suc k + n = omega arith in
    omega (arith, most_by n k xs, most_rises (k + n) xs, ap (λ i. most i xs) e)

pub most_rise : (n m : ℕ) (xs : List ℕ) → n ≤ m → most n xs ≤ most m xs
most_rise n m xs le =
    let e : m - n + n ≡ m = omega arith in
    omega (arith, most_by n (m - n) xs, ap (λ i. most i xs) e)

pub fewest_rise : (n m : ℕ) (xs : List ℕ) → n ≤ m → fewest n xs ≤ fewest m xs
fewest_rise n m xs le = omega (arith, most_rise (length xs - m) (length xs - n) xs (omega arith))

-- numbers that are no less come to no less
pub most_le : {X : Type 0} (f g : X → ℕ) (n : ℕ) (xs : List X) → ((x : X) → f x ≤ g x) → most n (map f xs) ≤ most n (map g xs)
most_le f g zero xs le = omega arith
most_le f g (suc n) [] le = omega arith
most_le f g (suc n) (x ∷ xs) le = omega (arith, le x, most_le f g n xs le, most_le f g (suc n) xs le)

-- ---- the sums with one number more

module _ (sums : List ℕ) (xs : List ℕ) (c : ℕ) (many : length xs ≡ c) (are : (n : ℕ) → n ≤ c → get_or sums n 0 ≡ most n xs)
    (rest : (n : ℕ) → c < n → get_or sums n 0 ≡ 0) where
  falls_of : (n : ℕ) → n < c → get_or sums n 0 + get_or sums (n + 2) 0 ≤ 2 * get_or sums (n + 1) 0
  falls_of n low =
      let one : n + 1 ≡ suc n = omega arith in
      let two : n + 2 ≡ suc (suc n) = omega arith in
      let at = are n (omega (arith, low)) in
      let next = are (n + 1) (omega (arith, low)) ∙ ap (λ i. most i xs) one in
      elim (cases_lt (n + 1) c) [
        | inl less ↦ omega (arith, most_falls n xs, at, next, are (n + 2) (omega (arith, less)) ∙ ap (λ i. most i xs) two)
        | inr last ↦ omega (arith, most_rises n xs, at, next, rest (n + 2) (omega (arith, last)))
      ]

module _ (sums more : List ℕ) (c x : ℕ) (none : get_or more 0 0 ≡ get_or sums 0 0)
    (some : (n : ℕ) → n ≤ c → get_or more (n + 1) 0 ≡ max (x + get_or sums n 0) (get_or sums (n + 1) 0))
    (others : (n : ℕ) → c + 1 < n → get_or more n 0 ≡ get_or sums n 0) where
  at_next : (n : ℕ) → n ≤ c → get_or more (suc n) 0 ≡ max (x + get_or sums n 0) (get_or sums (suc n) 0)
  at_next n low =
      let e : suc n ≡ n + 1 = omega arith in
      omega (arith, some n low, ap (λ k. get_or more k 0) e, ap (λ k. get_or sums k 0) e)

  pub small_more : (m b : ℕ) → x ≤ b → ((n : ℕ) → n ≤ 8 → get_or sums n 0 ≤ m) → (n : ℕ) → n ≤ 8 → get_or more n 0 ≤ m + b
  small_more m b few small zero low = omega (arith, none, small 0 (omega arith))
  small_more m b few small (suc n) low = elim (cases_lt c n) [
    | inl less ↦ omega (arith, others (suc n) (omega (arith, less)), small (suc n) low)
    | inr more ↦ omega (arith, at_next n more, small n (omega arith), small (suc n) low, few)
  ]

  -- those of more numbers than there are stay 0
  pub rest_more : ((n : ℕ) → c < n → get_or sums n 0 ≡ 0) → (n : ℕ) → c + 1 < n → get_or more n 0 ≡ 0
  rest_more rest n above = others n above ∙ rest n (omega (arith, above))

  more_of : (xs : List ℕ) → length xs ≡ c → ((n : ℕ) → n ≤ c → get_or sums n 0 ≡ most n xs)
      → ((n : ℕ) → c < n → get_or sums n 0 ≡ 0) → (n : ℕ) → n ≤ c + 1 → get_or more n 0 ≡ most n (x ∷ xs)
  more_of xs many before rest zero low = omega (arith, none, before 0 (omega arith))
  more_of xs many before rest (suc n) low = elim (cases_lt n c) [
    | inl less ↦
        omega (arith, at_next n (omega arith), before n (omega arith), before (suc n) (omega (arith, less)))
    | inr all ↦
        omega (
          arith,
          at_next n (omega arith),
          before n (omega arith),
          rest (suc n) (omega (arith, all)),
          most_all n xs (omega (arith, many, all)),
          most_all (suc n) xs (omega (arith, many, all)),
        )
  ]

-- of the last c numbers
module _ {X : Type 0} (f : X → ℕ) (xs : List X) where
  abbrev pub AreLast : ℕ → List ℕ → Type 0
  AreLast c sums = (n : ℕ) → n ≤ c → get_or sums n 0 ≡ most n (map f (drop (length xs - c) xs))

  last_many : (c : ℕ) → c ≤ length xs → length (map f (drop (length xs - c) xs)) ≡ c
  last_many c low = length-map (drop (length xs - c) xs) f ∙ length-drop (length xs - c) xs ∙ omega (arith, low)

  pub last_falls : (c : ℕ) (sums : List ℕ) → c ≤ length xs → AreLast c sums → ((n : ℕ) → c < n → get_or sums n 0 ≡ 0)
      → (n : ℕ) → n < c → get_or sums n 0 + get_or sums (n + 2) 0 ≤ 2 * get_or sums (n + 1) 0
  last_falls c sums low are rest = falls_of sums (map f (drop (length xs - c) xs)) c (last_many c low) are rest

  pub last_more : (sums more : List ℕ) (c x : ℕ) → get_or more 0 0 ≡ get_or sums 0 0
      → ((n : ℕ) → n ≤ c → get_or more (n + 1) 0 ≡ max (x + get_or sums n 0) (get_or sums (n + 1) 0))
      → ((n : ℕ) → c + 1 < n → get_or more n 0 ≡ get_or sums n 0)
      → (d : X) → c < length xs → x ≡ f (get_or xs (length xs - 1 - c) d) → AreLast c sums
      → ((n : ℕ) → c < n → get_or sums n 0 ≡ 0) → AreLast (c + 1) more
  last_more sums more c x none some others d low is before rest n few =
      let at : length xs - (c + 1) ≡ length xs - 1 - c = omega arith in
      let next : length xs - 1 - c + 1 ≡ length xs - c = omega (arith, low) in
      more_of sums more c x none some others (map f (drop (length xs - c) xs)) (last_many c (omega (arith, low))) before rest n few
      ∙ ap (λ (y : ℕ). most n (y ∷ map f (drop (length xs - c) xs))) is
      ∙ ap (λ (i : ℕ). most n (f (get_or xs (length xs - 1 - c) d) ∷ map f (drop i xs))) (sym next)
      ∙ ap (λ (ys : List X). most n (map f ys)) (sym (drop_more xs (length xs - 1 - c) d (omega (arith, low))))
      ∙ ap (λ (i : ℕ). most n (map f (drop i xs))) (sym at)

-- the least sum is what the greatest of the others leave of all
module _ {X : Type 0} (f : X → ℕ) (xs : List X) (n k : ℕ) (sums : List ℕ)
    (all : (m : ℕ) → m ≤ length xs → get_or sums m 0 ≡ most m (map f xs)) (low : n ≤ length xs)
    (is : k ≡ length xs) where
  pub leg_fits : get_or sums (k - n) 0 ≤ get_or sums k 0
  leg_fits = omega (arith, all k (omega arith), all (k - n) (omega arith), most_rise (k - n) k (map f xs) (omega arith))

  pub leg_is : get_or sums k 0 - get_or sums (k - n) 0 ≡ fewest n (map f xs)
  leg_is =
      let many = length-map xs f in
      let others : k - n ≡ length (map f xs) - n = omega arith in
      omega (
        arith,
        all k (omega arith),
        all (k - n) (omega arith),
        most_all k (map f xs) (omega arith),
        ap (λ i. most i (map f xs)) others,
      )

-- ---- numbers that are all the same

module _ {X : Type 0} (f : X → ℕ) (b : ℕ) where
  abbrev pub AllAre : List X → Type 0
  AllAre xs = (i : ℕ) (d : X) → i < length xs → f (get_or xs i d) ≡ b

  behind : (x : X) (xs : List X) → AllAre (x ∷ xs) → AllAre xs
  behind x xs all i d low = all (suc i) d (omega arith)

  most_few : (n : ℕ) (xs : List X) → AllAre xs → most n (map f xs) ≤ n * b
  most_few zero xs all = omega arith
  most_few (suc n) [] all = omega arith
  most_few (suc n) (x ∷ xs) all =
      omega (
        arith,
        all 0 x (omega arith),
        most_few n xs (behind x xs all),
        most_few (suc n) xs (behind x xs all),
        suc-mul n b,
      )

  most_many : (n : ℕ) (xs : List X) → AllAre xs → n ≤ length xs → n * b ≤ most n (map f xs)
  most_many zero xs all low = omega (arith, zero-mul b)
  most_many (suc n) [] all low = absurd (omega arith)
  most_many (suc n) (x ∷ xs) all low =
      omega (arith, all 0 x (omega arith), most_many n xs (behind x xs all) (omega arith), suc-mul n b)

  sum_same : (xs : List X) → AllAre xs → sum (map f xs) ≡ length xs * b
  sum_same [] all = omega (arith, zero-mul b)
  sum_same (x ∷ xs) all =
      omega (
        arith,
        all 0 x (omega arith),
        sum_same xs (behind x xs all),
        sum_by-cons (λ (k : ℕ). k) (f x) (map f xs),
        suc-mul (length xs) b,
      )

  pub fewest_same : (n : ℕ) (xs : List X) → AllAre xs → n ≤ length xs → n * b ≡ fewest n (map f xs)
  fewest_same n xs all low =
      let others : length (map f xs) - n ≡ length xs - n = omega (arith, length-map xs f) in
      let parts : length xs ≡ length xs - n + n = omega arith in
      omega (
        arith,
        ap (λ i. most i (map f xs)) others,
        most_few (length xs - n) xs all,
        most_many (length xs - n) xs all (omega arith),
        sum_same xs all,
        ap (λ k. k * b) parts,
        add-mul (length xs - n) n b,
      )
