-- Paths along the rail: how far they go, and what of that lies above a place, below one and between them.
use Rattle.std.proofs.Common.{◌≡◌, ℕ, zero, suc, ◌+◌, ◌-◌, ◌*◌, ◌<◌, ◌≤◌, min, inl, inr, ℤ, pos, ◌+ℤ◌, ◌*ℤ◌, ◌≤ℤ◌, refl, ap, sym, ◌∙◌, arith, add-one}
use Rattle.std.proofs.Math.Nat.{mul-add, mul-zero}
use Rattle.std.proofs.lemmas.Bool.{cases_lt}
use Rattle.std.proofs.lemmas.Int.{by_lt_z, int_max_is, int_min_is, ints}
use Rattle.std.specs.Int.{int_max, int_min}
use Rattle.qc_model.specs.Bays.{bays_between, bays_up}
use Rattle.qc_model.proofs.Bays.{bays}
use Rattle.qc_model.proofs.Scaled.{scaled_le, scaled_sum}

-- ---- how far a path goes

-- in its first n steps
abbrev pub moved : (ℕ → ℤ) → ℕ → ℕ
moved x zero = 0
moved x (suc n) = moved x n + bays_between (x n) (x (n + 1))

none_between : (a b : ℤ) → a ≡ b → bays_between a b ≡ 0
none_between a b e = omega (arith, bays, e)

pub triangle : (a b c : ℤ) → bays_between a c ≤ bays_between a b + bays_between b c
triangle a b c = omega (arith, bays)

-- at least as far as its ends lie from each other
pub goes : (x : ℕ → ℤ) (m n : ℕ) → m ≤ n → moved x m + bays_between (x m) (x n) ≤ moved x n
goes x m zero low =
    let e : m ≡ 0 = omega arith in
    let none = none_between (x m) (x 0) (ap x e) in
    omega (arith, none, ap (moved x) e)
goes x m (suc n) low = elim (cases_lt n m) [
  | inl new ↦
      let e : m ≡ suc n = omega arith in
      let none = none_between (x m) (x (suc n)) (ap x e) in
      omega (arith, none, ap (moved x) e)
  | inr old ↦
      let before = goes x m n old in
      let next = ap (λ k. bays_between (x n) (x k)) (add-one n) in
      omega (arith, before, triangle (x m) (x n) (x (suc n)), next)
]

-- no further than one a step
pub goes_slowly : (x : ℕ → ℤ) (m n : ℕ) → m ≤ n → ((k : ℕ) → k < n → bays_between (x k) (x (k + 1)) ≤ 1)
    → moved x n ≤ moved x m + (n - m)
goes_slowly x m zero low steps = let e : m ≡ 0 = omega arith in omega (arith, ap (moved x) e)
goes_slowly x m (suc n) low steps = elim (cases_lt n m) [
  | inl new ↦ let e : m ≡ suc n = omega arith in omega (arith, ap (moved x) e)
  | inr old ↦
      let before = goes_slowly x m n old (λ k less. steps k (omega arith)) in
      omega (arith, before, steps n (omega arith))
]

-- not at all while it stays
pub goes_nowhere : (x : ℕ → ℤ) (m n : ℕ) → m ≤ n → ((k : ℕ) → m ≤ k → k < n → x k ≡ x (k + 1))
    → moved x n ≡ moved x m
goes_nowhere x m zero low stays = let e : m ≡ 0 = omega arith in sym (ap (moved x) e)
goes_nowhere x m (suc n) low stays = elim (cases_lt n m) [
  | inl new ↦ let e : m ≡ suc n = omega arith in sym (ap (moved x) e)
  | inr old ↦
      let before = goes_nowhere x m n old (λ k from less. stays k from (omega arith)) in
      omega (arith, before, none_between (x n) (x (n + 1)) (stays n old (omega arith)))
]

-- the same of a number that rises and falls
abbrev pub swung : (ℕ → ℕ) → ℕ → ℕ
swung f zero = 0
swung f (suc n) = swung f n + ((f n - f (n + 1)) + (f (n + 1) - f n))

pub swings : (f : ℕ → ℕ) (n : ℕ) → f 0 ≡ 0 → f n ≤ swung f n
swings f zero none = omega (arith, none)
swings f (suc n) none = omega (arith, swings f n none, ap f (add-one n))

-- from 0 it rises to each of its values, and falls from there to its last
pub swings_over : (f : ℕ → ℕ) (k n : ℕ) → k ≤ n → f 0 ≡ 0 → 2 * f k ≤ swung f n + f n
swings_over f k zero low none = let e : k ≡ 0 = omega arith in omega (arith, none, ap f e)
swings_over f k (suc n) low none = elim (cases_lt n k) [
  | inl new ↦
      let e : k ≡ suc n = omega arith in
      omega (arith, swings f (suc n) none, ap f e)
  | inr old ↦ omega (arith, swings_over f k n old none, ap f (add-one n))
]

pub swings_to : (f : ℕ → ℕ) (k n : ℕ) → k ≤ n → f 0 ≡ 0 → f k ≤ swung f n
swings_to f k zero low none = let e : k ≡ 0 = omega arith in omega (arith, none, ap f e)
swings_to f k (suc n) low none = elim (cases_lt n k) [
  | inl new ↦
      let e : k ≡ suc n = omega arith in
      omega (arith, swings f (suc n) none, ap f e)
  | inr old ↦ omega (arith, swings_to f k n old none)
]

-- ---- what of a step lies between two places, above and below

pub min_second : (h x : ℤ) → x ≤ℤ h → int_min h x ≡ x
min_second h x le = omega (arith, ints, int_min_is h x)

pub min_first : (h x : ℤ) → h ≤ℤ x → int_min h x ≡ h
min_first h x le = omega (arith, ints, int_min_is h x)

pub max_second : (l x : ℤ) → l ≤ℤ x → int_max l x ≡ x
max_second l x le = omega (arith, ints, int_max_is l x)

pub max_first : (l x : ℤ) → x ≤ℤ l → int_max l x ≡ l
max_first l x le = omega (arith, ints, int_max_is l x)

-- how much two numbers differ
abbrev pub differ : ℕ → ℕ → ℕ
differ m n = (m - n) + (n - m)

top_parts : (h x y : ℤ)
    → bays_between x y ≡ bays_between (int_min h x) (int_min h y) + differ (bays_up h x) (bays_up h y)
top_parts h x y = by_lt_z h x
    (λ over. by_lt_z h y
    (λ also.
    let e = min_first h x (omega (arith, ints)) in
    let f = min_first h y (omega (arith, ints)) in
    let none = none_between (int_min h x) (int_min h y) (e ∙ sym f) in
    let all : bays_between x y ≡ differ (bays_up h x) (bays_up h y) = omega (arith, bays, over, also) in
    omega (arith, none, all))
    (λ under.
    let e = min_first h x (omega (arith, ints)) in
    let f = min_second h y under in
    let same = ap (λ a. bays_between a (int_min h y)) e ∙ ap (λ b. bays_between h b) f in
    let all : bays_between x y ≡ bays_between h y + differ (bays_up h x) (bays_up h y) = omega (arith, bays, over, under) in
    omega (arith, same, all)))
    (λ under. by_lt_z h y
    (λ over.
    let e = min_second h x under in
    let f = min_first h y (omega (arith, ints)) in
    let same = ap (λ a. bays_between a (int_min h y)) e ∙ ap (λ b. bays_between x b) f in
    let all : bays_between x y ≡ bays_between x h + differ (bays_up h x) (bays_up h y) = omega (arith, bays, over, under) in
    omega (arith, same, all))
    (λ also.
    let e = min_second h x under in
    let f = min_second h y also in
    let same = ap (λ a. bays_between a (int_min h y)) e ∙ ap (λ b. bays_between x b) f in
    let none : differ (bays_up h x) (bays_up h y) ≡ 0 = omega (arith, bays, under, also) in
    omega (arith, same, none)))

bottom_parts : (l x y : ℤ)
    → bays_between x y ≡ bays_between (int_max l x) (int_max l y) + differ (bays_up x l) (bays_up y l)
bottom_parts l x y = by_lt_z x l
    (λ under. by_lt_z y l
    (λ also.
    let e = max_first l x (omega (arith, ints)) in
    let f = max_first l y (omega (arith, ints)) in
    let none = none_between (int_max l x) (int_max l y) (e ∙ sym f) in
    let all : bays_between x y ≡ differ (bays_up x l) (bays_up y l) = omega (arith, bays, under, also) in
    omega (arith, none, all))
    (λ over.
    let e = max_first l x (omega (arith, ints)) in
    let f = max_second l y over in
    let same = ap (λ a. bays_between a (int_max l y)) e ∙ ap (λ b. bays_between l b) f in
    let all : bays_between x y ≡ bays_between l y + differ (bays_up x l) (bays_up y l) = omega (arith, bays, over, under) in
    omega (arith, same, all)))
    (λ over. by_lt_z y l
    (λ under.
    let e = max_second l x over in
    let f = max_first l y (omega (arith, ints)) in
    let same = ap (λ a. bays_between a (int_max l y)) e ∙ ap (λ b. bays_between x b) f in
    let all : bays_between x y ≡ bays_between x l + differ (bays_up x l) (bays_up y l) = omega (arith, bays, over, under) in
    omega (arith, same, all))
    (λ also.
    let e = max_second l x over in
    let f = max_second l y also in
    let same = ap (λ a. bays_between a (int_max l y)) e ∙ ap (λ b. bays_between x b) f in
    let none : differ (bays_up x l) (bays_up y l) ≡ 0 = omega (arith, bays, over, also) in
    omega (arith, same, none)))

-- a place held between two others
abbrev pub cut : ℤ → ℤ → ℤ → ℤ
cut l h x = int_max l (int_min h x)

module _ (l h : ℤ) (order : l ≤ℤ h) where
  under_same : (x : ℤ) → bays_up (int_min h x) l ≡ bays_up x l
  under_same x = by_lt_z h x
      (λ over.
      let e = ap (λ a. bays_up a l) (min_first h x (omega (arith, ints))) in
      let none : bays_up h l ≡ 0 = omega (arith, bays, order) in
      let also : bays_up x l ≡ 0 = omega (arith, bays, order, over) in
      omega (arith, e, none, also))
      (λ under. ap (λ a. bays_up a l) (min_second h x under))

  step_parts : (x y : ℤ) → bays_between x y
      ≡ bays_between (cut l h x) (cut l h y) + differ (bays_up h x) (bays_up h y) + differ (bays_up x l) (bays_up y l)
  step_parts x y =
      let top = top_parts h x y in
      let bottom = bottom_parts l (int_min h x) (int_min h y) in
      let same = ap (λ n. differ n (bays_up (int_min h y) l)) (under_same x) ∙ ap (λ n. differ (bays_up x l) n) (under_same y) in
      omega (arith, top, bottom, same)

  -- a path goes as far as what of it lies between two places, above and below
  moved_parts : (x : ℕ → ℤ) (n : ℕ) → moved x n
      ≡ moved (λ k. cut l h (x k)) n + swung (λ k. bays_up h (x k)) n + swung (λ k. bays_up (x k) l) n
  moved_parts x zero = refl
  moved_parts x (suc n) = omega (arith, moved_parts x n, step_parts (x n) (x (n + 1)))

  -- ---- a path that makes a trip between two places, and comes to others above and below

  pub cut_above : (x : ℤ) → 0 < bays_up h x → (cut l h x ≡ h) × (bays_up x l ≡ 0)
  cut_above x some =
      let over : h ≤ℤ x = omega (arith, bays, some) in
      let e = min_first h x over in
      (ap (int_max l) e ∙ max_second l h order, omega (arith, bays, over, order))

  pub cut_below : (x : ℤ) → 0 < bays_up x l → (cut l h x ≡ l) × (bays_up h x ≡ 0)
  cut_below x some =
      let under : x ≤ℤ l = omega (arith, bays, some) in
      let low : x ≤ℤ h = omega (arith, ints, under, order) in
      let e = min_second h x low in
      (ap (int_max l) e ∙ max_first l x under, omega (arith, bays, low))

  pub cut_at : (x : ℤ) → l ≤ℤ x → x ≤ℤ h → cut l h x ≡ x
  cut_at x low high = ap (int_max l) (min_second h x high) ∙ max_second l x low

  pub cut_over : (z x : ℤ) → z ≤ℤ x → z ≤ℤ h → z ≤ℤ cut l h x
  cut_over z x le high = omega (arith, ints, int_max_is l (int_min h x), int_min_is h x, le, high)

  pub cut_under : (z x : ℤ) → x ≤ℤ z → l ≤ℤ z → cut l h x ≤ℤ z
  cut_under z x le low = omega (arith, ints, int_max_is l (int_min h x), int_min_is h x, le, low)

  module _ (x : ℕ → ℤ) (end done : ℕ) (last : ℤ) (last_low : l ≤ℤ last) (last_high : last ≤ℤ h)
      (begins_low : l ≤ℤ x 0) (begins_high : x 0 ≤ℤ h)
      (trip : done + bays_between (cut l h (x end)) last ≤ moved (λ k. cut l h (x k)) end) where
    abbrev above : ℕ → ℕ
    above k = bays_up h (x k)

    abbrev below : ℕ → ℕ
    below k = bays_up (x k) l

    -- to two places there and back, or to one of them at last
    pub goes_beyond : (low high : ℤ) (k i : ℕ) → k ≤ end → i ≤ end
        → bays_up h high ≤ bays_up h (x k) → bays_up low l ≤ bays_up (x i) l
        → done
        + min (2 * bays_up h high + 2 * bays_up low l)
        (min (bays_up last high + 2 * bays_up low l) (2 * bays_up h high + bays_up low last))
        ≤ moved x end
    goes_beyond low high k i k_in i_in up down =
        let all = moved_parts x end in
        let none_above : above 0 ≡ 0 = omega (arith, bays, begins_high) in
        let none_below : below 0 ≡ 0 = omega (arith, bays, begins_low) in
        let over = swings_over above k end k_in none_above in
        let under = swings_over below i end i_in none_below in
        let up_to = swings_to above k end k_in none_above in
        let down_to = swings_to below i end i_in none_below in
        elim (cases_lt 0 (above end)) [
          | inl ends_above ↦
              let at = cut_above (x end) ends_above in
              let e = ap (λ y. bays_between y last) at.0 in
              let far : bays_up last high ≤ bays_between h last + bays_up h high = omega (arith, bays, last_high) in
              omega (arith, all, trip, e, far, at.1, up_to, under, up, down)
          | inr not_above ↦ elim (cases_lt 0 (below end)) [
            | inl ends_below ↦
                let at = cut_below (x end) ends_below in
                let e = ap (λ y. bays_between y last) at.0 in
                let far : bays_up low last ≤ bays_between l last + bays_up low l = omega (arith, bays, last_low) in
                omega (arith, all, trip, e, far, over, down_to, up, down)
            | inr not_below ↦ omega (arith, all, trip, over, under, up, down)
          ]
        ]

-- ---- the same in ticks

pub scaled_up : (n : ℕ) (a b : ℤ) → n * bays_up a b ≡ bays_up (pos n *ℤ a) (pos n *ℤ b)
scaled_up n a b = by_lt_z b a
    (λ down.
    let none : bays_up a b ≡ 0 = omega (arith, bays, down) in
    let le = scaled_le n b a (omega (arith, ints, down)) in
    let none_too : bays_up (pos n *ℤ a) (pos n *ℤ b) ≡ 0 = omega (arith, bays, le) in
    ap (λ k. n * k) none ∙ mul-zero n ∙ sym none_too)
    (λ up.
    let k = bays_up a b in
    let e : b ≡ (a +ℤ pos (bays_up a b)) = omega (arith, bays, up) in
    let f = scaled_sum n b a (pos (bays_up a b)) e in
    times n (bays_up a b) (pos n *ℤ a) (pos n *ℤ b) f)
  where
    times : (n k : ℕ) (u v : ℤ) → v ≡ (u +ℤ (pos n *ℤ pos k)) → n * k ≡ bays_up u v
    times n k u v e = omega (arith, bays, e)

pub scaled_between : (n : ℕ) (a b : ℤ) → n * bays_between a b ≡ bays_between (pos n *ℤ a) (pos n *ℤ b)
scaled_between n a b = omega (arith, mul-add n (bays_up a b) (bays_up b a), scaled_up n a b, scaled_up n b a)
