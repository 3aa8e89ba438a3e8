-- What a list holds, by recursion on it.
use Rattle.std.proofs.Common.{[], ◌≡◌, ℕ, zero, suc, ◌+◌, ◌<◌, ◌≤◌, ◌⊎◌, inl, inr, Bool, true, List, ◌∷◌, ◌++◌, Contains, map, refl, ap, sym, subst, ◌∙◌, arith, filter}
use Rattle.std.proofs.lemmas.Bool.{and_parts, and_from, cases_lt, cond_both, false≢true, or_cases, or_left, or_right}
use Rattle.std.specs.List.{flat_map, list_all, list_any, range_with_len}
use Rattle.qc_model.specs.Nodes.{least}

-- x is one of these
abbrev pub Among : {X : Type 0} → List X → X → Type 0
Among [] x = ⊥
Among (y ∷ ys) x = (y ≡ x) ⊎ Among ys x

pub among_range : (k a n : ℕ) → a ≤ k → k < a + n → Among (range_with_len a n) k
among_range k a zero low high = absurd (omega arith)
among_range k a (suc n) low high = elim (cases_lt a k) [
  | inl l ↦ inr (among_range k (a + 1) n (omega arith) (omega arith))
  | inr l ↦ inl (omega arith)
]

pub range_among : (k a n : ℕ) → Among (range_with_len a n) k → (a ≤ k) × (k < a + n)
range_among k a zero h = absurd h
range_among k a (suc n) (inl e) = (omega arith, omega arith)
range_among k a (suc n) (inr h) = let r = range_among k (a + 1) n h in (omega (arith, r.0), omega (arith, r.1))

module _ {X : Type 0} (p : X → Bool) where
  pub all_at : (xs : List X) (x : X) → Among xs x → list_all p xs ≡ true → p x ≡ true
  all_at [] x a t = absurd a
  all_at (y ∷ ys) x (inl e) t = ap p (sym e) ∙ (and_parts (p y) (list_all p ys) t).0
  all_at (y ∷ ys) x (inr a) t = all_at ys x a (and_parts (p y) (list_all p ys) t).1

  pub all_from : (xs : List X) → ((x : X) → Among xs x → p x ≡ true) → list_all p xs ≡ true
  all_from [] h = refl
  all_from (y ∷ ys) h = and_from (p y) (list_all p ys) (h y (inl refl)) (all_from ys (λ x a. h x (inr a)))

  pub any_from : (xs : List X) (x : X) → Among xs x → p x ≡ true → list_any p xs ≡ true
  any_from [] x a t = absurd a
  any_from (y ∷ ys) x (inl e) t = or_left (p y) (list_any p ys) (ap p e ∙ t)
  any_from (y ∷ ys) x (inr a) t = or_right (p y) (list_any p ys) (any_from ys x a t)

  -- some one passes
  pub any_at : (xs : List X) → list_any p xs ≡ true → (x : X) × Among xs x × (p x ≡ true)
  any_at [] t = absurd (false≢true t)
  any_at (y ∷ ys) t = elim (or_cases (p y) (list_any p ys) t) [
    | inl here ↦ (y, inl refl, here)
    | inr there ↦ let r = any_at ys there in (r.0, inr r.1, r.2)
  ]

  pub among_filter : (xs : List X) (x : X) → Among xs x → p x ≡ true → Among (filter p xs) x
  among_filter [] x a t = absurd a
  among_filter (y ∷ ys) x (inl e) t =
      cond_both (p y) (y ∷ filter p ys) (filter p ys) (λ zs. Among zs x)
      (λ _. inl e)
      (λ fails. absurd (false≢true (sym fails ∙ ap p e ∙ t)))
  among_filter (y ∷ ys) x (inr a) t =
      cond_both (p y) (y ∷ filter p ys) (filter p ys) (λ zs. Among zs x)
      (λ _. inr (among_filter ys x a t))
      (λ _. among_filter ys x a t)

  pub filter_among : (xs : List X) (x : X) → Among (filter p xs) x → Among xs x × (p x ≡ true)
  filter_among [] x a = absurd a
  filter_among (y ∷ ys) x a =
      let rest = λ (b : Among (filter p ys) x). filter_among ys x b in
      cond_both (p y) (y ∷ filter p ys) (filter p ys) (λ zs. Among zs x → Among (y ∷ ys) x × (p x ≡ true))
      (λ passes b. first ys y x passes rest b)
      (λ _ b. let r = rest b in (inr r.0, r.1)) a
    where
      first : (ys : List X) (y x : X) → p y ≡ true → (Among (filter p ys) x → Among ys x × (p x ≡ true))
          → Among (y ∷ filter p ys) x → Among (y ∷ ys) x × (p x ≡ true)
      first ys y x passes rest (inl e) = (inl e, ap p (sym e) ∙ passes)
      first ys y x passes rest (inr a) = let r = rest a in (inr r.0, r.1)

module _ {X Y : Type 0} where
  pub among_map : (f : X → Y) (xs : List X) (x : X) → Among xs x → Among (map f xs) (f x)
  among_map f [] x a = absurd a
  among_map f (y ∷ ys) x (inl e) = inl (ap f e)
  among_map f (y ∷ ys) x (inr a) = inr (among_map f ys x a)

  pub map_among : (f : X → Y) (xs : List X) (z : Y) → Among (map f xs) z → (x : X) × Among xs x × (f x ≡ z)
  map_among f [] z a = absurd a
  map_among f (y ∷ ys) z (inl e) = (y, inl refl, e)
  map_among f (y ∷ ys) z (inr a) = let r = map_among f ys z a in (r.0, inr r.1, r.2)

pub among_first : {X : Type 0} (xs ys : List X) (x : X) → Among xs x → Among (xs ++ ys) x
among_first [] ys x a = absurd a
among_first (z ∷ zs) ys x (inl e) = inl e
among_first (z ∷ zs) ys x (inr a) = inr (among_first zs ys x a)

pub among_second : {X : Type 0} (xs ys : List X) (x : X) → Among ys x → Among (xs ++ ys) x
among_second [] ys x a = a
among_second (z ∷ zs) ys x a = inr (among_second zs ys x a)

pub among_either : {X : Type 0} (xs ys : List X) (x : X) → Among (xs ++ ys) x → Among xs x ⊎ Among ys x
among_either [] ys x a = inr a
among_either (z ∷ zs) ys x (inl e) = inl (inl e)
among_either (z ∷ zs) ys x (inr a) = elim (among_either zs ys x a) [ inl h ↦ inl (inr h) | inr h ↦ inr h ]

module _ {X Y : Type 0} (f : X → List Y) where
  pub among_flat : (xs : List X) (x : X) (y : Y) → Among xs x → Among (f x) y → Among (flat_map f xs) y
  among_flat [] x y a b = absurd a
  among_flat (z ∷ zs) x y (inl e) b =
      among_first (f z) (flat_map f zs) y (subst (λ (u : X). Among (f u) y) (sym e) b)
  among_flat (z ∷ zs) x y (inr a) b = among_second (f z) (flat_map f zs) y (among_flat zs x y a b)

  pub flat_among : (xs : List X) (y : Y) → Among (flat_map f xs) y → (x : X) × Among xs x × Among (f x) y
  flat_among [] y a = absurd a
  flat_among (z ∷ zs) y a = elim (among_either (f z) (flat_map f zs) y a) [
    | inl here ↦ (z, inl refl, here)
    | inr there ↦ let r = flat_among zs y there in (r.0, inr r.1, r.2)
  ]

-- as std says it
pub contains_of : (xs : List ℕ) (x : ℕ) → Among xs x → Contains xs x
contains_of [] x a = absurd a
contains_of (y ∷ ys) x (inl e) = (0, omega arith, e)
contains_of (y ∷ ys) x (inr a) = let c = contains_of ys x a in (suc c.0, omega (arith, c.1), c.2)

-- the least of some numbers is at most each of them, and at least what all are at least
pub least_at : (xs : List ℕ) (x : ℕ) → Among xs x → least xs ≤ x
least_at [] x a = absurd a
least_at (y ∷ []) x (inl e) = omega arith
least_at (y ∷ []) x (inr a) = absurd a
least_at (y ∷ z ∷ zs) x (inl e) = omega arith
least_at (y ∷ z ∷ zs) x (inr a) = omega (arith, least_at (z ∷ zs) x a)

pub least_from : (m x : ℕ) (xs : List ℕ) → Among xs x → ((y : ℕ) → Among xs y → m ≤ y) → m ≤ least xs
least_from m x [] a h = absurd a
least_from m x (y ∷ []) a h = h y (inl refl)
least_from m x (y ∷ z ∷ zs) a h =
    omega (arith, h y (inl refl), least_from m z (z ∷ zs) (inl refl) (λ u b. h u (inr b)))

-- the first of some numbers in an order
module _ (R : ℕ → ℕ → Type 0) (either : (i j : ℕ) → R i j ⊎ R j i) (through : (i j k : ℕ) → R i j → R j k → R i k) where
  pub record First (is : List ℕ) : Type 0 where
    pub one : ℕ
    pub is_one : Among is one
    pub first : (j : ℕ) → Among is j → R one j

  itself : (i : ℕ) → R i i
  itself i = elim (either i i) [ inl h ↦ h | inr h ↦ h ]

  pub first_of : (i : ℕ) (is : List ℕ) → First (i ∷ is)
  first_of i [] = record { one = i; is_one = inl refl; first = alone }
    where
      alone : (j : ℕ) → Among (i ∷ []) j → R i j
      alone j (inl e) = subst (R i) e (itself i)
      alone j (inr a) = absurd a
  first_of i (k ∷ ks) =
      let rest = first_of k ks in
      elim (either i rest.one) [
        | inl h ↦ record { one = i; is_one = inl refl; first = here rest.one h rest.first }
        | inr h ↦ record { one = rest.one; is_one = inr rest.is_one; first = there rest.one h rest.first }
      ]
    where
      here : (one : ℕ) → R i one → ((j : ℕ) → Among (k ∷ ks) j → R one j) → (j : ℕ) → Among (i ∷ k ∷ ks) j → R i j
      here one h first j (inl e) = subst (R i) e (itself i)
      here one h first j (inr a) = through i one j h (first j a)

      there : (one : ℕ) → R one i → ((j : ℕ) → Among (k ∷ ks) j → R one j) → (j : ℕ) → Among (i ∷ k ∷ ks) j → R one j
      there one h first j (inl e) = subst (R one) e h
      there one h first j (inr a) = first j a
