-- What is in a list.
use Rattle.std.proofs.Common.{◌≡◌, ◌∙◌, ◌⊎◌, ◌++◌, ◌∷◌, [], suc, Bool, true, false, ◌||◌, List, map, refl, ap, inl, inr, subst, arith, AllPairs}
use Rattle.std.specs.List.{list_any, filter, AllByRecursion as Each}
use Rattle.std.proofs.lemmas.Bool.{cases_Bool}
use Rattle.std.proofs.lemmas.List.Elements.{recursion_from_All}

abbrev pub In : {X : Type 0} → X → List X → Type 0
In x [] = ⊥
In x (y ∷ ys) = (y ≡ x) ⊎ In x ys

-- R holds of each element and each later one
abbrev pub EachPair : {X : Type 0} → (X → X → Type 0) → List X → Type 0
EachPair R [] = Unit {0}
EachPair R (x ∷ xs) = Each (R x) xs × EachPair R xs

pub pairs_from_index : {X : Type 0} (R : X → X → Type 0) (xs : List X) → AllPairs R xs → EachPair R xs
pairs_from_index R [] p = tt
pairs_from_index R (x ∷ xs) p =
    (recursion_from_All (R x) xs (λ k d h. p 0 (suc k) d (omega arith) (omega arith)), pairs_from_index R xs (λ i j d h k. p (suc i) (suc j) d (omega arith) (omega arith)))

pub each_in : {X : Type 0} (P : X → Type 0) (xs : List X) (x : X) → Each P xs → In x xs → P x
each_in P [] x each h = absurd h
each_in P (y ∷ ys) x each h = elim h [ inl same ↦ subst P same each.0 | inr later ↦ each_in P ys x each.1 later ]

pub each_of : {X : Type 0} (P : X → Type 0) (xs : List X) → ((x : X) → In x xs → P x) → Each P xs
each_of P [] h = tt
each_of P (x ∷ xs) h = (h x (inl refl), each_of P xs (λ y k. h y (inr k)))

pub each_weaker : {X : Type 0} (P Q : X → Type 0) (xs : List X) → ((x : X) → P x → Q x) → Each P xs → Each Q xs
each_weaker P Q [] h each = tt
each_weaker P Q (x ∷ xs) h each = (h x each.0, each_weaker P Q xs h each.1)

pub pair_weaker : {X : Type 0} (R S : X → X → Type 0) (xs : List X) → ((x y : X) → R x y → S x y) → EachPair R xs → EachPair S xs
pair_weaker R S [] h each = tt
pair_weaker R S (x ∷ xs) h each = (each_weaker (R x) (S x) xs (h x) each.0, pair_weaker R S xs h each.1)

pub each_both : {X : Type 0} (P Q : X → Type 0) (xs : List X) → Each P xs → Each Q xs → Each (λ x. P x × Q x) xs
each_both P Q [] p q = tt
each_both P Q (x ∷ xs) p q = ((p.0, q.0), each_both P Q xs p.1 q.1)

pub pair_both : {X : Type 0} (R S : X → X → Type 0) (xs : List X) → EachPair R xs → EachPair S xs → EachPair (λ x y. R x y × S x y) xs
pair_both R S [] p q = tt
pair_both R S (x ∷ xs) p q = (each_both (R x) (S x) xs p.0 q.0, pair_both R S xs p.1 q.1)

pub in_append : {X : Type 0} (xs ys : List X) (x : X) → In x (xs ++ ys) → In x xs ⊎ In x ys
in_append [] ys x h = inr h
in_append (z ∷ zs) ys x h = elim h [
  | inl same ↦ inl (inl same)
  | inr later ↦ elim (in_append zs ys x later) [ inl one ↦ inl (inr one) | inr two ↦ inr two ]
]

pub in_left : {X : Type 0} (xs ys : List X) (x : X) → In x xs → In x (xs ++ ys)
in_left [] ys x h = absurd h
in_left (z ∷ zs) ys x h = elim h [ inl same ↦ inl same | inr later ↦ inr (in_left zs ys x later) ]

pub in_right : {X : Type 0} (xs ys : List X) (x : X) → In x ys → In x (xs ++ ys)
in_right [] ys x h = h
in_right (z ∷ zs) ys x h = inr (in_right zs ys x h)

pub in_filter : {X : Type 0} (p : X → Bool) (xs : List X) (x : X) → In x (filter p xs) → In x xs × (p x ≡ true)
in_filter p [] x h = absurd h
in_filter p (z ∷ zs) x h = elim (cases_Bool (p z)) [
  | inl holds ↦ elim (rw holds at h) [
    | inl same ↦ (inl same, subst (λ w. p w ≡ true) same holds)
    | inr later ↦ let r = in_filter p zs x later in (inr r.0, r.1)
  ]
  | inr fails ↦ let r = in_filter p zs x (rw fails at h) in (inr r.0, r.1)
]

pub filter_in : {X : Type 0} (p : X → Bool) (xs : List X) (x : X) → In x xs → p x ≡ true → In x (filter p xs)
filter_in p [] x h holds = absurd h
filter_in p (z ∷ zs) x h holds = elim h [
  | inl same ↦ let here : p z ≡ true = ap p same ∙ holds in rw here (inl same)
  | inr later ↦ elim (cases_Bool (p z)) [
    | inl here ↦ rw here (inr (filter_in p zs x later holds))
    | inr fails ↦ rw fails (filter_in p zs x later holds)
  ]
]

pub in_map : {X Y : Type 0} (f : X → Y) (xs : List X) (y : Y) → In y (map f xs) → (x : X) × (In x xs × (f x ≡ y))
in_map f [] y h = absurd h
in_map f (z ∷ zs) y h = elim h [
  | inl same ↦ (z, (inl refl, same))
  | inr later ↦ let (x, (at, is)) = in_map f zs y later in (x, (inr at, is))
]

pub map_in : {X Y : Type 0} (f : X → Y) (xs : List X) (x : X) → In x xs → In (f x) (map f xs)
map_in f [] x h = absurd h
map_in f (z ∷ zs) x h = elim h [ inl same ↦ inl (ap f same) | inr later ↦ inr (map_in f zs x later) ]

pub any_in : {X : Type 0} (p : X → Bool) (xs : List X) → list_any p xs ≡ true → (x : X) × (In x xs × (p x ≡ true))
any_in p [] h = absurd (cc)
any_in p (z ∷ zs) h = elim (cases_Bool (p z)) [
  | inl holds ↦ (z, (inl refl, holds))
  | inr fails ↦ let (x, (at, is)) = any_in p zs (rw fails at h) in (x, (inr at, is))
]

pub in_any : {X : Type 0} (p : X → Bool) (xs : List X) (x : X) → In x xs → p x ≡ true → list_any p xs ≡ true
in_any p [] x h holds = absurd h
in_any p (z ∷ zs) x h holds = elim h [
  | inl same ↦ let here : p z ≡ true = ap p same ∙ holds in rw here refl
  | inr later ↦ rw (in_any p zs x later holds) (or_true (p z))
]
  where
    or_true : (b : Bool) → (b || true) ≡ true
    or_true true = refl
    or_true false = refl

-- where none passes, this one doesn't
pub none_in : {X : Type 0} (p : X → Bool) (xs : List X) (x : X) → In x xs → list_any p xs ≡ false → p x ≡ false
none_in p xs x at none = elim (cases_Bool (p x)) [ inl holds ↦ absurd (cc (in_any p xs x at holds)) | inr fails ↦ fails ]
