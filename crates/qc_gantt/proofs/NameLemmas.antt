-- How a map comes to find the numbers of names.
use Rattle.std.proofs.Common.{◌≡◌, ℕ, ◌+◌, ◌<◌, ◌==◌, ◌++◌, ◌∷◌, List, [], Bor, Bool, true, false, not, cond, length, get_or, take, map, position, Option, None, Some, refl, sym, ap, subst, inl, inr, ◌∙◌, arith, is_some, nat_lt}
use Rattle.std.specs.List.{position_or_len}
use Rattle.std.specs.Map.{lookup}
use Rattle.std.specs.Str.{bytes_eq}
use Rattle.std.proofs.lemmas.Bool.{cases_Bool}
use Rattle.std.proofs.lemmas.Bool.Decides.{nat_tests}
use Rattle.std.proofs.lemmas.List.{get_or-map, length-map, length-take, length_push, take_more}
use Rattle.std.proofs.lemmas.List.Folds.{position_or_len_push}
use Rattle.std.proofs.lemmas.List.Sums.{prefix_len-le-length}
use Rattle.std.proofs.lemmas.Slice.Eq.{bytes_eq-Decides}
use Rattle.qc_gantt.specs.Names.{number_of}

pub none_there : {A : Type 0} (o : Option A) → is_some o ≡ false → o ≡ None
none_there None e = refl
none_there (Some a) e = cc

-- the place of the first element that passes, where one more element comes
module _ {X : Type 0} (p : X → Bool) (xs : List X) (y : X) where
  pub position_had : is_some (position p xs) ≡ true → position p (xs ++ y ∷ []) ≡ position p xs
  position_had had = elim (cases_Bool (nat_lt (position_or_len p xs) (length xs))) [
    | inl here ↦
        let other : (position_or_len p xs == length xs) ≡ false = grind (arith, nat_tests, here) in
        let same : position_or_len p (xs ++ y ∷ []) ≡ position_or_len p xs = position_or_len_push p xs y ∙ rw other refl in
        let more : nat_lt (position_or_len p xs) (length (xs ++ y ∷ [])) ≡ true = grind (arith, nat_tests, here, length_push xs y) in
        rw (same, more, here) refl
    | inr past ↦ cc (rw past at had)
  ]

  pub position_new : position p xs ≡ None → position p (xs ++ y ∷ []) ≡ cond (p y) (Some (length xs)) None
  position_new none = elim (cases_Bool (nat_lt (position_or_len p xs) (length xs))) [
    | inl here ↦ cc (rw here at none)
    | inr past ↦
        let le = prefix_len-le-length (λ x. not (p x)) xs in
        let same : (position_or_len p xs == length xs) ≡ true = grind (arith, nat_tests, past, le) in
        let at_end : position_or_len p (xs ++ y ∷ []) ≡ length xs + cond (p y) 0 1 = position_or_len_push p xs y ∙ rw same refl in
        let size = length_push xs y in
        elim (cases_Bool (p y)) [
          | inl yes_ ↦
              let place : position_or_len p (xs ++ y ∷ []) ≡ length xs = at_end ∙ rw yes_ (omega arith) in
              let inside : nat_lt (length xs) (length (xs ++ y ∷ [])) ≡ true = grind (arith, nat_tests, size) in
              rw (place, inside, yes_) refl
          | inr no_ ↦
              let place : position_or_len p (xs ++ y ∷ []) ≡ length (xs ++ y ∷ []) = at_end ∙ rw no_ (omega (arith, size)) in
              let outside : nat_lt (length (xs ++ y ∷ [])) (length (xs ++ y ∷ [])) ≡ false = grind (arith, nat_tests) in
              rw (place, outside, no_) refl
        ]
  ]

  pub position_other : p y ≡ false → position p (xs ++ y ∷ []) ≡ position p xs
  position_other fails = elim (cases_Bool (is_some (position p xs))) [
    | inl had ↦ position_had had
    | inr none ↦
        let is_none = none_there (position p xs) none in
        position_new is_none ∙ rw (fails, is_none) refl
  ]

apart_too : (a b : List ℕ) → bytes_eq a b ≡ false → bytes_eq b a ≡ false
apart_too a b other = elim (cases_Bool (bytes_eq b a)) [
  | inl same ↦
      let alike : b ≡ a = (bytes_eq-Decides b a).0 same in
      cc (other, subst (λ (x : List ℕ). bytes_eq a x ≡ true) (sym alike) (rw alike at same))
  | inr none ↦ none
]

-- the entries find the number of each of these names
pub record Knows (names : List (List ℕ)) (es : List (Bor (List ℕ) × ℕ)) : Type 0 where
  pub at_name : (id : List ℕ) → lookup (λ (key : Bor (List ℕ)). bytes_eq id key.now) es ≡ number_of names id

module _ (names : List (List ℕ)) (k : ℕ) (name : List ℕ) (es : List (Bor (List ℕ) × ℕ)) (lt : k < length names) (is : name ≡ get_or names k name)
    (knows : Knows (take k names) es) where
  more : take (k + 1) names ≡ take k names ++ name ∷ []
  more = take_more names k name lt ∙ ap (λ (x : List ℕ). take k names ++ x ∷ []) (sym is)

  -- a name that is new
  pub knows_more : lookup (λ (key : Bor (List ℕ)). bytes_eq name key.now) es ≡ None → (next : List (Bor (List ℕ) × ℕ))
      → ((id : List ℕ) → lookup (λ (key : Bor (List ℕ)). bytes_eq id key.now) next ≡ cond (bytes_eq name id) (Some k) (lookup (λ (key : Bor (List ℕ)). bytes_eq id key.now) es))
      → Knows (take (k + 1) names) next
  knows_more new next told = record {
    at_name = λ id. told id ∙ rw more (elim (cases_Bool (bytes_eq name id)) [
      | inl same ↦
          let alike : name ≡ id = (bytes_eq-Decides name id).0 same in
          let none : number_of (take k names) id ≡ None = subst (λ (x : List ℕ). number_of (take k names) x ≡ None) alike (sym (knows.at_name name) ∙ new) in
          let here : bytes_eq id name ≡ true = subst (λ (x : List ℕ). bytes_eq x name ≡ true) alike (rw (← alike) at same) in
          rw (same, position_new (bytes_eq id) (take k names) name none, here) (ap Some (omega (arith, length-take k names)))
      | inr other ↦ rw (other, position_other (bytes_eq id) (take k names) name (apart_too name id other)) (knows.at_name id)
    ]);
  }

  -- a name that is there
  pub knows_skip : is_some (lookup (λ (key : Bor (List ℕ)). bytes_eq name key.now) es) ≡ true → Knows (take (k + 1) names) es
  knows_skip had = record {
    at_name = λ id. knows.at_name id ∙ rw more (elim (cases_Bool (bytes_eq id name)) [
      | inl same ↦
          let alike : name ≡ id = sym ((bytes_eq-Decides id name).0 same) in
          let there : is_some (number_of (take k names) id) ≡ true = subst (λ (x : List ℕ). is_some (number_of (take k names) x) ≡ true) alike (rw (knows.at_name name) at had) in
          sym (position_had (bytes_eq id) (take k names) name there)
      | inr other ↦ sym (position_other (bytes_eq id) (take k names) name other)
    ]);
  }

-- the name of an element is the one at its place
pub named_at : {X : Type 0} (f : X → List ℕ) (xs : List X) (k : ℕ) (x : X) (name : List ℕ) → k < length xs → x ≡ get_or xs k x → name ≡ f x
    → (k < length (map f xs)) × (name ≡ get_or (map f xs) k name)
named_at f xs k x name lt at is =
    (rw (length-map xs f) lt, is ∙ ap f at ∙ sym (get_or-map f xs k x name lt))
