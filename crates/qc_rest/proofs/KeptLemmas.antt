-- Lists of what passes a test, one element longer.
use Rattle.std.proofs.Common.{◌≡◌, ℕ, ◌+◌, ◌≤◌, inl, inr, Bool, true, false, List, [], ◌∷◌, ◌++◌, length, map, filter, slice_index_or, Option, None, Some, IfSome, ap, sym, subst, ◌∙◌, arith}
use Rattle.std.specs.List.{range_with_len}
use Rattle.std.proofs.lemmas.Bool.{cases_eq, cases_lt, cond-false, cond-true}
use Rattle.std.proofs.lemmas.List.{append-nil, get_or_append_left, get_or_past, get_or_push, length-append, map-append}
use Rattle.std.proofs.lemmas.List.Elements.{filter-append}
use Rattle.std.proofs.lemmas.List.FromFn.{map-range_with_len_more}
use Rattle.qc_dist.proofs.Ranges.{range_more}
use Rattle.qc_rest.specs.Passing.{EndBy, StartBy}

kept_end : {X Y : Type 0} (p : X → Bool) (f : X → Y) (xs : List X) (x : X)
    → map f (filter p (xs ++ x ∷ [])) ≡ map f (filter p xs) ++ map f (filter p (x ∷ []))
kept_end {X = X} {Y = Y} p f xs x = ap (λ (ys : List X). map f ys) (filter-append p xs (x ∷ [])) ∙ map-append f (filter p xs) (filter p (x ∷ []))

pub push_yes : {X Y : Type 0} (p : X → Bool) (f : X → Y) (xs : List X) (x : X) → p x ≡ true
    → map f (filter p (xs ++ x ∷ [])) ≡ map f (filter p xs) ++ f x ∷ []
push_yes {X = X} {Y = Y} p f xs x passes =
    kept_end p f xs x ∙ ap (λ (ys : List X). map f (filter p xs) ++ map f ys) (cond-true (p x) (x ∷ []) [] passes)

pub push_no : {X Y : Type 0} (p : X → Bool) (f : X → Y) (xs : List X) (x : X) → p x ≡ false
    → map f (filter p (xs ++ x ∷ [])) ≡ map f (filter p xs)
push_no {X = X} {Y = Y} p f xs x fails =
    kept_end p f xs x ∙ ap (λ (ys : List X). map f (filter p xs) ++ map f ys) (cond-false (p x) (x ∷ []) [] fails)
    ∙ append-nil (map f (filter p xs))

-- of the first numbers
pub number_yes : {Y : Type 0} (p : ℕ → Bool) (f : ℕ → Y) (n : ℕ) → p n ≡ true
    → map f (filter p (range_with_len 0 (n + 1))) ≡ map f (filter p (range_with_len 0 n)) ++ f n ∷ []
number_yes p f n passes = ap (λ (ys : List ℕ). map f (filter p ys)) (range_more n) ∙ push_yes p f (range_with_len 0 n) n passes

pub number_no : {Y : Type 0} (p : ℕ → Bool) (f : ℕ → Y) (n : ℕ) → p n ≡ false
    → map f (filter p (range_with_len 0 (n + 1))) ≡ map f (filter p (range_with_len 0 n))
number_no p f n fails = ap (λ (ys : List ℕ). map f (filter p ys)) (range_more n) ∙ push_no p f (range_with_len 0 n) n fails

-- one more is kept, where it passes
pub kept_step : {Y : Type 0} (p : ℕ → Bool) (f : ℕ → Y) (n : ℕ) (x : Y) (old new : List Y) → p n ≡ true → x ≡ f n
    → old ≡ map f (filter p (range_with_len 0 n)) → new ≡ old ++ x ∷ [] → new ≡ map f (filter p (range_with_len 0 (n + 1)))
kept_step {Y = Y} p f n x old new passes is before pushed =
    pushed ∙ ap (λ (ys : List Y). ys ++ x ∷ []) before ∙ ap (λ (y : Y). map f (filter p (range_with_len 0 n)) ++ y ∷ []) is
    ∙ sym (number_yes p f n passes)

pub kept_same : {Y : Type 0} (p : ℕ → Bool) (f : ℕ → Y) (n : ℕ) (old : List Y) → p n ≡ false
    → old ≡ map f (filter p (range_with_len 0 n)) → old ≡ map f (filter p (range_with_len 0 (n + 1)))
kept_same p f n old fails before = before ∙ sym (number_no p f n fails)

-- one more of all
pub made_step : {Y : Type 0} (f : ℕ → Y) (n : ℕ) (x : Y) (old new : List Y) → x ≡ f n → old ≡ map f (range_with_len 0 n) → new ≡ old ++ x ∷ []
    → new ≡ map f (range_with_len 0 (n + 1))
made_step {Y = Y} f n x old new is before pushed =
    pushed ∙ ap (λ (ys : List Y). ys ++ x ∷ []) before ∙ ap (λ (y : Y). map f (range_with_len 0 n) ++ y ∷ []) is
    ∙ sym (map-range_with_len_more f 0 n n (omega arith))

-- what holds of each element holds with one more
pub push_each : {X : Type 0} (P : X → Type 0) (xs : List X) (y d : X) → P d → ((i : ℕ) → P (slice_index_or xs i d)) → P y
    → (i : ℕ) → P (slice_index_or (xs ++ y ∷ []) i d)
push_each P xs y d none each last i = elim (cases_lt i (length xs)) [
  | inl low ↦ subst P (sym (get_or_append_left xs (y ∷ []) d i low)) (each i)
  | inr high ↦ elim (cases_eq i (length xs)) [
    | inl here ↦ subst P (sym (get_or_push xs y d i (sym here))) last
    | inr past ↦ subst P (sym (get_or_past (xs ++ y ∷ []) i d (omega (arith, high, past, length-append xs (y ∷ []))))) none
  ]
]

pub start_push : (m : ℕ) (xs new : List ℕ) (y : ℕ) → StartBy xs m → y ≤ m → new ≡ xs ++ y ∷ [] → StartBy new m
start_push m xs new y all last pushed =
    subst (λ (ys : List ℕ). StartBy ys m) (sym pushed) (push_each (λ (t : ℕ). t ≤ m) xs y 0 (omega arith) all last)

pub end_push : (m : ℕ) (xs new : List (Option ℕ)) (y : Option ℕ) → EndBy xs m → IfSome y (λ t. t ≤ m) → new ≡ xs ++ y ∷ [] → EndBy new m
end_push m xs new y all last pushed =
    subst (λ (ys : List (Option ℕ)). EndBy ys m) (sym pushed)
    (push_each (λ (o : Option ℕ). (end : ℕ) → o ≡ Some end → end ≤ m) xs y None (λ end e. absurd (cc e)) (λ j end e. all j end e) (some_low y last))
  where
    some_low : (y : Option ℕ) → IfSome y (λ t. t ≤ m) → (end : ℕ) → y ≡ Some end → end ≤ m
    some_low None low end e = absurd (cc e)
    some_low (Some t) low end e = let same : t ≡ end = cc e in omega (arith, low, same)
