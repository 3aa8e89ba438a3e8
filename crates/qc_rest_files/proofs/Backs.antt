-- Values that were written are read as what they were.
use Rattle.std.proofs.Common.{◌≡◌, ℕ, zero, suc, ◌+◌, ◌-◌, ◌<◌, ◌≤◌, ℤ, pos, ◌≤ℤ◌, Bool, true, false, List, [], ◌∷◌, ◌++◌, length, map, take, drop, get_or, Option, Some, None, Result, Ok, refl, sym, ap, subst, ◌∙◌, inl, inr, arith, Contains, find, int_le, nat_le}
use Rattle.std.specs.Option.{option_map_or}
use Rattle.std.specs.List.{AllByRecursion as Each, list_any}
use Rattle.std.proofs.lemmas.Bool.{cases_Bool, false≢true}
use Rattle.std.proofs.lemmas.Bool.Decides.{nat_tests}
use Rattle.std.proofs.lemmas.Int.{ints}
use Rattle.std.proofs.lemmas.List.{drop_all, drop_more, get_or-take, get_or_default, length-map, length-take-le, take_all, take_more}
use Rattle.std.proofs.lemmas.List.Folds.{list_any_none}
use Rattle.std.proofs.lemmas.Option.{slice_get-get_or}
use Rattle.qc_num.specs.Reading.{◌>>=◌, each}
use Rattle.toml.specs.Data.{Data, integer}
use Rattle.toml.specs.View.{items_of}
use Rattle.qc_ship.specs.declared.fault.Key.{Key}
use Rattle.qc_ship.specs.ShipValues.{array_in, elements, integer_in, last, number_in}
use Rattle.qc_rest_files.specs.ShipTable.{array_of, number}

-- each value, where each is read as it was behind those ahead of it
module _ {A B E : Type 0} (judge : List B → A → Result B E) (value : B → A) (xs : List B) (d : B)
    (reads : (i : ℕ) → i < length xs → judge (take i xs) (value (get_or xs i d)) ≡ Ok (get_or xs i d)) where
  each_on : (n i : ℕ) → i + n ≡ length xs → each judge (take i xs) (map value (drop i xs)) ≡ Ok xs
  each_on zero i e =
      ap (λ (ys : List B). each judge (take i xs) (map value ys)) (drop_all i xs (omega (arith, e)))
      ∙ ap Ok (take_all i xs (omega (arith, e)))
  each_on (suc n) i e =
      let lt : i < length xs = omega (arith, e) in
      ap (λ (ys : List B). each judge (take i xs) (map value ys)) (drop_more xs i d lt)
      ∙ ap (λ (r : Result B E). r >>= λ b. each judge (take i xs ++ b ∷ []) (map value (drop (i + 1) xs))) (reads i lt)
      ∙ ap (λ (ys : List B). each judge ys (map value (drop (i + 1) xs))) (sym (take_more xs i d lt))
      ∙ each_on n (i + 1) (omega (arith, e))

  pub each_back : each judge [] (map value xs) ≡ Ok xs
  each_back = each_on (length xs) 0 (omega arith)

-- the one before the value at a place passes a test, if there is one
pub last_test : {B : Type 0} (test : B → Bool) (xs : List B) (i : ℕ) (d : B) → i ≤ length xs
    → ((k : ℕ) → k + 1 ≡ i → test (get_or xs k d) ≡ true) → option_map_or test (last (take i xs)) true ≡ true
last_test test xs zero d within passes = refl
last_test test xs (suc i) d within passes =
    let front = take (suc i) xs in
    let size : length front ≡ suc i = length-take-le (suc i) xs within in
    let at : length front - 1 ≡ i = omega (arith, size) in
    let here = slice_get-get_or front (length front - 1) d (omega (arith, size))
    ∙ ap (λ (k : ℕ). Some (get_or front k d)) at ∙ ap Some (get_or-take (suc i) xs i d (omega arith)) in
    ap (λ (o : Option _). option_map_or test o true) here ∙ passes i (omega arith)

-- no value ahead of a place passes a test
pub none_ahead : {B : Type 0} (test : B → Bool) (xs : List B) (i : ℕ) (d : B) → i ≤ length xs
    → ((k : ℕ) → k < i → test (get_or xs k d) ≡ false) → list_any test (take i xs) ≡ false
none_ahead test xs i d within fails =
    list_any_none test (take i xs) (λ k e lt.
    let low : k < i = omega (arith, lt, length-take-le i xs within) in
    ap test (get_or-take i xs k e low ∙ get_or_default xs k e d (omega arith)) ∙ fails k low)

pub in_each : {B : Type 0} (P : B → Type 0) (xs : List B) (x : B) → Each P xs → Contains xs x → P x
in_each P [] x each (k, lt, e) = absurd (omega arith)
in_each P (y ∷ ys) x each (zero, lt, e) = subst P e each.0
in_each P (y ∷ ys) x each (suc k, lt, e) = in_each P ys x each.1 (k, omega arith, e)

pub each_any : {B : Type 0} (P : B → Type 0) (xs : List B) → ((x : B) → P x) → Each P xs
each_any P [] every = tt
each_any P (x ∷ xs) every = (every x, each_any P xs every)

pub each_weaker : {B : Type 0} (P Q : B → Type 0) (xs : List B) → ((x : B) → P x → Q x) → Each P xs → Each Q xs
each_weaker P Q [] follows each = tt
each_weaker P Q (x ∷ xs) follows each = (follows x each.0, each_weaker P Q xs follows each.1)

-- what a test finds, where one value alone passes, and where none does
pub find_only : {B : Type 0} (test : B → Bool) (xs : List B) (x : B) → Contains xs x → test x ≡ true
    → Each (λ y. test y ≡ true → y ≡ x) xs → find test xs ≡ Some x
find_only test [] x (k, lt, e) passes only = absurd (omega arith)
find_only {B} test (y ∷ ys) x at passes only = elim (cases_Bool (test y)) [
  | inl here ↦ rw here (ap Some (only.0 here))
  | inr past ↦ rw past (find_only test ys x (later past at) passes only.1)
]
  where
    later : test y ≡ false → Contains (y ∷ ys) x → Contains ys x
    later past (zero, lt, e) = absurd (false≢true (sym past ∙ ap test e ∙ passes))
    later past (suc k, lt, e) = (k, omega arith, e)

pub find_none : {B : Type 0} (test : B → Bool) (xs : List B) → Each (λ y. test y ≡ false) xs → find test xs ≡ None
find_none test [] fails = refl
find_none test (y ∷ ys) fails = rw fails.0 (find_none test ys fails.1)

-- ---- values

pub integer_back : (key : Key) (number : ℕ) (low high n : ℤ) → low ≤ℤ n → n ≤ℤ high → integer_in key number low high (integer n) ≡ Ok n
integer_back key number low high n from to =
    let a : int_le low n ≡ true = grind (arith, ints, from) in
    let b : int_le n high ≡ true = grind (arith, ints, to) in
    rw (a, b) refl

pub number_back : (key : Key) (at low high n : ℕ) → low ≤ n → n ≤ high → number_in key at low high (number n) ≡ Ok n
number_back key at low high n from to =
    rw (integer_back key at (pos low) (pos high) (pos n) (omega (arith, ints, from)) (omega (arith, ints, to))) refl

elements_back : (ds : List Data) → elements (items_of ds) ≡ ds
elements_back [] = refl
elements_back (d ∷ ds) = ap (λ (es : List Data). d ∷ es) (elements_back ds)

pub array_back : {B : Type 0} (key : Key) (low high : ℕ) (value : B → Data) (xs : List B) → low ≤ length xs → length xs ≤ high
    → array_in key low high (array_of value xs) ≡ Ok (map value xs)
array_back key low high value xs from to =
    let size = length-map xs value in
    let a : nat_le low (length (map value xs)) ≡ true = grind (arith, nat_tests, from, size) in
    let b : nat_le (length (map value xs)) high ≡ true = grind (arith, nat_tests, to, size) in
    rw (elements_back (map value xs), a, b) refl
