-- Lists of which a part is left, and pairs of numbers that are numbered anew.
use Rattle.std.proofs.Common.{◌≡◌, ℕ, zero, suc, ◌+◌, ◌<◌, ◌≤◌, inl, inr, Bool, true, false, ◌&&◌, ◌||◌, List, [], ◌∷◌, ◌++◌, length, take, map, slice_index_or, refl, ap, sym, ◌∙◌, arith, count_by}
use Rattle.std.specs.List.{filter, flat_map, list_any, range_with_len, AllByRecursion as Each}
use Rattle.std.proofs.lemmas.Bool.{and_from, cases_Bool, cond-false, cond-true, false≢true}
use Rattle.std.proofs.lemmas.List.{map-append}
use Rattle.std.proofs.lemmas.List.Elements.{filter-append}
use Rattle.std.proofs.lemmas.List.Sums.{count_by_more_no, count_by_more_yes}
use Rattle.qc_model.specs.declared.pair.Pair.{Pair}
use Rattle.qc_model.specs.Instance.{pair_of}
use Rattle.qc_rest.proofs.KeptLemmas.{number_no, number_yes}
use Rattle.qc_rest.proofs.NumberLemmas.{count-cons, tally}
use Rattle.qc_dist.proofs.Ranges.{range_more}

-- ---- one element

pub filter_yes : {X : Type 0} (p : X → Bool) (x : X) (xs : List X) → p x ≡ true → filter p (x ∷ xs) ≡ x ∷ filter p xs
filter_yes p x xs passes = cond-true (p x) (x ∷ filter p xs) (filter p xs) passes

pub filter_no : {X : Type 0} (p : X → Bool) (x : X) (xs : List X) → p x ≡ false → filter p (x ∷ xs) ≡ filter p xs
filter_no p x xs fails = cond-false (p x) (x ∷ filter p xs) (filter p xs) fails

-- what fails where another test fails
fails_too : (a b : Bool) → (a ≡ true → b ≡ true) → b ≡ false → a ≡ false
fails_too true b then fails = absurd (false≢true (sym fails ∙ then refl))
fails_too false b then fails = refl

pub any_agree : {X : Type 0} (p q : X → Bool) (xs : List X) → ((x : X) → p x ≡ q x) → list_any p xs ≡ list_any q xs
any_agree p q [] same = refl
any_agree p q (x ∷ xs) same =
    ap (λ (b : Bool). b || list_any p xs) (same x) ∙ ap (λ (b : Bool). q x || b) (any_agree p q xs same)

-- ---- a test of the part that is left

module _ {X : Type 0} (p q : X → Bool) (so : (x : X) → p x ≡ true → q x ≡ true) where
  pub any_left : (xs : List X) → list_any p (filter q xs) ≡ list_any p xs
  any_left [] = refl
  any_left (x ∷ xs) = elim (cases_Bool (q x)) [
    | inl stays ↦ ap (list_any p) (filter_yes q x xs stays) ∙ ap (λ (b : Bool). p x || b) (any_left xs)
    | inr goes ↦
        ap (list_any p) (filter_no q x xs goes) ∙ any_left xs
        ∙ sym (ap (λ (b : Bool). b || list_any p xs) (fails_too (p x) (q x) (so x) goes))
  ]

  pub count_left : (xs : List X) → count_by p (filter q xs) ≡ count_by p xs
  count_left [] = refl
  count_left (x ∷ xs) = elim (cases_Bool (q x)) [
    | inl stays ↦
        omega (arith, ap (count_by p) (filter_yes q x xs stays), count-cons p x (filter q xs), count-cons p x xs, count_left xs)
    | inr goes ↦
        omega (arith, ap (count_by p) (filter_no q x xs goes), count-cons p x xs, count_left xs, ap tally (fails_too (p x) (q x) (so x) goes))
  ]

-- none passes that is left
pub count_gone : {X : Type 0} (p q : X → Bool) → ((x : X) → q x ≡ true → p x ≡ false) → (xs : List X) → count_by p (filter q xs) ≡ 0
count_gone p q none [] = refl
count_gone p q none (x ∷ xs) = elim (cases_Bool (q x)) [
  | inl stays ↦
      omega (arith, ap (count_by p) (filter_yes q x xs stays), count-cons p x (filter q xs), count_gone p q none xs, ap tally (none x stays))
  | inr goes ↦ omega (arith, ap (count_by p) (filter_no q x xs goes), count_gone p q none xs)
]

-- no more pass than before
pub count_fewer : {X : Type 0} (p q : X → Bool) (xs : List X) → count_by p (filter q xs) ≤ count_by p xs
count_fewer p q [] = omega arith
count_fewer p q (x ∷ xs) = elim (cases_Bool (q x)) [
  | inl stays ↦ omega (arith, ap (count_by p) (filter_yes q x xs stays), count-cons p x (filter q xs), count-cons p x xs, count_fewer p q xs)
  | inr goes ↦ omega (arith, ap (count_by p) (filter_no q x xs goes), count-cons p x xs, count_fewer p q xs)
]

-- ---- lists put together, and made of others

pub filter_each : {X : Type 0} (p q : X → Bool) (xs : List X) → Each (λ x. p x ≡ q x) xs → filter p xs ≡ filter q xs
filter_each p q [] each = refl
filter_each {X = X} p q (x ∷ xs) each = elim (cases_Bool (q x)) [
  | inl holds ↦
      filter_yes p x xs (each.0 ∙ holds) ∙ ap (λ (ys : List X). x ∷ ys) (filter_each p q xs each.1) ∙ sym (filter_yes q x xs holds)
  | inr fails ↦ filter_no p x xs (each.0 ∙ fails) ∙ filter_each p q xs each.1 ∙ sym (filter_no q x xs fails)
]

pub map_each : {X Y : Type 0} (f g : X → Y) (xs : List X) → Each (λ x. f x ≡ g x) xs → map f xs ≡ map g xs
map_each f g [] each = refl
map_each {Y = Y} f g (x ∷ xs) each = ap (λ (y : Y). y ∷ map f xs) each.0 ∙ ap (λ (ys : List Y). g x ∷ ys) (map_each f g xs each.1)

pub map_twice : {X Y Z : Type 0} (g : Y → Z) (f : X → Y) (xs : List X) → map g (map f xs) ≡ map (λ x. g (f x)) xs
map_twice g f [] = refl
map_twice {Z = Z} g f (x ∷ xs) = ap (λ (zs : List Z). g (f x) ∷ zs) (map_twice g f xs)

pub filter_of_map : {X Y : Type 0} (p : Y → Bool) (f : X → Y) (xs : List X) → filter p (map f xs) ≡ map f (filter (λ x. p (f x)) xs)
filter_of_map p f [] = refl
filter_of_map {X = X} {Y = Y} p f (x ∷ xs) = elim (cases_Bool (p (f x))) [
  | inl holds ↦
      filter_yes p (f x) (map f xs) holds ∙ ap (λ (ys : List Y). f x ∷ ys) (filter_of_map p f xs)
      ∙ sym (ap (map f) (filter_yes (λ (z : X). p (f z)) x xs holds))
  | inr fails ↦
      filter_no p (f x) (map f xs) fails ∙ filter_of_map p f xs ∙ sym (ap (map f) (filter_no (λ (z : X). p (f z)) x xs fails))
]

pub part_flat : {X Y Z : Type 0} (p : Y → Bool) (u : Y → Z) (f : X → List Y) (g : X → List Z) (xs : List X)
    → Each (λ x. map u (filter p (f x)) ≡ g x) xs → map u (filter p (flat_map f xs)) ≡ flat_map g xs
part_flat p u f g [] each = refl
part_flat {Y = Y} {Z = Z} p u f g (x ∷ xs) each =
    ap (map u) (filter-append p (f x) (flat_map f xs)) ∙ map-append u (filter p (f x)) (filter p (flat_map f xs))
    ∙ ap (λ (zs : List Z). zs ++ map u (filter p (flat_map f xs))) each.0
    ∙ ap (λ (zs : List Z). g x ++ zs) (part_flat p u f g xs each.1)

-- ---- numbers among those that pass

pub kept_numbers : {X : Type 0} (p : X → Bool) (xs : List X) (d : X) (n : ℕ) → n ≤ length xs
    → map (λ j. count_by p (take j xs)) (filter (λ j. p (slice_index_or xs j d)) (range_with_len 0 n)) ≡ range_with_len 0 (count_by p (take n xs))
kept_numbers p xs d zero low = refl
kept_numbers p xs d (suc n) low =
    let keep : ℕ → Bool = λ j. p (slice_index_or xs j d) in
    let num : ℕ → ℕ = λ j. count_by p (take j xs) in
    let next : n + 1 ≡ suc n = omega arith in
    let before = kept_numbers p xs d n (omega arith) in
    ap (λ (m : ℕ). map num (filter keep (range_with_len 0 m))) (sym next) ∙ elim (cases_Bool (p (slice_index_or xs n d))) [
      | inl holds ↦
          number_yes keep num n holds ∙ ap (λ (ys : List ℕ). ys ++ num n ∷ []) before ∙ sym (range_more (num n))
          ∙ ap (λ (m : ℕ). range_with_len 0 m) (sym (count_by_more_yes p xs n d (omega arith) holds) ∙ ap num next)
      | inr fails ↦
          number_no keep num n fails ∙ before
          ∙ ap (λ (m : ℕ). range_with_len 0 m) (sym (count_by_more_no p xs n d (omega arith) fails) ∙ ap num next)
    ]

-- ---- pairs of numbers that pass a test, of which both numbers are kept

module _ (keep : ℕ → Bool) (num : ℕ → ℕ) where
  abbrev pub both : Pair → Bool
  both pair = keep pair.first && keep pair.second

  abbrev pub anew : Pair → Pair
  anew pair = pair_of (num pair.first) (num pair.second)

  none_of : (i : ℕ) → keep i ≡ false → (ks : List ℕ) → map anew (filter both (map (pair_of i) ks)) ≡ []
  none_of i gone [] = refl
  none_of i gone (k ∷ ks) =
      ap (map anew) (filter_no both (pair_of i k) (map (pair_of i) ks) (ap (λ (b : Bool). b && keep k) gone)) ∙ none_of i gone ks

  module _ (count : ℕ) (test new : ℕ → ℕ → Bool)
      (same : (i j : ℕ) → i < count → j < count → keep i ≡ true → keep j ≡ true → test i j ≡ new (num i) (num j)) where
    row : (i : ℕ) → i < count → keep i ≡ true → (ks : List ℕ) → Each (λ k. k < count) ks
        → map anew (filter both (map (pair_of i) (filter (test i) ks))) ≡ map (pair_of (num i)) (filter (new (num i)) (map num (filter keep ks)))
    row i low stays [] each = refl
    row i low stays (k ∷ ks) each =
        let rest = row i low stays ks each.1 in
        let old : List ℕ → List Pair = λ ys. map anew (filter both (map (pair_of i) ys)) in
        let made : List ℕ → List Pair = λ ys. map (pair_of (num i)) (filter (new (num i)) ys) in
        elim (cases_Bool (keep k)) [
          | inl here ↦
              let is = same i k low each.0 stays here in
              elim (cases_Bool (test i k)) [
                | inl holds ↦
                    ap old (filter_yes (test i) k ks holds)
                    ∙ ap (map anew) (filter_yes both (pair_of i k) (map (pair_of i) (filter (test i) ks)) (and_from (keep i) (keep k) stays here))
                    ∙ ap (λ (ps : List Pair). pair_of (num i) (num k) ∷ ps) rest
                    ∙ sym (ap (map (pair_of (num i))) (filter_yes (new (num i)) (num k) (map num (filter keep ks)) (sym is ∙ holds)))
                    ∙ sym (ap (λ (ys : List ℕ). made (map num ys)) (filter_yes keep k ks here))
                | inr fails ↦
                    ap old (filter_no (test i) k ks fails) ∙ rest
                    ∙ sym (ap (map (pair_of (num i))) (filter_no (new (num i)) (num k) (map num (filter keep ks)) (sym is ∙ fails)))
                    ∙ sym (ap (λ (ys : List ℕ). made (map num ys)) (filter_yes keep k ks here))
              ]
          | inr gone ↦
              let there = sym (ap (λ (ys : List ℕ). made (map num ys)) (filter_no keep k ks gone)) in
              elim (cases_Bool (test i k)) [
                | inl holds ↦
                    ap old (filter_yes (test i) k ks holds)
                    ∙ ap (map anew) (filter_no both (pair_of i k) (map (pair_of i) (filter (test i) ks))
                    (ap (λ (b : Bool). b && keep k) stays ∙ gone))
                    ∙ rest ∙ there
                | inr fails ↦ ap old (filter_no (test i) k ks fails) ∙ rest ∙ there
              ]
        ]

    module _ (ks : List ℕ) (each : Each (λ k. k < count) ks) where
      pub pairs_anew : (is : List ℕ) → Each (λ i. i < count) is
          → map anew (filter both (flat_map (λ i. map (pair_of i) (filter (test i) ks)) is))
          ≡ flat_map (λ i. map (pair_of i) (filter (new i) (map num (filter keep ks)))) (map num (filter keep is))
      pairs_anew [] low = refl
      pairs_anew (i ∷ is) low =
          let mine = map (pair_of i) (filter (test i) ks) in
          let others = flat_map (λ (i : ℕ). map (pair_of i) (filter (test i) ks)) is in
          let made : ℕ → List Pair = λ i. map (pair_of i) (filter (new i) (map num (filter keep ks))) in
          let rest = pairs_anew is low.1 in
          ap (map anew) (filter-append both mine others) ∙ map-append anew (filter both mine) (filter both others)
          ∙ elim (cases_Bool (keep i)) [
            | inl stays ↦
                ap (λ (ps : List Pair). ps ++ map anew (filter both others)) (row i low.0 stays ks each)
                ∙ ap (λ (ps : List Pair). made (num i) ++ ps) rest
                ∙ sym (ap (λ (ys : List ℕ). flat_map made (map num ys)) (filter_yes keep i is stays))
            | inr gone ↦
                ap (λ (ps : List Pair). ps ++ map anew (filter both others)) (none_of i gone (filter (test i) ks))
                ∙ rest ∙ sym (ap (λ (ys : List ℕ). flat_map made (map num ys)) (filter_no keep i is gone))
          ]
