-- The steps of the loops that build lists of tasks and of pairs.
use Rattle.std.proofs.Common.{◌≡◌, ℕ, ◌+◌, ◌<◌, ◌≤◌, ◌++◌, Bool, true, false, cond, List, [], ◌∷◌, length, get_or, take, map, refl, sym, ap, subst, ◌∙◌, arith, append-nil, append_assoc}
use Rattle.std.specs.List.{filter, flat_map, range_with_len, zip, AllByRecursion as Each}
use Rattle.std.proofs.lemmas.List.{take_more, take_all}
use Rattle.std.proofs.lemmas.List.Concat.{flat_map-append}
use Rattle.std.proofs.lemmas.List.Elements.{filter-append}
use Rattle.std.proofs.lemmas.List.FromFn.{map-range_with_len_more}
use Rattle.std.proofs.lemmas.Slice.Zip.{length-zip, get_or-zip}
use Rattle.std.proofs.lemmas.List.{map-append, map-id}
use Rattle.qc_model.specs.declared.pair.Pair.{Pair}
use Rattle.qc_model.specs.Instance.{pair_of}
use Rattle.qc_tasks.specs.InstanceOf.{pairs_from, pairs_with}
use Rattle.qc_tasks.proofs.Lists.{each_range, each_weaker}

-- one element more of two lists in step
pub flat_map-zip_more : {K V A : Type 0} (f : K × V → List A) (ks : List K) (vs : List V) (i n : ℕ) (k : K) (v : V) → n ≡ i + 1 → i < length ks → i < length vs → k ≡ get_or ks i k → v ≡ get_or vs i v → flat_map f (take n (zip ks vs)) ≡ flat_map f (take i (zip ks vs)) ++ f (k, v)
flat_map-zip_more f ks vs i n k v en ik iv ek ev =
    let within : i < length (zip ks vs) = omega (arith, length-zip ks vs) in
    let here : get_or (zip ks vs) i (k, v) ≡ (k, v) = get_or-zip ks vs i (k, v) ik iv ∙ rw (← ek, ← ev) refl in
    rw (en, take_more (zip ks vs) i (k, v) within, here, flat_map-append f (take i (zip ks vs)) ((k, v) ∷ []), append-nil (f (k, v))) refl

pub flat_map-zip_all : {K V A : Type 0} (f : K × V → List A) (ks : List K) (vs : List V) (i : ℕ) → length (zip ks vs) ≤ i → flat_map f (take i (zip ks vs)) ≡ flat_map f (zip ks vs)
flat_map-zip_all f ks vs i past = ap (flat_map f) (take_all i (zip ks vs) past)

pub range_more : (n m : ℕ) → m ≡ n + 1 → range_with_len 0 m ≡ range_with_len 0 n ++ n ∷ []
range_more n m e = subst (λ k. range_with_len 0 k ≡ range_with_len 0 n ++ n ∷ []) (sym e)
    (sym (map-id (range_with_len 0 (n + 1))) ∙ map-range_with_len_more (λ (x : ℕ). x) 0 n n (omega arith) ∙ ap (λ xs. xs ++ n ∷ []) (map-id (range_with_len 0 n)))

-- one number more as the second of a pair
filter_one : (test : ℕ → Bool) (i n : ℕ) (b : Bool) → test n ≡ b → map (pair_of i) (filter test (n ∷ [])) ≡ cond b (pair_of i n ∷ []) []
filter_one test i n b e = rw e (elim b as (λ b. map (pair_of i) (cond b (n ∷ []) []) ≡ cond b (pair_of i n ∷ []) []) [ true ↦ refl | false ↦ refl ])

pairs_from_more : (test : ℕ → ℕ → Bool) (i n m : ℕ) (b : Bool) → m ≡ n + 1 → test i n ≡ b → pairs_from m test i ≡ pairs_from n test i ++ cond b (pair_of i n ∷ []) []
pairs_from_more test i n m b en e =
    ap (λ (ks : List ℕ). map (pair_of i) (filter (test i) ks)) (range_more n m en)
    ∙ ap (map (pair_of i)) (filter-append (test i) (range_with_len 0 n) (n ∷ []))
    ∙ map-append (pair_of i) (filter (test i) (range_with_len 0 n)) (filter (test i) (n ∷ []))
    ∙ ap (λ (ps : List Pair). pairs_from n test i ++ ps) (filter_one (test i) i n b e)

pub pairs_yes : (test : ℕ → ℕ → Bool) (i n m : ℕ) (old now next : List Pair) → m ≡ n + 1 → test i n ≡ true → now ≡ old ++ pairs_from n test i → next ≡ now ++ pair_of i n ∷ [] → next ≡ old ++ pairs_from m test i
pairs_yes test i n m old now next en passed had more =
    more ∙ ap (λ (ps : List Pair). ps ++ pair_of i n ∷ []) had ∙ append_assoc old _ _ ∙ ap (λ (ps : List Pair). old ++ ps) (sym (pairs_from_more test i n m true en passed))

pub pairs_no : (test : ℕ → ℕ → Bool) (i n m : ℕ) (old now : List Pair) → m ≡ n + 1 → test i n ≡ false → now ≡ old ++ pairs_from n test i → now ≡ old ++ pairs_from m test i
pairs_no test i n m old now en failed had =
    had ∙ ap (λ (ps : List Pair). old ++ ps) (sym (append-nil (pairs_from n test i)) ∙ sym (pairs_from_more test i n m false en failed))

-- the pairs of one number more as the first
pub pairs_row : (test : ℕ → ℕ → Bool) (count n m : ℕ) (now next : List Pair) → m ≡ n + 1 → now ≡ flat_map (pairs_from count test) (range_with_len 0 n) → next ≡ now ++ pairs_from count test n → next ≡ flat_map (pairs_from count test) (range_with_len 0 m)
pairs_row test count n m now next en had more =
    more ∙ ap (λ (ps : List Pair). ps ++ pairs_from count test n) had
    ∙ ap (λ (ps : List Pair). flat_map (pairs_from count test) (range_with_len 0 n) ++ ps) (sym (append-nil (pairs_from count test n)))
    ∙ sym (flat_map-append (pairs_from count test) (range_with_len 0 n) (n ∷ []))
    ∙ ap (flat_map (pairs_from count test)) (sym (range_more n m en))

-- pairs by tests that agree below the count
filter_same : {X : Type 0} (p q : X → Bool) (xs : List X) → Each (λ x. p x ≡ q x) xs → filter p xs ≡ filter q xs
filter_same p q [] same = refl
filter_same p q (x ∷ xs) same = rw (same.0, filter_same p q xs same.1) refl

flat_map_same : {X Y : Type 0} (f g : X → List Y) (xs : List X) → Each (λ x. f x ≡ g x) xs → flat_map f xs ≡ flat_map g xs
flat_map_same f g [] same = refl
flat_map_same f g (x ∷ xs) same = rw (same.0, flat_map_same f g xs same.1) refl

pub pairs_agree : (count : ℕ) (s t : ℕ → ℕ → Bool) → ((i j : ℕ) → i < count → j < count → s i j ≡ t i j) → pairs_with count s ≡ pairs_with count t
pairs_agree count s t same =
    flat_map_same (pairs_from count s) (pairs_from count t) (range_with_len 0 count)
    (each_weaker (λ k. (0 ≤ k) × (k < 0 + count)) (λ i. pairs_from count s i ≡ pairs_from count t i) (range_with_len 0 count)
    (λ i il. ap (map (pair_of i)) (filter_same (s i) (t i) (range_with_len 0 count)
    (each_weaker (λ k. (0 ≤ k) × (k < 0 + count)) (λ j. s i j ≡ t i j) (range_with_len 0 count) (λ j jl. same i j (omega (arith, il)) (omega (arith, jl))) (each_range 0 count)))) (each_range 0 count))
