-- Ways over pairs, and rings.
use Rattle.std.proofs.Common.{◌≡◌, ◌⊎◌, ℕ, zero, suc, ◌+◌, ◌<◌, ◌≤◌, ◌++◌, ◌∷◌, ◌==◌, ◌&&◌, ◌||◌, [], Bool, true, false, List, Some, None, length, find, refl, sym, ap, subst, inl, inr, ◌∙◌, arith, zero-add, Contains}
use Rattle.std.specs.List.{list_any, range_with_len}
use Rattle.std.proofs.lemmas.Bool.{and_from, and_parts, or_cases, or_left, or_right}
use Rattle.std.proofs.lemmas.Bool.Decides.{Decides-eqb}
use Rattle.std.proofs.lemmas.List.Folds.{list_any-append, list_any_at}
use Rattle.std.proofs.lemmas.List.FromFn.{get_or-range_with_len, length-range_with_len}
use Rattle.qc_model.specs.declared.pair.Pair.{Pair}
use Rattle.qc_model.specs.Instance.{IsPath, pair_of}
use Rattle.qc_tasks.specs.Rings.{has_ring, leads}
use Rattle.qc_tasks.proofs.Lists.{any_some}
use Rattle.qc_tasks.proofs.Loops.{range_more}

-- one is at the task, or comes to it
abbrev comes : List Pair → ℕ → ℕ → Bool
comes ps i j = (i == j) || leads ps i j

abbrev pub Way : List Pair → ℕ → ℕ → Type 0
Way ps i j = (via : List ℕ) × IsPath ps i via j

-- ---- the test, pair by pair

same_number : (i j : ℕ) → i ≡ j → (i == j) ≡ true
same_number i j e = (Decides-eqb i j).1 e

module _ (p : Pair) (ps : List Pair) (i j : ℕ) where
  leads_is : leads (p ∷ ps) i j ≡ (leads ps i j || (comes ps i p.first && comes ps p.second j))
  unfolding leads
  leads_is = refl

  leads_without : leads ps i j ≡ true → leads (p ∷ ps) i j ≡ true
  leads_without e = leads_is ∙ or_left (leads ps i j) (comes ps i p.first && comes ps p.second j) e

  leads_over : comes ps i p.first ≡ true → comes ps p.second j ≡ true → leads (p ∷ ps) i j ≡ true
  leads_over e f = leads_is ∙ or_right (leads ps i j) (comes ps i p.first && comes ps p.second j) (and_from (comes ps i p.first) (comes ps p.second j) e f)

  leads_cases : leads (p ∷ ps) i j ≡ true → (leads ps i j ≡ true) ⊎ ((comes ps i p.first ≡ true) × (comes ps p.second j ≡ true))
  leads_cases e = elim (or_cases (leads ps i j) (comes ps i p.first && comes ps p.second j) (sym leads_is ∙ e)) [
    | inl without ↦ inl without
    | inr over ↦ inr (and_parts (comes ps i p.first) (comes ps p.second j) over)
  ]

leads_nowhere : (i j : ℕ) → leads [] i j ≡ true → ⊥
unfolding leads
leads_nowhere i j e = cc e

module _ (ps : List Pair) (i k j : ℕ) (join : leads ps i k ≡ true → leads ps k j ≡ true → leads ps i j ≡ true) where
  come_on : leads ps i k ≡ true → comes ps k j ≡ true → comes ps i j ≡ true
  come_on e f = elim (or_cases (k == j) (leads ps k j) f) [
    | inl same ↦ or_right (i == j) (leads ps i j) (ap (leads ps i) (sym ((Decides-eqb k j).0 same)) ∙ e)
    | inr way ↦ or_right (i == j) (leads ps i j) (join e way)
  ]

  come_by : comes ps i k ≡ true → leads ps k j ≡ true → comes ps i j ≡ true
  come_by e f = elim (or_cases (i == k) (leads ps i k) e) [
    | inl same ↦ or_right (i == j) (leads ps i j) (ap (λ n. leads ps n j) ((Decides-eqb i k).0 same) ∙ f)
    | inr way ↦ or_right (i == j) (leads ps i j) (join way f)
  ]

joined : (ps : List Pair) (i k j : ℕ) → leads ps i k ≡ true → leads ps k j ≡ true → leads ps i j ≡ true
joined [] i k j e f = absurd (leads_nowhere i k e)
joined (p ∷ ps) i k j e f = elim (leads_cases p ps i k e) [
  | inl e1 ↦ elim (leads_cases p ps k j f) [
    | inl f1 ↦ leads_without p ps i j (joined ps i k j e1 f1)
    | inr f2 ↦ leads_over p ps i j (come_on ps i k p.first (joined ps i k p.first) e1 f2.0) f2.1
  ]
  | inr e2 ↦ elim (leads_cases p ps k j f) [
    | inl f1 ↦ leads_over p ps i j e2.0 (come_by ps p.second k j (joined ps p.second k j) e2.1 f1)
    | inr f2 ↦ leads_over p ps i j e2.0 f2.1
  ]
]

edge : (ps : List Pair) (i j : ℕ) → Contains ps (pair_of i j) → leads ps i j ≡ true
edge [] i j (k, lt, e) = absurd (omega arith)
edge (p ∷ ps) i j (zero, lt, e) =
    leads_over p ps i j (or_left (i == p.first) (leads ps i p.first) (same_number i p.first (sym (ap (λ (q : Pair). q.first) e))))
    (or_left (p.second == j) (leads ps p.second j) (same_number p.second j (ap (λ (q : Pair). q.second) e)))
edge (p ∷ ps) i j (suc k, lt, e) = leads_without p ps i j (edge ps i j (k, omega arith, e))

pub path_leads : (ps : List Pair) (i : ℕ) (via : List ℕ) (j : ℕ) → IsPath ps i via j → leads ps i j ≡ true
path_leads ps i [] j has = edge ps i j has
path_leads ps i (k ∷ ks) j path = joined ps i k j (edge ps i k path.0) (path_leads ps k ks j path.1)

-- ---- ways

pub path_join : (ps : List Pair) (i : ℕ) (via : List ℕ) (k : ℕ) (next : List ℕ) (j : ℕ) → IsPath ps i via k → IsPath ps k next j → IsPath ps i (via ++ k ∷ next) j
path_join ps i [] k next j p q = (p, q)
path_join ps i (h ∷ via) k next j p q = (p.0, path_join ps h via k next j p.1 q)

pub path_weaker : (ps qs : List Pair) → ((i j : ℕ) → Contains ps (pair_of i j) → Contains qs (pair_of i j)) → (i : ℕ) (via : List ℕ) (j : ℕ) → IsPath ps i via j → IsPath qs i via j
path_weaker ps qs more i [] j has = more i j has
path_weaker ps qs more i (k ∷ ks) j path = (more i k path.0, path_weaker ps qs more k ks j path.1)

pub path_first : (ps : List Pair) (count i : ℕ) (via : List ℕ) (j : ℕ) → ((a b : ℕ) → Contains ps (pair_of a b) → a < count) → IsPath ps i via j → i < count
path_first ps count i [] j low has = low i j has
path_first ps count i (k ∷ ks) j low path = low i k path.0

module _ (p : Pair) (ps : List Pair) where
  later : (i j : ℕ) → Contains ps (pair_of i j) → Contains (p ∷ ps) (pair_of i j)
  later i j (k, lt, e) = (suc k, omega arith, e)

  longer : (i j : ℕ) → Way ps i j → Way (p ∷ ps) i j
  longer i j (via, path) = (via, path_weaker ps (p ∷ ps) later i via j path)

  to_second : (i : ℕ) → (i ≡ p.first) ⊎ Way ps i p.first → Way (p ∷ ps) i p.second
  to_second i (inl same) = let P : ℕ → Type 0 = λ n. Way (p ∷ ps) n p.second in subst P (sym same) ([], (0, omega arith, refl))
  to_second i (inr way) =
      let w = longer i p.first way in
      (w.0 ++ p.first ∷ [], path_join (p ∷ ps) i w.0 p.first [] p.second w.1 (0, omega arith, refl))

  on_from_second : (i j : ℕ) → Way (p ∷ ps) i p.second → (p.second ≡ j) ⊎ Way ps p.second j → Way (p ∷ ps) i j
  on_from_second i j so_far (inl same) = let P : ℕ → Type 0 = λ n. Way (p ∷ ps) i n in subst P same so_far
  on_from_second i j (via, path) (inr way) =
      let w = longer p.second j way in
      (via ++ p.second ∷ w.0, path_join (p ∷ ps) i via p.second w.0 j path w.1)

at_or_way : (ps : List Pair) (i j : ℕ) → (leads ps i j ≡ true → Way ps i j) → comes ps i j ≡ true → (i ≡ j) ⊎ Way ps i j
at_or_way ps i j way e = elim (or_cases (i == j) (leads ps i j) e) [
  | inl same ↦ inl ((Decides-eqb i j).0 same)
  | inr leads_there ↦ inr (way leads_there)
]

pub leads_path : (ps : List Pair) (i j : ℕ) → leads ps i j ≡ true → Way ps i j
leads_path [] i j e = absurd (leads_nowhere i j e)
leads_path (p ∷ ps) i j e = elim (leads_cases p ps i j e) [
  | inl without ↦ longer p ps i j (leads_path ps i j without)
  | inr over ↦ on_from_second p ps i j (to_second p ps i (at_or_way ps i p.first (leads_path ps i p.first) over.0)) (at_or_way ps p.second j (leads_path ps p.second j) over.1)
]

-- ---- rings

pub ring_path : (count : ℕ) (pairs : List Pair) → has_ring count pairs ≡ true → (i : ℕ) × Way pairs i i
ring_path count pairs e =
    let (i, leads_back) = any_some (λ i. leads pairs i i) (range_with_len 0 count) e in
    (i, leads_path pairs i i leads_back)

pub ring_at : (test : ℕ → Bool) (count i : ℕ) → i < count → test i ≡ true → list_any test (range_with_len 0 count) ≡ true
ring_at test count i lt e =
    list_any_at test (range_with_len 0 count) i 0 (omega (arith, length-range_with_len 0 count))
    (ap test (get_or-range_with_len 0 count i 0 lt ∙ zero-add i) ∙ e)

pub none_more : (test : ℕ → Bool) (n m : ℕ) → m ≡ n + 1 → list_any test (range_with_len 0 n) ≡ false → test n ≡ false → list_any test (range_with_len 0 m) ≡ false
none_more test n m e none here = ap (list_any test) (range_more n m e) ∙ list_any-append test (range_with_len 0 n) (n ∷ []) ∙ rw (none, here) refl

pub no_path : (count : ℕ) (pairs : List Pair) → ((a b : ℕ) → Contains pairs (pair_of a b) → a < count) → has_ring count pairs ≡ false → (i : ℕ) (via : List ℕ) → ¬ IsPath pairs i via i
no_path count pairs low none i via path =
    cc (sym none ∙ ring_at (λ k. leads pairs k k) count i (path_first pairs count i via i low path) (path_leads pairs i via i path))

-- ---- the first number of a range that passes

pub find_none : (test : ℕ → Bool) (a n : ℕ) → ((k : ℕ) → a ≤ k → k < a + n → test k ≡ false) → find test (range_with_len a n) ≡ None
find_none test a zero h = refl
find_none test a (suc n) h = rw (h a (omega arith) (omega arith)) (find_none test (a + 1) n (λ k low high. h k (omega arith) (omega arith)))

pub find_some : (test : ℕ → Bool) (a n k : ℕ) → a ≤ k → k < a + n → test k ≡ true → ((m : ℕ) → a ≤ m → m < k → test m ≡ false) → find test (range_with_len a n) ≡ Some k
find_some test a zero k low high here earlier = absurd (omega arith)
find_some test a (suc n) k low high here earlier = elim (cases_here a k low) [
  | inl same ↦ rw (ap test same ∙ here) (ap Some same)
  | inr behind ↦ rw (earlier a (omega arith) (omega arith)) (find_some test (a + 1) n k behind (omega arith) here (λ m low_m high_m. earlier m (omega arith) high_m))
]
  where
    cases_here : (a k : ℕ) → a ≤ k → (a ≡ k) ⊎ (a + 1 ≤ k)
    cases_here a k h = grind arith
