-- The pairs of numbers that pass a test.
use Rattle.std.proofs.Common.{◌≡◌, ℕ, ◌+◌, ◌*◌, ◌<◌, ◌≤◌, ◌∷◌, ◌==◌, ◌&&◌, ◌||◌, [], Bool, true, false, cond, List, length, min, max, refl, sym, ap, ◌∙◌, arith, AllPairs, Contains, count_by, sum_by}
use Rattle.std.specs.List.{filter, range_with_len, AllByRecursion as Each}
use Rattle.std.proofs.lemmas.List.Concat.{length-flat_map}
use Rattle.std.proofs.lemmas.List.Elements.{All-from_recursion, All-contains}
use Rattle.std.proofs.lemmas.List.Folds.{fold-map}
use Rattle.std.proofs.lemmas.List.FromFn.{fill_by_all}
use Rattle.std.proofs.lemmas.List.Sums.{length-filter, sum_by-cons}
use Rattle.std.proofs.lemmas.List.{length-map}
use Rattle.qc_model.specs.declared.pair.Pair.{Pair}
use Rattle.qc_model.specs.declared.task.Task.{Task}
use Rattle.qc_model.specs.Instance.{IsEarlier, pair_of, no_task}
use Rattle.qc_num.proofs.Lists.{Contains-map}
use Rattle.qc_ship.specs.declared.ship.HatchPair.{HatchPair}
use Rattle.qc_tasks.specs.InstanceOf.{is_apart, names_both, pairs_from, pairs_with, task_at}
use Rattle.qc_tasks.proofs.Lists.{EachPair, each_from, each_weaker, each_flat_map, each_map, each_filter, each_range, pair_weaker, pair_flat_map, pair_map, pair_filter, pair_range, pairs_by_index, contains_range, contains_flat_map, contains_filter, sum_by-each, sum_by-plus, sum_by-same, count_four}

-- a pair of numbers below the count that pass the test
abbrev Passes : ℕ → (ℕ → ℕ → Bool) → Pair → Type 0
Passes count test p = (p.first < count) × (p.second < count) × (test p.first p.second ≡ true)

row_passes : (count : ℕ) (test : ℕ → ℕ → Bool) (i : ℕ) → i < count → Each (Passes count test) (pairs_from count test i)
row_passes count test i lt =
    each_map (Passes count test) (pair_of i) (filter (test i) (range_with_len 0 count))
    (each_weaker (λ k. ((0 ≤ k) × (k < 0 + count)) × (test i k ≡ true)) (λ k. Passes count test (pair_of i k)) (filter (test i) (range_with_len 0 count))
    (λ k h. (lt, omega (arith, h.0), h.1)) (each_filter (λ k. (0 ≤ k) × (k < 0 + count)) (test i) (range_with_len 0 count) (each_range 0 count)))

pub pairs_pass : (count : ℕ) (test : ℕ → ℕ → Bool) (i j : ℕ) → Contains (pairs_with count test) (pair_of i j) → (i < count) × (j < count) × (test i j ≡ true)
pairs_pass count test i j has =
    All-contains (Passes count test) (pairs_with count test) (pair_of i j)
    (All-from_recursion (Passes count test) (pairs_with count test)
    (each_flat_map (Passes count test) (pairs_from count test) (range_with_len 0 count)
    (each_weaker (λ k. (0 ≤ k) × (k < 0 + count)) (λ k. Each (Passes count test) (pairs_from count test k)) (range_with_len 0 count) (λ k h. row_passes count test k (omega (arith, h))) (each_range 0 count))))
    has

pub pairs_have : (count : ℕ) (test : ℕ → ℕ → Bool) (i j : ℕ) → i < count → j < count → test i j ≡ true → Contains (pairs_with count test) (pair_of i j)
pairs_have count test i j il jl passes =
    contains_flat_map (pairs_from count test) (range_with_len 0 count) i (pair_of i j) (contains_range 0 count i (omega arith) (omega arith))
    (Contains-map (pair_of i) (filter (test i) (range_with_len 0 count)) j (contains_filter (test i) (range_with_len 0 count) j (contains_range 0 count j (omega arith) (omega arith)) passes))

row_sorted : (count : ℕ) (test : ℕ → ℕ → Bool) (i : ℕ) → EachPair IsEarlier (pairs_from count test i)
row_sorted count test i =
    pair_map IsEarlier (pair_of i) (filter (test i) (range_with_len 0 count))
    (pair_filter (λ j k. IsEarlier (pair_of i j) (pair_of i k)) (test i) (range_with_len 0 count)
    (pair_weaker (λ j k. j < k) (λ j k. IsEarlier (pair_of i j) (pair_of i k)) (range_with_len 0 count) (λ j k lt. (omega arith, λ _. lt)) (pair_range 0 count)))

-- the pairs of the number i
row_first : (count : ℕ) (test : ℕ → ℕ → Bool) (i : ℕ) → Each (λ (p : Pair). p.first ≡ i) (pairs_from count test i)
row_first count test i =
    each_map (λ (p : Pair). p.first ≡ i) (pair_of i) (filter (test i) (range_with_len 0 count)) (each_from (λ k. i ≡ i) (filter (test i) (range_with_len 0 count)) (λ k. refl))

pub pairs_sorted : (count : ℕ) (test : ℕ → ℕ → Bool) → AllPairs IsEarlier (pairs_with count test)
pairs_sorted count test =
    pairs_by_index IsEarlier (pairs_with count test)
    (pair_flat_map IsEarlier (pairs_from count test) (range_with_len 0 count) (each_from (λ i. EachPair IsEarlier (pairs_from count test i)) (range_with_len 0 count) (row_sorted count test))
    (pair_weaker (λ i k. i < k) (λ i k. Each (λ p. Each (IsEarlier p) (pairs_from count test k)) (pairs_from count test i)) (range_with_len 0 count)
    (λ i k lt. each_weaker (λ (p : Pair). p.first ≡ i) (λ p. Each (IsEarlier p) (pairs_from count test k)) (pairs_from count test i)
    (λ p ip. each_weaker (λ (q : Pair). q.first ≡ k) (IsEarlier p) (pairs_from count test k) (λ q iq. (omega (arith, ip, iq, lt), λ e. absurd (omega (arith, ip, iq, lt, e)))) (row_first count test k)) (row_first count test i))
    (pair_range 0 count)))

-- how many pairs there are
pairs_count : (count : ℕ) (test : ℕ → ℕ → Bool) → length (pairs_with count test) ≡ sum_by (λ i. count_by (test i) (range_with_len 0 count)) (range_with_len 0 count)
pairs_count count test =
    length-flat_map (pairs_from count test) (range_with_len 0 count)
    ∙ sum_by-same (λ i. length (pairs_from count test i)) (λ i. count_by (test i) (range_with_len 0 count)) (range_with_len 0 count)
    (λ i. length-map (filter (test i) (range_with_len 0 count)) (pair_of i) ∙ length-filter (test i) (range_with_len 0 count))

or_count : (s t : ℕ → Bool) (xs : List ℕ) → count_by (λ k. s k || t k) xs ≤ count_by s xs + count_by t xs
or_count s t xs =
    omega (
      arith,
      sum_by-plus (λ k. cond (s k) 1 0) (λ k. cond (t k) 1 0) xs,
      sum_by-each (λ k. cond (s k || t k) 1 0) (λ k. cond (s k) 1 0 + cond (t k) 1 0) xs (each_from (λ k. cond (s k || t k) 1 0 ≤ cond (s k) 1 0 + cond (t k) 1 0) xs (λ k. one_or (s k) (t k))),
    )
  where
    one_or : (a b : Bool) → cond (a || b) 1 0 ≤ cond a 1 0 + cond b 1 0
    one_or true true = omega arith
    one_or true false = omega arith
    one_or false true = omega arith
    one_or false false = omega arith

pairs_or : (count : ℕ) (s t : ℕ → ℕ → Bool) → length (pairs_with count (λ i j. s i j || t i j)) ≤ length (pairs_with count s) + length (pairs_with count t)
pairs_or count s t =
    omega (
      arith,
      pairs_count count (λ i j. s i j || t i j),
      pairs_count count s,
      pairs_count count t,
      sum_by-plus (λ i. count_by (s i) (range_with_len 0 count)) (λ i. count_by (t i) (range_with_len 0 count)) (range_with_len 0 count),
      sum_by-each (λ i. count_by (λ k. s i k || t i k) (range_with_len 0 count)) (λ i. count_by (s i) (range_with_len 0 count) + count_by (t i) (range_with_len 0 count)) (range_with_len 0 count)
          (each_from (λ i. count_by (λ k. s i k || t i k) (range_with_len 0 count) ≤ count_by (s i) (range_with_len 0 count) + count_by (t i) (range_with_len 0 count)) (range_with_len 0 count) (λ i. or_count (s i) (t i) (range_with_len 0 count))),
    )

no_count : (xs : List ℕ) → count_by (λ _. false) xs ≡ 0
no_count [] = refl
no_count (x ∷ xs) = omega (arith, sum_by-cons (λ (_ : ℕ). cond false 1 0) x xs, no_count xs)

pairs_none : (count : ℕ) → length (pairs_with count (λ _ _. false)) ≡ 0
pairs_none count = pairs_count count (λ _ _. false) ∙ sum_by-same (λ i. count_by (λ _. false) (range_with_len 0 count)) (λ _. 0) (range_with_len 0 count) (λ i. no_count (range_with_len 0 count)) ∙ no_count (range_with_len 0 count)

-- four numbers pass the one test, and four the other
pairs_both : (count : ℕ) (s t : ℕ → Bool) → count_by s (range_with_len 0 count) ≤ 4 → count_by t (range_with_len 0 count) ≤ 4 → length (pairs_with count (λ i j. s i && t j)) ≤ 16
pairs_both count s t few_s few_t =
    omega (
      arith,
      few_s,
      pairs_count count (λ i j. s i && t j),
      count_four s (range_with_len 0 count),
      sum_by-each (λ i. count_by (λ j. s i && t j) (range_with_len 0 count)) (λ i. cond (s i) 4 0) (range_with_len 0 count)
          (each_from (λ i. count_by (λ j. s i && t j) (range_with_len 0 count) ≤ cond (s i) 4 0) (range_with_len 0 count) (λ i. one_and (s i))),
    )
  where
    one_and : (b : Bool) → count_by (λ j. b && t j) (range_with_len 0 count) ≤ cond b 4 0
    one_and true = few_t
    one_and false = omega (arith, no_count (range_with_len 0 count))

-- counting tasks by their numbers
by_number : (p : Task → Bool) (tasks : List Task) → count_by (λ k. p (task_at tasks k)) (range_with_len 0 (length tasks)) ≡ count_by p tasks
by_number p tasks =
    sym (fold-map (λ a (t : Task). a + cond (p t) 1 0) (task_at tasks) 0 (range_with_len 0 (length tasks)))
    ∙ ap (count_by p) (sym (fill_by_all (task_at tasks) tasks (length tasks) no_task refl (λ k h. refl)))

pub few_apart : (tasks : List Task) → ((c : ℕ) → count_by (λ (t : Task). t.hatch == c) tasks ≤ 4) → (entries : List HatchPair) → length (pairs_with (length tasks) (is_apart entries tasks)) ≤ 16 * length entries
few_apart tasks four [] = omega (arith, pairs_none (length tasks))
few_apart tasks four (e ∷ es) =
    omega (
      arith,
      few_apart tasks four es,
      pairs_or (length tasks) (λ i j. names_both (task_at tasks i) (task_at tasks j) e) (is_apart es tasks),
      pairs_both (length tasks) (λ i. (task_at tasks i).hatch == min e.a e.b) (λ j. (task_at tasks j).hatch == max e.a e.b)
          (omega (arith, by_number (λ (t : Task). t.hatch == min e.a e.b) tasks, four (min e.a e.b)))
          (omega (arith, by_number (λ (t : Task). t.hatch == max e.a e.b) tasks, four (max e.a e.b))),
    )
