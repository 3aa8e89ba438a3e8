-- The greatest and the least of numbers, one more at a time.
use Rattle.std.proofs.Common.{◌≡◌, ℕ, ◌+◌, ◌<◌, ◌||◌, max, min, Bool, true, false, cond, List, [], ◌∷◌, ◌++◌, map, sym, ap, ◌∙◌, arith, Option, Some}
use Rattle.std.specs.Option.{option_map_or}
use Rattle.std.specs.List.{filter, list_any, range_with_len, sum_by}
use Rattle.std.proofs.lemmas.List.{append-nil, map-append, map-id}
use Rattle.std.proofs.lemmas.List.Elements.{filter-append}
use Rattle.std.proofs.lemmas.List.Folds.{list_any-append, list_any-from_Any}
use Rattle.std.proofs.lemmas.List.FromFn.{get_or-range_with_len, length-range_with_len, map-range_with_len_more}
use Rattle.std.proofs.lemmas.List.Sums.{sum_by_push}
use Rattle.qc_model.specs.Nodes.{greatest}
use Rattle.qc_model.proofs.Extremes.{least_option, least_option-append}

greatest-append : (xs : List ℕ) (x : ℕ) → greatest (xs ++ x ∷ []) ≡ max (greatest xs) x
greatest-append [] x = omega arith
greatest-append (y ∷ ys) x = omega (arith, greatest-append ys x)

pub greatest_more : (f : ℕ → ℕ) (n : ℕ)
    → greatest (map f (range_with_len 0 (n + 1))) ≡ max (greatest (map f (range_with_len 0 n))) (f n)
greatest_more f n =
    ap greatest (map-range_with_len_more f 0 n n (omega arith)) ∙ greatest-append (map f (range_with_len 0 n)) (f n)

pub range_more : (n : ℕ) → range_with_len 0 (n + 1) ≡ range_with_len 0 n ++ n ∷ []
range_more n =
    sym (map-id (range_with_len 0 (n + 1))) ∙ map-range_with_len_more (λ k. k) 0 n n (omega arith)
    ∙ ap (λ ks. ks ++ n ∷ []) (map-id (range_with_len 0 n))

-- the numbers that pass, with one more
passed_yes : (p : ℕ → Bool) (n : ℕ) → p n ≡ true
    → filter p (range_with_len 0 (n + 1)) ≡ filter p (range_with_len 0 n) ++ n ∷ []
passed_yes p n holds =
    ap (filter p) (range_more n) ∙ filter-append p (range_with_len 0 n) (n ∷ [])
    ∙ ap (λ b. filter p (range_with_len 0 n) ++ cond b (n ∷ []) []) holds

passed_no : (p : ℕ → Bool) (n : ℕ) → p n ≡ false
    → filter p (range_with_len 0 (n + 1)) ≡ filter p (range_with_len 0 n) ++ []
passed_no p n fails =
    ap (filter p) (range_more n) ∙ filter-append p (range_with_len 0 n) (n ∷ [])
    ∙ ap (λ b. filter p (range_with_len 0 n) ++ cond b (n ∷ []) []) fails

pub least_step : (f : ℕ → ℕ) (p : ℕ → Bool) (n : ℕ) (o : Option ℕ) (r : ℕ)
    → o ≡ least_option (map f (filter p (range_with_len 0 n))) → p n ≡ true
    → r ≡ option_map_or (λ m. min m (f n)) o (f n)
    → Some r ≡ least_option (map f (filter p (range_with_len 0 (n + 1))))
least_step f p n o r e holds is =
    let xs = filter p (range_with_len 0 n) in
    ap Some (is ∙ ap (λ q. option_map_or (λ m. min m (f n)) q (f n)) e)
    ∙ sym (least_option-append (map f xs) (f n))
    ∙ sym (ap (λ ys. least_option (map f ys)) (passed_yes p n holds)
    ∙ ap least_option (map-append f xs (n ∷ [])))

pub least_skip : (f : ℕ → ℕ) (p : ℕ → Bool) (n : ℕ) (o : Option ℕ)
    → o ≡ least_option (map f (filter p (range_with_len 0 n))) → p n ≡ false
    → o ≡ least_option (map f (filter p (range_with_len 0 (n + 1))))
least_skip f p n o e fails =
    let same = passed_no p n fails ∙ append-nil (filter p (range_with_len 0 n)) in
    e ∙ sym (ap (λ ys. least_option (map f ys)) same)

pub sum_more : (f : ℕ → ℕ) (n : ℕ) → sum_by f (range_with_len 0 (n + 1)) ≡ sum_by f (range_with_len 0 n) + f n
sum_more f n = ap (sum_by f) (range_more n) ∙ sum_by_push f (range_with_len 0 n) n

-- a test that some number passes
pub any_passes : (p : ℕ → Bool) (n k : ℕ) → k < n → p k ≡ true → list_any p (range_with_len 0 n) ≡ true
any_passes p n k inside passes =
    let at = get_or-range_with_len 0 n k k inside in
    let count = length-range_with_len 0 n in
    list_any-from_Any p (range_with_len 0 n) (k, k, omega (arith, count), omega (arith, at), passes)

pub any_fails : (p : ℕ → Bool) (n : ℕ) → list_any p (range_with_len 0 n) ≡ false → p n ≡ false
    → list_any p (range_with_len 0 (n + 1)) ≡ false
any_fails p n before fails =
    ap (list_any p) (range_more n) ∙ list_any-append p (range_with_len 0 n) (n ∷ [])
    ∙ ap (λ b. b || (p n || false)) before ∙ ap (λ b. b || false) fails
