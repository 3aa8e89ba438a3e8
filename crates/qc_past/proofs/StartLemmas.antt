-- Where calls begin.
use Rattle.std.proofs.Common.{◌≡◌, ◌<◌, ◌≤◌, ◌+◌, ◌∷◌, ◌++◌, ◌∙◌, ℕ, zero, suc, List, [], length, get_or, Bool, refl, sym, ap, cond, inl, inr, arith}
use Rattle.std.specs.List.{filter, range_with_len}
use Rattle.std.proofs.lemmas.Bool.{cases_Bool, cases_lt}
use Rattle.std.proofs.lemmas.List.{map-id}
use Rattle.std.proofs.Math.ListN.{get_or-eq_default}
use Rattle.std.proofs.lemmas.List.FromFn.{filter_of_map_range_with_len_more}
use Rattle.qc_past.specs.Past.{begins, call_start, call_starts}
use Rattle.qc_past.specs.declared.task.PastTask.{PastTask}

-- numbers from one on and below another, each above the one before it
pub record AreRising (low top : ℕ) (xs : List ℕ) : Type 0 where
  pub within : (k d : ℕ) → k < length xs → (low ≤ get_or xs k d) × (get_or xs k d < top)
  pub rise : (k m d e : ℕ) → m ≡ k + 1 → m < length xs → get_or xs k d < get_or xs m e
  pub few : length xs + low ≤ top

rising_more : (a n : ℕ) (xs : List ℕ) → AreRising (a + 1) (a + 1 + n) xs → AreRising a (a + suc n) (a ∷ xs)
rising_more a n xs rest = record { within = within; rise = rise; few = omega (arith, rest.few) }
  where
    within : (k d : ℕ) → k < length (a ∷ xs) → (a ≤ get_or (a ∷ xs) k d) × (get_or (a ∷ xs) k d < a + suc n)
    within zero d lt = (omega arith, omega arith)
    within (suc k) d lt = let w = rest.within k d (omega arith) in (omega arith, omega arith)

    rise : (k m d e : ℕ) → m ≡ k + 1 → m < length (a ∷ xs) → get_or (a ∷ xs) k d < get_or (a ∷ xs) m e
    rise k zero d e is lt = absurd (omega arith)
    rise zero (suc m) d e is lt = let w = rest.within m e (omega arith) in omega arith
    rise (suc k) (suc m) d e is lt = rest.rise k m d e (omega arith) (omega arith)

rising_same : (a n : ℕ) (xs : List ℕ) → AreRising (a + 1) (a + 1 + n) xs → AreRising a (a + suc n) xs
rising_same a n xs rest = record {
  within = λ k d lt. (let w = rest.within k d lt in omega arith, let w = rest.within k d lt in omega arith);
  rise = rest.rise;
  few = omega (arith, rest.few);
}

-- those that pass a test, of the numbers of a range
pub rising : (p : ℕ → Bool) (a n : ℕ) → AreRising a (a + n) (filter p (range_with_len a n))
rising p a zero = record { within = λ k d lt. absurd (omega arith); rise = λ k m d e is lt. absurd (omega arith); few = omega arith }
rising p a (suc n) = elim (cases_Bool (p a)) [
  | inl yes' ↦ rw yes' (rising_more a n (filter p (range_with_len (a + 1) n)) (rising p (a + 1) n))
  | inr no' ↦ rw no' (rising_same a n (filter p (range_with_len (a + 1) n)) (rising p (a + 1) n))
]

-- one number more
pub filter_more : (p : ℕ → Bool) (n : ℕ) → filter p (range_with_len 0 (n + 1)) ≡ filter p (range_with_len 0 n) ++ cond (p n) (n ∷ []) []
filter_more p n =
    ap (filter p) (sym (map-id (range_with_len 0 (n + 1)))) ∙ filter_of_map_range_with_len_more p (λ x. x) 0 n n (omega arith)
    ∙ ap (λ (xs : List ℕ). filter p xs ++ cond (p n) (n ∷ []) []) (map-id (range_with_len 0 n))

module _ (tasks : List PastTask) where
  pub starts_rise : AreRising 0 (0 + length tasks) (call_starts tasks)
  starts_rise = rising (begins tasks) 0 (length tasks)

  -- a call begins ahead of the next one, which begins by the end
  pub starts_before : (number : ℕ) → number < length (call_starts tasks) → (call_start tasks number < call_start tasks (number + 1)) × (call_start tasks (number + 1) ≤ length tasks)
  starts_before number lt = elim (cases_lt (number + 1) (length (call_starts tasks))) [
    | inl next ↦
        let rise = starts_rise.rise number (number + 1) (length tasks) (length tasks) refl next in
        let within = starts_rise.within (number + 1) (length tasks) next in
        (rise, omega arith)
    | inr last ↦
        let within = starts_rise.within number (length tasks) lt in
        let past : call_start tasks (number + 1) ≡ length tasks = get_or-eq_default (call_starts tasks) (length tasks) last in
        (omega arith, omega arith)
  ]

-- where there is a task a call begins
pub some_start : (tasks : List PastTask) → 1 ≤ length tasks → 1 ≤ length (call_starts tasks)
some_start [] some = absurd (omega arith)
some_start (task ∷ tasks) some = omega arith
