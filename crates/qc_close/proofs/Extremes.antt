-- Greatest numbers, and the outermost bays of tasks.
use Rattle.std.proofs.Common.{[], ◌≡◌, ℕ, max, inl, inr, List, ◌∷◌, Option, ℤ, ◌≤ℤ◌, refl, ap, subst, arith, filter}
use Rattle.std.proofs.lemmas.Bool.{cases_lt}
use Rattle.std.proofs.lemmas.Int.{int_max_is, int_min_is, ints}
use Rattle.qc_close.specs.Model.{Turn, all_done, done_in, lies, InstanceView, bay_of, greatest, highest, lowest, task_numbers}
use Rattle.qc_close.proofs.Members.{Among, flat_among}

-- what comes of each stretch of a crane comes of all of them
pub among_done : (inst : InstanceView) (turn : Turn) (cranes : List (Option ℕ)) (w : ℕ) (P : ℕ → Type 0)
    → ((low high : ℤ) → P (done_in inst turn cranes w low high)) → (is : List ℕ) (n : ℕ) → Among (all_done inst turn cranes w is) n → P n
among_done inst turn cranes w P each [] n a = absurd a
among_done inst turn cranes w P each (i ∷ is) n a =
    let low = lowest inst i is in
    let high = highest inst i is in
    let r = flat_among
    (λ j. done_in inst turn cranes w low (bay_of inst j) ∷ done_in inst turn cranes w (bay_of inst j) high ∷ [])
    (filter (lies inst low high) (task_numbers inst)) n a in
    one r.0 low high r.2
  where
    one : (j : ℕ) (low high : ℤ)
        → Among (done_in inst turn cranes w low (bay_of inst j) ∷ done_in inst turn cranes w (bay_of inst j) high ∷ []) n → P n
    one j low high (inl e) = subst P e (each low (bay_of inst j))
    one j low high (inr (inl e)) = subst P e (each (bay_of inst j) high)
    one j low high (inr (inr none)) = absurd none

pub greatest_among : (x : ℕ) (xs : List ℕ) → Among (x ∷ xs) (greatest (x ∷ xs))
greatest_among x [] = inl (omega arith)
greatest_among x (y ∷ ys) =
    let rest = greatest_among y ys in
    elim (cases_lt x (greatest (y ∷ ys))) [
      | inl less ↦
          let same : greatest (y ∷ ys) ≡ max x (greatest (y ∷ ys)) = omega arith in
          inr (subst (Among (y ∷ ys)) same rest)
      | inr more ↦ inl (omega arith)
    ]

pub highest_at : (inst : InstanceView) (j : ℕ) (js : List ℕ) (k : ℕ) → Among (j ∷ js) k → bay_of inst k ≤ℤ highest inst j js
highest_at inst j [] k (inl e) = let same = ap (bay_of inst) e in omega (arith, ints, same)
highest_at inst j [] k (inr a) = absurd a
highest_at inst j (i ∷ is) k (inl e) =
    let same = ap (bay_of inst) e in omega (arith, ints, int_max_is (bay_of inst j) (highest inst i is), same)
highest_at inst j (i ∷ is) k (inr a) =
    let rest = highest_at inst i is k a in
    omega (arith, ints, int_max_is (bay_of inst j) (highest inst i is), rest)

pub lowest_at : (inst : InstanceView) (j : ℕ) (js : List ℕ) (k : ℕ) → Among (j ∷ js) k → lowest inst j js ≤ℤ bay_of inst k
lowest_at inst j [] k (inl e) = let same = ap (bay_of inst) e in omega (arith, ints, same)
lowest_at inst j [] k (inr a) = absurd a
lowest_at inst j (i ∷ is) k (inl e) =
    let same = ap (bay_of inst) e in omega (arith, ints, int_min_is (bay_of inst j) (lowest inst i is), same)
lowest_at inst j (i ∷ is) k (inr a) =
    let rest = lowest_at inst i is k a in
    omega (arith, ints, int_min_is (bay_of inst j) (lowest inst i is), rest)

pub lowest_from : (inst : InstanceView) (x : ℤ) (j : ℕ) (js : List ℕ) → ((k : ℕ) → Among (j ∷ js) k → x ≤ℤ bay_of inst k)
    → x ≤ℤ lowest inst j js
lowest_from inst x j [] h = h j (inl refl)
lowest_from inst x j (i ∷ is) h =
    let rest = lowest_from inst x i is (λ k a. h k (inr a)) in
    let first = h j (inl refl) in
    omega (arith, ints, int_min_is (bay_of inst j) (lowest inst i is), rest, first)

pub highest_to : (inst : InstanceView) (x : ℤ) (j : ℕ) (js : List ℕ) → ((k : ℕ) → Among (j ∷ js) k → bay_of inst k ≤ℤ x)
    → highest inst j js ≤ℤ x
highest_to inst x j [] h = h j (inl refl)
highest_to inst x j (i ∷ is) h =
    let rest = highest_to inst x i is (λ k a. h k (inr a)) in
    let first = h j (inl refl) in
    omega (arith, ints, int_max_is (bay_of inst j) (highest inst i is), rest, first)
