-- Counts of what passes a test, where one element less passes.
use Rattle.std.proofs.Common.{◌≡◌, ℕ, zero, suc, ◌+◌, ◌<◌, ◌≤◌, Bool, true, false, cond, List, [], ◌∷◌, length, slice_index_or, refl, ap, arith}
use Rattle.std.specs.List.{count_by}
use Rattle.std.proofs.lemmas.List.Sums.{sum_by-cons}

count_step : {X : Type 0} (p : X → Bool) (x : X) (xs : List X)
    → count_by p (x ∷ xs) ≡ cond (p x) 1 0 + count_by p xs
count_step p x xs = sum_by-cons (λ y. cond (p y) 1 0) x xs

one_le : (a b : Bool) → (a ≡ true → b ≡ true) → cond a 1 0 ≤ cond b 1 0
one_le true b h = rw (h refl) (omega arith)
one_le false b h = omega arith

count_le : {X : Type 0} (p q : X → Bool) → ((x : X) → p x ≡ true → q x ≡ true)
    → (xs : List X) → count_by p xs ≤ count_by q xs
count_le p q h [] = omega arith
count_le p q h (x ∷ xs) =
    omega (arith, count_step p x xs, count_step q x xs, one_le (p x) (q x) (h x), count_le p q h xs)

-- fewer pass a test that is passed by no more, and not by one
pub count_less : {X : Type 0} (p q : X → Bool) → ((x : X) → p x ≡ true → q x ≡ true)
    → (xs : List X) (k : ℕ) (d : X) → k < length xs
    → q (slice_index_or xs k d) ≡ true → p (slice_index_or xs k d) ≡ false
    → count_by p xs + 1 ≤ count_by q xs
count_less p q h [] k d inside passed failed = absurd (omega arith)
count_less p q h (x ∷ xs) zero d inside passed failed =
    let number : Bool → ℕ = λ b. cond b 1 0 in
    omega (arith, count_step p x xs, count_step q x xs, ap number passed, ap number failed, count_le p q h xs)
count_less p q h (x ∷ xs) (suc k) d inside passed failed =
    let rest = count_less p q h xs k d (omega arith) passed failed in
    omega (arith, count_step p x xs, count_step q x xs, one_le (p x) (q x) (h x), rest)
