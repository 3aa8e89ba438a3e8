-- Which past tasks stand for a task.
use Rattle.std.proofs.Common.{◌≡◌, ◌<◌, ◌≤◌, ◌%◌, ◌∷◌, ℕ, List, [], length, true, refl, ap, arith, All}
use Rattle.std.specs.List.{filter}
use Rattle.std.proofs.lemmas.List.Elements.{All-filter}
use Rattle.qc_model.specs.declared.task.Task.{Task}
use Rattle.qc_past.specs.Past.{IsPastTask, no_past}
use Rattle.qc_past.specs.declared.task.PastTask.{PastTask}
use Rattle.qc_odds.specs.Lengths.{picked}
use Rattle.qc_odds.specs.Pools.{is_like, is_own, or_else, pool_of}

pub or_first : (xs ys : List PastTask) → 0 < length xs → or_else xs ys ≡ xs
or_first [] ys some = absurd (omega arith)
or_first (x ∷ xs) ys some = refl

pub or_second : (xs ys : List PastTask) → length xs ≤ 0 → or_else xs ys ≡ ys
or_second [] ys none = refl
or_second (x ∷ xs) ys none = absurd (omega arith)

pub filter_all : (xs : List PastTask) → filter (λ x. true) xs ≡ xs
filter_all [] = refl
filter_all (x ∷ xs) = ap (λ (ys : List PastTask). x ∷ ys) (filter_all xs)

or_all : (P : PastTask → Type 0) (xs ys : List PastTask) → All P xs → All P ys → All P (or_else xs ys)
or_all P [] ys first second = second
or_all P (x ∷ xs) ys first second = first

or_some : (xs ys : List PastTask) → 1 ≤ length ys → 1 ≤ length (or_else xs ys)
or_some [] ys some = some
or_some (x ∷ xs) ys some = omega arith

-- what is drawn of a call's past tasks is one of them
pub picked_past : (task : Task) (tasks : List PastTask) (number : ℕ) → 1 ≤ length tasks → All IsPastTask tasks → IsPastTask (picked (pool_of task tasks) number)
picked_past task tasks number some all =
    let own = or_all IsPastTask (filter (is_own task) tasks) tasks (All-filter (is_own task) IsPastTask tasks all) all in
    let pool = or_all IsPastTask (filter (is_like task) tasks) (or_else (filter (is_own task) tasks) tasks) (All-filter (is_like task) IsPastTask tasks all) own in
    let size : 1 ≤ length (pool_of task tasks) = or_some (filter (is_like task) tasks) (or_else (filter (is_own task) tasks) tasks) (or_some (filter (is_own task) tasks) tasks some) in
    pool (number % length (pool_of task tasks)) no_past (below number (length (pool_of task tasks)) size)
  where
    below : (a n : ℕ) → 1 ≤ n → a % n < n
    below a n some' = omega arith
