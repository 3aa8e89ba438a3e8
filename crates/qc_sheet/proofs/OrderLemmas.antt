-- The moves of a task and its order, and the orders of all tasks.
use Rattle.std.proofs.Common.{◌≡◌, ℕ, ◌+◌, ◌<◌, ◌≤◌, ◌++◌, cond, List, [], ◌∷◌, length, get_or, sym, subst, inl, inr, ◌∙◌, arith, All, Contains}
use Rattle.std.specs.List.{filter, range_with_len, AllByRecursion as Each}
use Rattle.std.proofs.lemmas.Bool.{cases_Bool, cases_lt}
use Rattle.std.proofs.lemmas.List.{get_or_append_left, get_or_push}
use Rattle.std.proofs.lemmas.List.Elements.{All-contains, All-from_recursion, All-weaker}
use Rattle.std.proofs.lemmas.List.Sorted.{All-permutation, Contains-permutation, IsPermutation-sym, length_permutation}
use Rattle.std.proofs.lemmas.List.Sums.{count_by-le-length, length-filter}
use Rattle.qc_model.specs.declared.task.Task.{Task}
use Rattle.qc_model.specs.Instance.{no_task}
use Rattle.qc_stow.specs.declared.row.Row.{Row}
use Rattle.qc_tasks.specs.InstanceOf.{is_move_at, is_move_of, moves_at}
use Rattle.qc_tasks.proofs.Lists.{each_range, each_weaker}
use Rattle.qc_sheet.specs.Order.{IsOrder, moves_of, no_row, order_of, row_at}
use Rattle.qc_sheet.proofs.CountLemmas.{sum_by_places}
use Rattle.qc_sheet.proofs.OverLemmas.{IsMove}

-- ---- the moves of a task

pub moves_are : (rows : List Row) (t : Task) → All (IsMove rows t) (moves_of rows t)
moves_are rows t =
    All-from_recursion (IsMove rows t) (moves_of rows t) (by (range_with_len 0 (length rows)) (each_weaker (λ n. (0 ≤ n) × (n < 0 + length rows)) (λ n. n < length rows) (range_with_len 0 (length rows)) (λ n h. omega (arith, h)) (each_range 0 (length rows))))
  where
    by : (ns : List ℕ) → Each (λ n. n < length rows) ns → Each (IsMove rows t) (filter (λ n. is_move_of t (row_at rows n)) ns)
    by [] each = tt
    by (n ∷ ns) each = elim (cases_Bool (is_move_of t (row_at rows n))) [
      | inl mine ↦ rw mine (record { low = each.0; mine = mine }, by ns each.1)
      | inr other ↦ rw other (by ns each.1)
    ]

pub in_order : (rows : List Row) (t : Task) (order : List ℕ) → IsOrder rows t order → (n : ℕ) → Contains order n → IsMove rows t n
in_order rows t order is n has =
    All-contains (IsMove rows t) (moves_of rows t) n (moves_are rows t) (Contains-permutation order (moves_of rows t) n (IsPermutation-sym (moves_of rows t) order is.moves) has)

-- how many there are
pub order_long : (rows : List Row) (t : Task) (order : List ℕ) → IsOrder rows t order → length order ≡ moves_at rows t.hatch t.phase
order_long rows t order is =
    length_permutation (moves_of rows t) order is.moves
    ∙ length-filter (λ n. is_move_of t (row_at rows n)) (range_with_len 0 (length rows))
    ∙ sum_by_places (λ (r : Row). cond (is_move_of t r) 1 0) rows no_row

pub order_few : (rows : List Row) (t : Task) (order : List ℕ) → IsOrder rows t order → length order ≤ length rows
order_few rows t order is = omega (arith, order_long rows t order is, count_by-le-length (is_move_at t.hatch t.phase) rows)

pub moves_low : (rows : List Row) (t : Task) → All (λ n. n < length rows) (moves_of rows t)
moves_low rows t = All-weaker (IsMove rows t) (λ n. n < length rows) (λ n is. is.low) (moves_of rows t) (moves_are rows t)

pub order_low : (rows : List Row) (t : Task) (order : List ℕ) → IsOrder rows t order → All (λ n. n < length rows) order
order_low rows t order is = All-permutation (λ n. n < length rows) (moves_of rows t) order is.moves (moves_low rows t)

-- one order more
pub orders_more : (rows : List Row) (tasks : List Task) (orders : List (List ℕ)) (i : ℕ) (order : List ℕ) (t : Task) → length orders ≡ i → t ≡ get_or tasks i no_task
    → ((j : ℕ) → j < i → IsOrder rows (get_or tasks j no_task) (order_of orders j)) → IsOrder rows t order
    → (j : ℕ) → j < i + 1 → IsOrder rows (get_or tasks j no_task) (order_of (orders ++ order ∷ []) j)
orders_more rows tasks orders i order t long at so_far is j lt = elim (cases_lt j i) [
  | inl below ↦ subst (λ (o : List ℕ). IsOrder rows (get_or tasks j no_task) o) (sym (get_or_append_left orders (order ∷ []) [] j (omega (arith, long, below)))) (so_far j below)
  | inr here ↦
      let same : i ≡ j = omega (arith, here, lt) in
      subst (λ (k : ℕ). IsOrder rows (get_or tasks k no_task) (order_of (orders ++ order ∷ []) k)) same
      (subst (λ (o : List ℕ). IsOrder rows (get_or tasks i no_task) o) (sym (get_or_push orders order [] i long)) (subst (λ (u : Task). IsOrder rows u order) at is))
]
