-- The tasks of restows, found move by move.
use Rattle.std.proofs.Common.{◌≡◌, ℕ, ◌+◌, ◌<◌, ◌≤◌, ◌==◌, ◌&&◌, ◌||◌, Bool, true, false, cond, List, Bor, length, get_or, take, position, Option, None, Some, AllPairs, refl, sym, ap, inl, inr, ◌∙◌, arith, nat_lt}
use Rattle.std.specs.List.{list_any, position_or_len}
use Rattle.std.specs.Map.{lookup}
use Rattle.std.specs.Str.{bytes_eq}
use Rattle.std.proofs.Math.Bool.{and-false, and-true, or-false}
use Rattle.std.proofs.lemmas.Bool.{and_parts, cases_Bool, cases_lt}
use Rattle.std.proofs.lemmas.Bool.Decides.{nat_tests}
use Rattle.std.proofs.lemmas.List.{get_or-take, get_or_default, length-take}
use Rattle.std.proofs.lemmas.List.Folds.{list_any_more, list_any_none}
use Rattle.std.proofs.lemmas.List.Quantifiers.{position-Some}
use Rattle.std.proofs.lemmas.List.Sums.{fails_before_first}
use Rattle.std.proofs.lemmas.Slice.Eq.{bytes_eq-Decides}
use Rattle.qc_model.specs.declared.task.Task.{Task}
use Rattle.qc_model.specs.Instance.{no_task}
use Rattle.qc_stow.specs.Moves.{AreMoves, is_discharge, is_load}
use Rattle.qc_stow.specs.declared.row.Move.{Move}
use Rattle.qc_stow.specs.declared.row.Move.TheVariants.{Discharge, Load}
use Rattle.qc_stow.specs.declared.row.Row.{Row}
use Rattle.qc_tasks.specs.InstanceOf.{discharges, is_move_of, task_at}
use Rattle.qc_tasks.specs.Restows.{ShareNoMove, is_number, same_numbers}

-- the place of an element that passes, where no other does
module _ {X : Type 0} (p : X → Bool) (xs : List X) where
  none_passes : position p xs ≡ None → length xs ≤ position_or_len p xs
  none_passes e = elim (cases_Bool (nat_lt (position_or_len p xs) (length xs))) [
    | inl here ↦ cc (rw here at e)
    | inr past ↦ grind (arith, nat_tests)
  ]

  pub only_at : (i : ℕ) (d : X) → i < length xs → AllPairs (λ x y. p x ≡ true → p y ≡ false) xs → is_number i (position p xs) ≡ p (get_or xs i d)
  only_at i d lt one = by (position p xs) refl
    where
      by : (o : Option ℕ) → position p xs ≡ o → is_number i o ≡ p (get_or xs i d)
      by None e = let all = none_passes e in sym (fails_before_first p xs i d (omega arith))
      by (Some k) e =
          let found = position-Some p xs k d e in
          elim (cases_lt i k) [
            | inl before ↦ let other : (k == i) ≡ false = grind (arith, nat_tests) in other ∙ sym (found.2 i before)
            | inr after ↦ elim (cases_lt k i) [
              | inl later ↦ let other : (k == i) ≡ false = grind (arith, nat_tests) in other ∙ sym (one k i d later lt found.1)
              | inr still ↦
                  let same : k ≡ i = omega arith in
                  let here : (k == i) ≡ true = grind (arith, nat_tests) in
                  here ∙ sym (rw same at found.1)
            ]
          ]

pub task_is : (tasks : List Task) → ShareNoMove tasks → (row : Row) (i : ℕ) → i < length tasks → is_number i (position (λ t. is_move_of t row) tasks) ≡ is_move_of (task_at tasks i) row
task_is tasks share row i lt = only_at (λ t. is_move_of t row) tasks i no_task lt (λ m n d mn nl. share m n d mn nl row)

-- the entries tell, for each container, the task of its discharge among these rows
pub record Knows (tasks : List Task) (rows : List Row) (es : List (Bor (List ℕ) × ℕ)) : Type 0 where
  pub at_id : (id : List ℕ) (i : ℕ) → i < length tasks → is_number i (lookup (λ (key : Bor (List ℕ)). bytes_eq id key.now) es) ≡ list_any (discharges (task_at tasks i) id) rows

both_discharge : (a b : Move) → is_discharge a ≡ true → is_discharge b ≡ true → a ≡ b
both_discharge Discharge Discharge e f = refl
both_discharge Discharge Load e f = cc f
both_discharge Load b e f = cc e

module _ (tasks : List Task) (rows : List Row) (k : ℕ) (row : Row) (es : List (Bor (List ℕ) × ℕ)) (lt : k < length rows) (is : row ≡ get_or rows k row) (knows : Knows tasks (take k rows) es) where
  -- one row more
  among : (t : Task) (id : List ℕ) → list_any (discharges t id) (take (k + 1) rows) ≡ (list_any (discharges t id) (take k rows) || discharges t id row)
  among t id = list_any_more (discharges t id) rows k row lt ∙ ap (λ (r : Row). list_any (discharges t id) (take k rows) || discharges t id r) (sym is)

  -- the row is no discharge of a task
  pub knows_skip : ((i : ℕ) → i < length tasks → (is_discharge row.kind && is_move_of (task_at tasks i) row) ≡ false) → Knows tasks (take (k + 1) rows) es
  knows_skip none = record {
    at_id = λ id i il. knows.at_id id i il ∙ sym (among (task_at tasks i) id ∙ rw (none i il) (or-false (list_any (discharges (task_at tasks i) id) (take k rows))));
  }

  -- no row before has the id
  id_is_new : AreMoves rows → is_discharge row.kind ≡ true → (t : Task) (id : List ℕ) → row.id ≡ id → list_any (discharges t id) (take k rows) ≡ false
  id_is_new moves discharged t id named = list_any_none (discharges t id) (take k rows) (λ m d within. elim (cases_Bool (discharges t id (get_or (take k rows) m d))) [
    | inr other ↦ other
    | inl again ↦
        let before : m < k = omega (arith, length-take k rows) in
        let earlier : get_or (take k rows) m d ≡ get_or rows m d = get_or-take k rows m d before in
        let here : get_or rows k d ≡ row = get_or_default rows k d row lt ∙ sym is in
        let parts = and_parts _ _ again in
        let kinds : (get_or rows m d).kind ≡ (get_or rows k d).kind =
        both_discharge _ _ (ap (λ (r : Row). is_discharge r.kind) (sym earlier) ∙ (and_parts _ _ parts.0).0) (ap (λ (r : Row). is_discharge r.kind) here ∙ discharged) in
        let ids : (get_or rows m d).id ≡ (get_or rows k d).id =
        ap (λ (r : Row). r.id) (sym earlier) ∙ (bytes_eq-Decides _ _).0 parts.1 ∙ sym named ∙ ap (λ (r : Row). r.id) (sym here) in
        absurd (moves.ids m k d before lt kinds ids)
  ])

  -- the row is a discharge of this task
  pub knows_more : ShareNoMove tasks → AreMoves rows → is_discharge row.kind ≡ true → (number : ℕ) → position (λ t. is_move_of t row) tasks ≡ Some number
      → (next : List (Bor (List ℕ) × ℕ))
      → ((id : List ℕ) → lookup (λ (key : Bor (List ℕ)). bytes_eq id key.now) next ≡ cond (bytes_eq row.id id) (Some number) (lookup (λ (key : Bor (List ℕ)). bytes_eq id key.now) es))
      → Knows tasks (take (k + 1) rows) next
  knows_more share moves discharged number found next told = record {
    at_id = λ id i il.
        let t = task_at tasks i in
        let mine : is_number i (Some number) ≡ is_move_of t row = ap (is_number i) (sym found) ∙ task_is tasks share row i il in
        elim (cases_Bool (bytes_eq row.id id)) [
          | inl same ↦
              let new = id_is_new moves discharged t id ((bytes_eq-Decides row.id id).0 same) in
              let now : lookup (λ (key : Bor (List ℕ)). bytes_eq id key.now) next ≡ Some number = told id ∙ rw same refl in
              ap (is_number i) now ∙ mine ∙ sym (among t id ∙ rw (new, discharged, same) (and-true (is_move_of t row)))
          | inr other ↦
              let now : lookup (λ (key : Bor (List ℕ)). bytes_eq id key.now) next ≡ lookup (λ (key : Bor (List ℕ)). bytes_eq id key.now) es = told id ∙ rw other refl in
              ap (is_number i) now ∙ knows.at_id id i il
              ∙ sym (among t id ∙ rw (other, and-false (is_discharge row.kind && is_move_of t row)) (or-false (list_any (discharges t id) (take k rows))))
        ];
  }

-- the tasks of a discharge and of a load, where both are there, and where the load's isn't
module _ (tasks : List Task) (share : ShareNoMove tasks) (row : Row) (j : ℕ) (jl : j < length tasks) where
  pub restow_some : (o : Option ℕ) (first second i : ℕ) → is_load row.kind ≡ true → o ≡ Some first → position (λ t. is_move_of t row) tasks ≡ Some second
      → same_numbers (first, second) (i, j) ≡ (is_load row.kind && is_number i o && is_move_of (task_at tasks j) row)
  restow_some o first second i loads known found =
      let mine : is_move_of (task_at tasks j) row ≡ (second == j) = sym (task_is tasks share row j jl) ∙ ap (is_number j) found in
      rw (loads, known, mine) refl

  pub restow_none : (known : Bool) → position (λ t. is_move_of t row) tasks ≡ None → false ≡ (known && is_move_of (task_at tasks j) row)
  restow_none known none =
      let mine : is_move_of (task_at tasks j) row ≡ false = sym (task_is tasks share row j jl) ∙ ap (is_number j) none in
      rw mine (sym (and-false known))

-- a test of the restows so far holds of one row more
pub restows_turn : (test : Row → Bool) (rows : List Row) (k : ℕ) (row : Row) (had has said : Bool) → k < length rows → row ≡ get_or rows k row
    → had ≡ list_any test (take k rows) → said ≡ test row → has ≡ cond said true had → has ≡ list_any test (take (k + 1) rows)
restows_turn test rows k row had has said lt is before told after =
    after ∙ cond-or said had ∙ ap (λ b. b || said) before ∙ ap (λ b. list_any test (take k rows) || b) (told ∙ ap test is) ∙ sym (list_any_more test rows k row lt)
  where
    cond-or : (a b : Bool) → cond a true b ≡ (b || a)
    cond-or true true = refl
    cond-or true false = refl
    cond-or false true = refl
    cond-or false false = refl
