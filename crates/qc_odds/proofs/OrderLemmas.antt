-- Turns that are sorted come behind those that lead them.
use Rattle.std.proofs.Common.{◌≡◌, ◌≢◌, ◌==◌, ℕ, ◌<◌, ◌≤◌, false, List, [], ◌∷◌, length, get_or, map, refl, sym, ap, subst, inl, inr, ◌∙◌, arith, All, AllPairs, zero-add}
use Rattle.std.specs.List.{range_with_len}
use Rattle.std.specs.List.Sorted.{IsPermutation, IsSorted}
use Rattle.std.specs.Ordering.{is_lt}
use Rattle.std.specs.Bool.{Decides}
use Rattle.std.specs.Cmp.{IsTotalOrder}
use Rattle.std.proofs.lemmas.Bool.{cases_eq, cases_order, eq-eqb, lt-ltb, ne_eqb}
use Rattle.std.proofs.lemmas.Bool.Decides.{Decides-eqb}
use Rattle.std.proofs.lemmas.Cmp.{nat_cmp_total, on_total, then_total}
use Rattle.std.proofs.lemmas.List.{get_or-map, length-map}
use Rattle.std.proofs.lemmas.List.FromFn.{get_or-map-range_with_len, get_or-range_with_len, length-map-range_with_len, length-range_with_len}
use Rattle.std.proofs.lemmas.List.MinMax.{ranks_by}
use Rattle.std.proofs.lemmas.List.Sorted.{All-permutation, Contains-permutation, IsPermutation-map, length_permutation, sorted_far}
use Rattle.std.proofs.lemmas.Map.Keys.{IsDistinct-IsPermutation}
use Rattle.std.proofs.lemmas.Map.Made.{AllPairs-from_IsDistinct, IsDistinct-from_AllPairs}
use Rattle.qc_dispatch.specs.Order.{Leads}
use Rattle.qc_model.specs.declared.schedule.Slot.{Slot}
use Rattle.qc_model.specs.Instance.{InstanceView}
use Rattle.qc_model.specs.Rules.{start_of}
use Rattle.qc_odds.specs.Order.{AreTurns, ComesAhead, task_at, turn_cmp, turn_of}
use Rattle.qc_odds.specs.declared.order.PlannedStart.{PlannedStart}

turn_total : IsTotalOrder turn_cmp
turn_total = then_total (on_total (λ (t : PlannedStart). t.start) nat_cmp_total) (on_total (λ (t : PlannedStart). t.task) nat_cmp_total)

-- where the later of two turns isn't less, it starts no sooner
no_sooner : (x y : PlannedStart) → is_lt (turn_cmp y x) ≡ false → x.start ≤ y.start
no_sooner x y h = elim (cases_order x.start y.start) [
  | inl same ↦ omega arith
  | inr other ↦ elim other [
    | inl below ↦ omega arith
    | inr above ↦ absurd (cc (rw (lt-ltb y.start x.start above) at h))
  ]
]

-- what stands past the end
abbrev pub no_turn : PlannedStart
no_turn = record { start = 0; task = 0 }

-- the task at a place, as it is read
pub task_read : (turns : List PlannedStart) (at : ℕ) → at < length turns → task_at turns at ≡ (get_or turns at no_turn).task
task_read turns at lt = get_or-map (λ (t : PlannedStart). t.task) turns at no_turn 0 lt

numbers_are : (plan : List Slot) (xs : List ℕ) → map (λ (t : PlannedStart). t.task) (map (turn_of plan) xs) ≡ xs
numbers_are plan [] = refl
numbers_are plan (x ∷ xs) = ap (λ (ys : List ℕ). x ∷ ys) (numbers_are plan xs)

eq_decides : (x y : ℕ) → Decides (x == y) (x ≡ y)
eq_decides = Decides-eqb

eq_flips : (x y : ℕ) → (x == y) ≡ (y == x)
eq_flips x y = elim (cases_eq x y) [
  | inl same ↦ eq-eqb x y same ∙ sym (eq-eqb y x (sym same))
  | inr differ ↦ ne_eqb x y differ ∙ sym (ne_eqb y x (λ e. differ (sym e)))
]

range_differs : (n : ℕ) → AllPairs (λ x y. x ≢ y) (range_with_len 0 n)
range_differs n i j d lt low same =
    let size = length-range_with_len 0 n in
    let first = get_or-range_with_len 0 n i d (omega arith) in
    let second = get_or-range_with_len 0 n j d (omega arith) in
    omega (arith, first, second, same)

module _ (inst : InstanceView) (plan : List Slot) (turns : List PlannedStart)
    (permutation : IsPermutation (map (turn_of plan) (range_with_len 0 (length inst.tasks))) turns) (sorted : IsSorted turn_cmp turns) where
  abbrev n : ℕ
  n = length inst.tasks

  -- the turn of a task of the instance
  record IsTurn (turn : PlannedStart) : Type 0 where
    low : turn.task < n
    is : turn.start ≡ start_of plan turn.task

  all_turns : All IsTurn turns
  all_turns = All-permutation IsTurn (map (turn_of plan) (range_with_len 0 n)) turns permutation (λ k d lt.
      let within : k < n = omega (arith, length-map-range_with_len (turn_of plan) 0 n) in
      subst IsTurn (sym (get_or-map-range_with_len (turn_of plan) 0 n k k d within (omega arith))) (record { low = within; is = refl }))

  count_is : length turns ≡ n
  count_is = length_permutation (map (turn_of plan) (range_with_len 0 n)) turns permutation ∙ length-map-range_with_len (turn_of plan) 0 n

  numbers : IsPermutation (range_with_len 0 n) (map (λ (t : PlannedStart). t.task) turns)
  numbers =
      subst (λ (ns : List ℕ). IsPermutation ns (map (λ (t : PlannedStart). t.task) turns)) (numbers_are plan (range_with_len 0 n))
      (IsPermutation-map (λ (t : PlannedStart). t.task) (map (turn_of plan) (range_with_len 0 n)) turns permutation)

  inside : (at : ℕ) → at < length turns → task_at turns at < n
  inside at lt = rw (task_read turns at lt) (all_turns at no_turn lt).low

  start_is : (at : ℕ) → at < length turns → (get_or turns at no_turn).start ≡ start_of plan (task_at turns at)
  start_is at lt = (all_turns at no_turn lt).is ∙ ap (start_of plan) (sym (task_read turns at lt))

  there : (j : ℕ) → j < n → ComesAhead turns (length turns) j
  there j lt =
      let (k, low, is) = Contains-permutation (range_with_len 0 n) (map (λ (t : PlannedStart). t.task) turns) j numbers
      (j, omega (arith, length-range_with_len 0 n), get_or-range_with_len 0 n j j lt ∙ zero-add j) in
      let within : k < length turns = omega (arith, low, length-map turns (λ (t : PlannedStart). t.task)) in
      record { place = k; ahead = within; is = get_or-map (λ (t : PlannedStart). t.task) turns k no_turn 0 within ∙ sym (get_or-map (λ (t : PlannedStart). t.task) turns k no_turn j within) ∙ is }

  once : (a b : ℕ) → a < b → b < length turns → task_at turns a ≢ task_at turns b
  once a b lt low =
      AllPairs-from_IsDistinct eq_decides (map (λ (t : PlannedStart). t.task) turns)
      (IsDistinct-IsPermutation (λ (x y : ℕ). x == y) eq_flips (range_with_len 0 n) (map (λ (t : PlannedStart). t.task) turns) numbers
      (IsDistinct-from_AllPairs eq_decides (range_with_len 0 n) (range_differs n))) a b 0 lt (omega (arith, low, length-map turns (λ (t : PlannedStart). t.task)))

  behind : (at i : ℕ) → at < length turns → Leads inst plan i (task_at turns at) → ComesAhead turns at i
  behind at i low leads =
      let found = there i leads.leader in
      elim (cases_order found.place at) [
        | inl same ↦ absurd (let e = ap (λ (k : ℕ). start_of plan (task_at turns k)) same in let f = ap (start_of plan) found.is in omega (arith, e, f, leads.sooner))
        | inr other ↦ elim other [
          | inl before ↦ record { place = found.place; ahead = before; is = found.is }
          | inr after ↦
              let far = sorted_far (λ x y. is_lt (turn_cmp x y)) (ranks_by turn_total (λ (t : PlannedStart). t)) turns sorted at found.place no_turn (omega arith) found.ahead in
              let late = no_sooner (get_or turns at no_turn) (get_or turns found.place no_turn) far in
              let f = ap (start_of plan) found.is in
              absurd (omega (arith, late, start_is at low, start_is found.place found.ahead, f, leads.sooner))
        ]
      ]

  pub sorted_turns : AreTurns inst plan turns
  sorted_turns = record { count = count_is; inside = inside; all_there = there; once = once; behind = behind }
