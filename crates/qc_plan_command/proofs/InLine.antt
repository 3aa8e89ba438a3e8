-- Where each task lies in a crane's reach and nothing is before itself, the tasks can be done one after the other, as far
-- apart in time as any rule may ask for.
use Rattle.std.proofs.Common.{◌≡◌, ◌≢◌, ◌⊎◌, ◌<◌, ◌≤◌, ◌+◌, ◌*◌, ℕ, zero, suc, max, ◌≤ℤ◌, List, length, get_or, map, inl, inr, ap, arith, refl}
use Rattle.std.proofs.Math.Nat.{mul-add, mul-le-mul_left}
use Rattle.std.specs.List.{range_with_len}
use Rattle.std.proofs.lemmas.Bool.{cases_lt}
use Rattle.std.proofs.lemmas.List.FromFn.{get_or-map-range_with_len, length-map-range_with_len}
use Rattle.qc_model.specs.declared.schedule.Slot.{Slot}
use Rattle.qc_model.specs.Instance.{InstanceView, IsApart, IsBefore, bay_of, crane, release_of, ticks_of}
use Rattle.qc_model.specs.Rules.{Feasible, IsClear, crane_of, no_slot, slot_distance, start_of}
use Rattle.qc_model.specs.Ticks.{arrival, berth_clear, task_distance, travel_between}

-- the greatest of the first values
most : (ℕ → ℕ) → ℕ → ℕ
most f zero = 0
most f (suc k) = max (most f k) (f k)

most_le : (f : ℕ → ℕ) (k i : ℕ) → i < k → f i ≤ most f k
unfolding most
most_le f zero i low = absurd (omega (arith, low))
most_le f (suc k) i low = elim (cases_lt i k) [
  | inl below ↦ omega (arith, most_le f k i below)
  | inr last ↦ let same : i ≡ k = omega (arith, low, last) in omega (arith, ap f same)
]

-- what lies lower is a whole step lower
steps : (m x y : ℕ) → x < y → m * x + m ≤ m * y
steps m x y low =
    let next : x + 1 ≤ y = omega (arith, low) in
    omega (arith, mul-add m x 1, mul-le-mul_left m next)

-- each task has a crane that reaches it, and a rank that rises along what is before what
pub record CanLine (inst : InstanceView) : Type 0 where
  pub rank : ℕ → ℕ
  pub cranes : ℕ → ℕ
  pub rises : (i j : ℕ) → IsBefore inst i j → rank i < rank j
  pub apart : (i j : ℕ) → IsApart inst i j → i ≢ j
  pub range : (j : ℕ) → j < length inst.tasks → cranes j < length inst.cranes
  pub reach : (j : ℕ) → j < length inst.tasks
      → ((crane inst (cranes j)).from ≤ℤ bay_of inst j) × (bay_of inst j ≤ℤ (crane inst (cranes j)).to)

module _ (inst : InstanceView) (can : CanLine inst) where
  -- the ticks that two tasks and their cranes may ask for, and those that all may
  pair_ticks : ℕ → ℕ → ℕ
  pair_ticks i j =
      travel_between inst (bay_of inst i) (bay_of inst j) + task_distance inst i (can.cranes i) j (can.cranes j)

  berth_ticks : ℕ → ℕ → ℕ
  berth_ticks j v = berth_clear inst v (can.cranes j) (bay_of inst j)

  far : ℕ → ℕ
  far j = ticks_of inst j + release_of inst j + arrival inst (can.cranes j) (bay_of inst j)
      + most (berth_ticks j) (length inst.cranes)
      + most (pair_ticks j) (length inst.tasks) + most (λ i. pair_ticks i j) (length inst.tasks)

  gap : ℕ
  gap = most far (length inst.tasks)

  key : ℕ → ℕ
  key j = 1 + length inst.tasks * can.rank j + j

  slot : ℕ → Slot
  slot j = record { crane = can.cranes j; start = gap * key j }

  pub in_line : List Slot
  in_line = map slot (range_with_len 0 (length inst.tasks))

  slot_at : (j : ℕ) → j < length inst.tasks → get_or in_line j no_slot ≡ record { crane = can.cranes j; start = gap * key j }
  unfolding in_line slot
  slot_at j low = get_or-map-range_with_len slot 0 (length inst.tasks) j j no_slot low (omega arith)

  crane_is : (j : ℕ) → j < length inst.tasks → crane_of in_line j ≡ can.cranes j
  crane_is j low = ap (λ (s : Slot). s.crane) (slot_at j low)

  start_is : (j : ℕ) → j < length inst.tasks → start_of in_line j ≡ gap * key j
  start_is j low = ap (λ (s : Slot). s.start) (slot_at j low)

  -- a task of lower rank, or of the same and a lower number, comes first
  below : (i j : ℕ) → i < length inst.tasks → can.rank i < can.rank j → key i < key j
  unfolding key
  below i j low rank = omega (arith, low, steps (length inst.tasks) (can.rank i) (can.rank j) rank)

  ordered : (i j : ℕ) → i < length inst.tasks → j < length inst.tasks → i ≢ j → (key i < key j) ⊎ (key j < key i)
  unfolding key
  ordered i j il jl other = elim (cases_lt (can.rank i) (can.rank j)) [
    | inl less ↦ inl (below i j il less)
    | inr no_less ↦ elim (cases_lt (can.rank j) (can.rank i)) [
      | inl more ↦ inr (below j i jl more)
      | inr no_more ↦
          let same : can.rank i ≡ can.rank j = omega (arith, no_less, no_more) in
          let times = ap (λ n. length inst.tasks * n) same in
          elim (cases_lt i j) [
            | inl first ↦ inl (omega (arith, first, times))
            | inr last ↦ elim (cases_lt j i) [
              | inl second ↦ inr (omega (arith, second, times))
              | inr still ↦ let one : i ≡ j = omega (arith, last, still) in absurd (other one)
            ]
          ]
    ]
  ]

  -- all that is asked for lies within the gap
  far_le : (j : ℕ) → j < length inst.tasks → far j ≤ gap
  unfolding gap
  far_le j low = most_le far (length inst.tasks) j low

  ahead_le : (i j : ℕ) → i < length inst.tasks → j < length inst.tasks → ticks_of inst i + pair_ticks i j ≤ gap
  unfolding far
  ahead_le i j il jl = omega (arith, far_le i il, most_le (pair_ticks i) (length inst.tasks) j jl)

  back_le : (i j : ℕ) → i < length inst.tasks → j < length inst.tasks → ticks_of inst j + pair_ticks i j ≤ gap
  unfolding far
  back_le i j il jl = omega (arith, far_le j jl, most_le (λ i. pair_ticks i j) (length inst.tasks) i il)

  -- the earlier of two tasks is done long before the later
  clear : (i j ticks : ℕ) → i < length inst.tasks → j < length inst.tasks → i ≢ j
      → ticks_of inst i + ticks ≤ gap → ticks_of inst j + ticks ≤ gap → IsClear inst in_line ticks i j
  clear i j ticks il jl other one two = elim (ordered i j il jl other) [
    | inl first ↦ inl (omega (arith, one, start_is i il, start_is j jl, steps gap (key i) (key j) first))
    | inr last ↦ inr (omega (arith, two, start_is i il, start_is j jl, steps gap (key j) (key i) last))
  ]

  -- and none begins before a gap has passed
  late : (j : ℕ) → j < length inst.tasks → gap ≤ start_of in_line j
  unfolding key
  late j low =
      let some : 0 < key j = omega arith in
      omega (arith, start_is j low, steps gap 0 (key j) some)

  pub line_feasible : Feasible inst in_line
  unfolding in_line pair_ticks berth_ticks far
  line_feasible = record {
    all_tasks = length-map-range_with_len slot 0 (length inst.tasks);
    crane_range = λ j low. rw (crane_is j low) (can.range j low);
    reach = λ j low. rw (crane_is j low) (can.reach j low);
    ready = λ j low. (
      omega (arith, late j low, far_le j low),
      rw (crane_is j low) (omega (arith, late j low, far_le j low)),
    );
    travel = λ i j il jl other same.
        clear i j (travel_between inst (bay_of inst i) (bay_of inst j)) il jl other
        (omega (arith, ahead_le i j il jl)) (omega (arith, back_le i j il jl));
    before = λ i j il jl has.
        omega (
          arith,
          start_is i il,
          start_is j jl,
          far_le i il,
          steps gap (key i) (key j) (below i j il (can.rises i j has)),
        );
    apart = λ i j il jl has.
        clear i j 0 il jl (can.apart i j has) (omega (arith, far_le i il)) (omega (arith, far_le j jl));
    margin = λ i j il jl differ some.
        let ticks : slot_distance inst in_line i j ≡ task_distance inst i (can.cranes i) j (can.cranes j) =
        rw (crane_is i il, crane_is j jl) refl in
        rw ticks (clear i j (task_distance inst i (can.cranes i) j (can.cranes j)) il jl
        (λ e. differ (ap (crane_of in_line) e))
        (omega (arith, ahead_le i j il jl)) (omega (arith, back_le i j il jl)));
    berth = λ j v low vl other some.
        rw (crane_is j low) (omega (arith, late j low, far_le j low, most_le (berth_ticks j) (length inst.cranes) v vl));
  }
