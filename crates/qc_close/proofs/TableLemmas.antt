-- The table of what each crane's tasks come to: of no tasks, and as one task gets its crane or loses it.
use Rattle.std.proofs.Common.{[], ◌≡◌, ◌≢◌, ℕ, zero, suc, ◌+◌, ◌-◌, ◌*◌, ◌<◌, ◌≤◌, inl, inr, Bool, true, false, ◌&&◌, eqb, cond, List, ◌∷◌, length, get_or, set, filter, replicate, Option, None, Some, refl, ap, sym, subst, ◌∙◌, arith, add-one}
use Rattle.std.proofs.lemmas.Bool.{and_parts, cases_Bool, cases_eq, cases_lt, cond-false, cond-true, eqb-true, false_from_ne_true, false≢true}
use Rattle.std.proofs.lemmas.List.{get_or_past, get_or-replicate, get_or-set_other, get_or-set_same, length-replicate, length-set}
use Rattle.std.specs.List.{range_with_len}
use Rattle.std.specs.Option.{option_map_or}
use Rattle.qc_close.specs.Model.{crane_in, no_cranes, soonest, InstanceView, bay_of, ticks_of, free, task_numbers}
use Rattle.qc_close.specs.Bars.{AreSmall, AreSums, Changes, Everywhere, From, IsGrid, IsTable, UpTo, bars_of, cell, in_row, joined, no_bars, past_bars, row_at, soonest_of, sum_before, sum_from}
use Rattle.qc_close.specs.Spots.{AreSoonest, AreSpots}
use Rattle.qc_close.specs.declared.bars.Bars.{Bars}
use Rattle.qc_close.specs.declared.bars.Table.{Table}
use Rattle.qc_close.specs.declared.bars.TheConstants.{NEVER}
use Rattle.qc_close.specs.declared.spots.Spots.{Spots}
use Rattle.qc_close.proofs.BarLemmas.{bars_cons, bars_same, filter_same, none_joined, none_pass}
use Rattle.qc_close.proofs.CrewLemmas.{none_there}
use Rattle.qc_close.proofs.Members.{Among, filter_among, range_among}
use Rattle.qc_close.proofs.OwnLemmas.{with_next}

-- ---- what the tasks of a cell come to, from the last task to the first

module _ (inst : InstanceView) (cranes : List (Option ℕ)) (p : ℕ → Bool) (count done : ℕ) (bars : Bars) (low : done < count)
    (is : bars ≡ bars_of inst cranes (filter p (range_with_len (count - done) done))) where
  abbrev last : ℕ
  last = count - 1 - done

  abbrev behind : List ℕ
  behind = filter p (range_with_len (count - done) done)

  pub bars_next : (one new : Bars) → p last ≡ true → one.ticks ≡ ticks_of inst last → one.soonest ≡ soonest inst cranes last
      → one.low ≡ bay_of inst last → one.high ≡ bay_of inst last → new ≡ joined one bars → new ≡ bars_of inst cranes (filter p (range_with_len (count - (done + 1)) (done + 1)))
  bars_next one new passes ticks soon bay_low bay_high new_is =
      new_is ∙ ap (joined one) is
      ∙ ap (λ b. joined b (bars_of inst cranes behind)) (bars_same _ _ _ _ _ _ _ _ ticks soon bay_low bay_high)
      ∙ sym (bars_cons inst cranes last behind)
      ∙ ap (bars_of inst cranes) (sym (with_next inst p count done low ∙ cond-true (p last) (last ∷ behind) behind passes))

  pub bars_skip : p last ≡ false → bars ≡ bars_of inst cranes (filter p (range_with_len (count - (done + 1)) (done + 1)))
  bars_skip fails =
      is ∙ ap (bars_of inst cranes) (sym (with_next inst p count done low ∙ cond-false (p last) (last ∷ behind) behind fails))

-- a test that only numbers from a to before b pass
module _ (p : ℕ → Bool) where
  pass_front : (a k m : ℕ) → ((j : ℕ) → a ≤ j → j < a + k → p j ≡ false)
      → filter p (range_with_len a (k + m)) ≡ filter p (range_with_len (a + k) m)
  pass_front a zero m none =
      let same : 0 + m ≡ m = omega arith in
      let here : a ≡ a + 0 = omega arith in
      ap (λ n. filter p (range_with_len a n)) same ∙ ap (λ b. filter p (range_with_len b m)) here
  pass_front a (suc k) m none =
      let more : suc k + m ≡ suc (k + m) = omega arith in
      let on : a + 1 + k ≡ a + suc k = omega arith in
      ap (λ n. filter p (range_with_len a n)) more
      ∙ cond-false (p a) (a ∷ filter p (range_with_len (a + 1) (k + m))) (filter p (range_with_len (a + 1) (k + m)))
      (none a (omega arith) (omega arith))
      ∙ pass_front (a + 1) k m (λ j up low. none j (omega arith) (omega arith))
      ∙ ap (λ b. filter p (range_with_len b m)) on

  pass_back : (a m k : ℕ) → ((j : ℕ) → a + m ≤ j → j < a + (m + k) → p j ≡ false)
      → filter p (range_with_len a (m + k)) ≡ filter p (range_with_len a m)
  pass_back a zero k none =
      none_pass p (range_with_len a (0 + k)) (λ j b. let r = range_among j a (0 + k) b in none j (omega (arith, r.0)) r.1)
  pass_back a (suc m) k none =
      let more : suc m + k ≡ suc (m + k) = omega arith in
      ap (λ n. filter p (range_with_len a n)) more
      ∙ ap (λ js. cond (p a) (a ∷ js) js) (pass_back (a + 1) m k (λ j up low. none j (omega arith) (omega arith)))

  pub pass_within : (a b n : ℕ) → ((j : ℕ) → j < n → p j ≡ true → (a ≤ j) × (j < b)) → b ≤ n
      → filter p (range_with_len 0 n) ≡ filter p (range_with_len (b - (b - a)) (b - a))
  pass_within a b n within le =
      let fails = λ (j : ℕ) (out : p j ≡ true → ⊥). false_from_ne_true (p j) out in
      let all : n ≡ b - (b - a) + (n - (b - (b - a))) = omega arith in
      let rest : n - (b - (b - a)) ≡ b - a + (n - b) = omega arith in
      let from : 0 + (b - (b - a)) ≡ b - (b - a) = omega arith in
      ap (λ m. filter p (range_with_len 0 m)) all
      ∙ pass_front 0 (b - (b - a)) (n - (b - (b - a))) (λ j up low. fails j (λ t. let w = within j (omega arith) t in omega (arith, w.0, w.1)))
      ∙ ap (λ s. filter p (range_with_len s (n - (b - (b - a))))) from
      ∙ ap (λ m. filter p (range_with_len (b - (b - a)) m)) rest
      ∙ pass_back (b - (b - a)) (b - a) (n - b) (λ j up low. fails j (λ t. let w = within j (omega arith) t in omega (arith, w.0, w.1)))

-- a task of a row has the row's crane
has_some : (o : Option ℕ) (row : ℕ) → option_map_or (λ v. eqb (v + 1) row) o false ≡ true
    → (v : ℕ) × (o ≡ Some v) × (v + 1 ≡ row)
has_some None row t = absurd (false≢true t)
has_some (Some v) row t = (v, refl, eqb-true (v + 1) row t)

pub soonest_at : (inst : InstanceView) (cranes : List (Option ℕ)) (list : List ℕ) → AreSoonest inst cranes list
    → (spots : List ℕ) (row k j : ℕ) → row_at cranes spots row k j ≡ true → get_or list j 0 ≡ soonest inst cranes j
soonest_at inst cranes list s spots row k j t =
    let r = has_some (crane_in cranes j) row (and_parts (in_row cranes row j) (eqb (get_or spots j 0) k) t).0 in
    s.is j r.0 r.1 ∙ sym (ap (λ (o : Option ℕ). option_map_or (free inst j) o 0) r.1)

pub bars_within : (inst : InstanceView) (cranes : List (Option ℕ)) (spots : List ℕ) (row spot first behind done : ℕ) (bars : Bars)
    → length spots ≡ length inst.tasks → ((j : ℕ) → j < length spots → get_or spots j 0 ≡ spot → (first ≤ j) × (j < behind))
    → behind ≤ length inst.tasks → done ≡ behind - first
    → bars ≡ bars_of inst cranes (filter (row_at cranes spots row spot) (range_with_len (behind - done) done))
    → bars ≡ bars_of inst cranes (filter (row_at cranes spots row spot) (task_numbers inst))
bars_within inst cranes spots row spot first behind done bars many within few end is =
    is
    ∙ ap (λ n. bars_of inst cranes (filter (row_at cranes spots row spot) (range_with_len (behind - n) n))) end
    ∙ ap (bars_of inst cranes) (sym (pass_within (row_at cranes spots row spot) first behind (length inst.tasks) (λ j low t.
    within j (omega (arith, low, many)) (eqb-true (get_or spots j 0) spot (and_parts (in_row cranes row j) (eqb (get_or spots j 0) spot) t).1)) few))

-- ---- sums over a row

before_same : (g h : List Bars) (r k : ℕ) → ((i : ℕ) → i < k → cell g r i ≡ cell h r i) → sum_before g r k ≡ sum_before h r k
before_same g h r zero same = refl
before_same g h r (suc k) same =
    ap (λ b. joined b (cell g r k)) (before_same g h r k (λ i low. same i (omega arith)))
    ∙ ap (joined (sum_before h r k)) (same k (omega arith))

from_same : (g h : List Bars) (r k n : ℕ) → ((i : ℕ) → k ≤ i → i < k + n → cell g r i ≡ cell h r i)
    → sum_from g r k n ≡ sum_from h r k n
from_same g h r k zero same = refl
from_same g h r k (suc n) same =
    ap (λ b. joined b (sum_from g r (k + 1) n)) (same k (omega arith) (omega arith))
    ∙ ap (joined (cell h r k)) (from_same g h r (k + 1) n (λ i up low. same i (omega arith) (omega arith)))

pub before_next : (grid : List Bars) (r k : ℕ) → joined (sum_before grid r k) (cell grid r k) ≡ sum_before grid r (k + 1)
before_next grid r k = ap (sum_before grid r) (sym (add-one k))

-- one sum more
pub sums_put : (P Q : ℕ → ℕ → Type 0) (f : ℕ → ℕ → Bars) (count row k : ℕ) (sums : List Bars) (new : Bars) → count ≤ 240
    → row < 10 → k ≤ count → AreSums P f count sums → new ≡ f row k
    → ((r i : ℕ) → Q r i → (r ≡ row → i ≢ k) → P r i) → AreSums Q f count (set sums (241 * row + k) new)
sums_put P Q f count row k sums new few low_row low_k a is known = record {
  many = length-set sums (241 * row + k) new ∙ a.many;
  each = λ r i low_r le q. elim (cases_eq (241 * r + i) (241 * row + k)) [
    | inl same ↦
        let r_is : r ≡ row = omega (arith, same, few, le, low_k) in
        let i_is : i ≡ k = omega (arith, same, r_is) in
        subst (λ (n : ℕ). get_or (set sums (241 * row + k) new) n past_bars ≡ f r i) (sym same)
        (get_or-set_same sums (241 * row + k) new past_bars (omega (arith, a.many, few, low_row, low_k))
        ∙ is ∙ ap (λ m. f m k) (sym r_is) ∙ ap (f r) (sym i_is))
    | inr differ ↦
        get_or-set_other sums (241 * row + k) (241 * r + i) new past_bars differ
        ∙ a.each r i low_r le (known r i q (λ e g. differ (omega (arith, e, g))))
  ];
}

-- ---- another cell

module _ (grid : List Bars) (row spot : ℕ) (new : Bars) (low_row : row < 10) (count : ℕ) (few : count ≤ 240) (inside : spot < count) where
  abbrev put : List Bars
  put = set grid (240 * row + spot) new

  other_cell : (r i : ℕ) → i < 240 → (r ≡ row → i ≢ spot) → cell grid r i ≡ cell put r i
  other_cell r i low_i differ =
      sym (get_or-set_other grid (240 * row + spot) (240 * r + i) new past_bars (λ e.
      let r_is : r ≡ row = omega (arith, e, few, inside, low_i) in
      differ r_is (omega (arith, e, r_is))))

  pub before_put : (sums : List Bars) → AreSums Everywhere (sum_before grid) count sums
      → AreSums (UpTo row spot) (sum_before put) count sums
  before_put sums a = record {
    many = a.many;
    each = λ r k low_r le known.
        a.each r k low_r le tt
        ∙ before_same grid put r k (λ i less. other_cell r i (omega arith) (λ e f. omega (arith, known e, less, f)));
  }

  pub from_put : (sums : List Bars) → AreSums Everywhere (λ r k. sum_from grid r k (count - k)) count sums
      → AreSums (From row (spot + 1)) (λ r k. sum_from put r k (count - k)) count sums
  from_put sums a = record {
    many = a.many;
    each = λ r k low_r le known.
        a.each r k low_r le tt
        ∙ from_same grid put r k (count - k) (λ i up less. other_cell r i (omega arith) (λ e f. omega (arith, known e, up, f)));
  }

-- ---- one task with another crane

bars_alike : (inst : InstanceView) (a b : List (Option ℕ)) (js : List ℕ)
    → ((j : ℕ) → Among js j → soonest inst a j ≡ soonest inst b j) → bars_of inst a js ≡ bars_of inst b js
bars_alike inst a b js same = bars_same _ _ _ _ _ _ _ _ refl (by js same) refl refl
  where
    by : (js : List ℕ) → ((j : ℕ) → Among js j → soonest inst a j ≡ soonest inst b j) → soonest_of inst a js ≡ soonest_of inst b js
    by [] same = refl
    by (j ∷ js) same = omega (arith, same j (inl refl), by js (λ k c. same k (inr c)))

module _ (inst : InstanceView) (olds cranes : List (Option ℕ)) (spots : List ℕ) (j w : ℕ) (c : Changes olds cranes j w) where
  abbrev here : ℕ
  here = get_or spots j 0

  -- it lies in no other cell
  off : (cs : List (Option ℕ)) → ((v : ℕ) → crane_in cs j ≡ Some v → v ≡ w) → (row k : ℕ) → (row ≡ w + 1 → k ≢ here)
      → row_at cs spots row k j ≡ false
  off cs only row k differ = elim (cases_Bool (row_at cs spots row k j)) [
    | inl t ↦
        let both = and_parts (in_row cs row j) (eqb here k) t in
        let r = has_some (crane_in cs j) row both.0 in
        let crane = only r.0 r.1 in
        let k_is = eqb-true here k both.1 in
        absurd (differ (omega (arith, crane, r.2)) (sym k_is))
    | inr f ↦ f
  ]

  cells_same : (row k : ℕ) → (row ≡ w + 1 → k ≢ here)
      → bars_of inst olds (filter (row_at olds spots row k) (task_numbers inst))
      ≡ bars_of inst cranes (filter (row_at cranes spots row k) (task_numbers inst))
  cells_same row k differ =
      ap (bars_of inst olds) (filter_same (row_at olds spots row k) (row_at cranes spots row k) (task_numbers inst) (λ i a. elim (cases_eq i j) [
        | inl same ↦
            ap (row_at olds spots row k) same ∙ off olds c.before row k differ ∙ sym (off cranes c.after row k differ)
            ∙ ap (row_at cranes spots row k) (sym same)
        | inr other ↦ ap (λ (o : Option ℕ). option_map_or (λ v. eqb (v + 1) row) o false && eqb (get_or spots i 0) k) (c.others i other)
      ]))
      ∙ bars_alike inst olds cranes (filter (row_at cranes spots row k) (task_numbers inst)) (λ i a.
      let passes = (filter_among (row_at cranes spots row k) (task_numbers inst) i a).1 in
      ap (λ (o : Option ℕ). option_map_or (free inst i) o 0) (c.others i (λ same.
      false≢true (sym (off cranes c.after row k differ) ∙ ap (row_at cranes spots row k) (sym same) ∙ passes))))

  pub cells_put : (grid : List Bars) (bars : Bars) → w + 1 < 10 → here < 240 → IsGrid inst olds spots grid
      → bars ≡ bars_of inst cranes (filter (row_at cranes spots (w + 1) here) (task_numbers inst))
      → IsGrid inst cranes spots (set grid (240 * (w + 1) + here) bars)
  cells_put grid bars low_w low_here g is = record {
    many = length-set grid (240 * (w + 1) + here) bars ∙ g.many;
    each = λ row k low_row low_k. elim (cases_eq (240 * row + k) (240 * (w + 1) + here)) [
      | inl same ↦
          let row_is : row ≡ w + 1 = omega (arith, same, low_here, low_k) in
          let k_is : k ≡ here = omega (arith, same, row_is) in
          subst (λ (n : ℕ). get_or (set grid (240 * (w + 1) + here) bars) n past_bars ≡ bars_of inst cranes (filter (row_at cranes spots row k) (task_numbers inst))) (sym same)
          (get_or-set_same grid (240 * (w + 1) + here) bars past_bars (omega (arith, g.many, low_w, low_here))
          ∙ is
          ∙ ap (λ r. bars_of inst cranes (filter (row_at cranes spots r here) (task_numbers inst))) (sym row_is)
          ∙ ap (λ n. bars_of inst cranes (filter (row_at cranes spots row n) (task_numbers inst))) (sym k_is))
      | inr differ ↦
          get_or-set_other grid (240 * (w + 1) + here) (240 * row + k) bars past_bars differ
          ∙ g.each row k low_row low_k
          ∙ cells_same row k (λ e f. differ (omega (arith, e, f)))
    ];
  }

  module _ (s : Spots) (spots_is : spots ≡ s.of_task.items) (t new : Table) (was : IsTable inst olds s t) (low_w : w + 1 < 10)
      (few : length s.bays.items ≤ 240) (spot count : ℕ) (spot_is : spot ≡ here) (inside : spot < count)
      (count_is : count ≡ length s.bays.items) (bars : Bars) where
    pub table_kept : ((i : ℕ) → soonest inst cranes i ≤ NEVER)
        → bars ≡ bars_of inst cranes (filter (row_at cranes spots (w + 1) spot) (task_numbers inst))
        → new.grid.items ≡ set t.grid.items (240 * (w + 1) + spot) bars → AreSmall new.grid.items
        → AreSums Everywhere (sum_before new.grid.items) count new.before.items
        → AreSums Everywhere (λ r k. sum_from new.grid.items r k (count - k)) count new.from.items
        → IsTable inst cranes s new
    table_kept soon bars_is grid_is small before from = record {
      soon = soon;
      cells = subst (IsGrid inst cranes s.of_task.items) (sym (grid_is ∙ ap (λ i. set t.grid.items (240 * (w + 1) + i) bars) spot_is))
          (subst (λ (xs : List ℕ). IsGrid inst cranes xs (set t.grid.items (240 * (w + 1) + here) bars)) spots_is
          (cells_put t.grid.items bars low_w (omega (arith, spot_is, inside, count_is, few))
          (subst (λ (xs : List ℕ). IsGrid inst olds xs t.grid.items) (sym spots_is) was.cells)
          (bars_is ∙ ap (λ i. bars_of inst cranes (filter (row_at cranes spots (w + 1) i) (task_numbers inst))) spot_is)));
      small = small;
      befores = subst (λ (n : ℕ). AreSums Everywhere (sum_before new.grid.items) n new.before.items) count_is before;
      froms = subst (λ (n : ℕ). AreSums Everywhere (λ r k. sum_from new.grid.items r k (n - k)) n new.from.items) count_is from;
    }

-- ---- no task has a crane

empty_at : (n i : ℕ) (xs : List Bars) → xs ≡ replicate n no_bars → i < n → get_or xs i past_bars ≡ no_bars
empty_at n i xs is low = ap (λ (ys : List Bars). get_or ys i past_bars) is ∙ get_or-replicate n i no_bars past_bars low

before_none : (grid : List Bars) (r k : ℕ) → ((i : ℕ) → i < 240 → cell grid r i ≡ no_bars) → k ≤ 240 → sum_before grid r k ≡ no_bars
before_none grid r zero none le = refl
before_none grid r (suc k) none le =
    ap (λ b. joined b (cell grid r k)) (before_none grid r k none (omega arith)) ∙ ap (joined no_bars) (none k (omega arith)) ∙ sym none_joined

from_none : (grid : List Bars) (r k n : ℕ) → ((i : ℕ) → i < 240 → cell grid r i ≡ no_bars) → k + n ≤ 240 → sum_from grid r k n ≡ no_bars
from_none grid r k zero none le = refl
from_none grid r k (suc n) none le =
    ap (λ b. joined b (sum_from grid r (k + 1) n)) (none k (omega arith)) ∙ ap (joined no_bars) (from_none grid r (k + 1) n none (omega arith))
    ∙ sym none_joined

pub no_table : (inst : InstanceView) (s : Spots) → AreSpots inst s → (t : Table) (n m : ℕ) → n ≡ 2400 → m ≡ 2410
    → t.grid.items ≡ replicate n no_bars → t.before.items ≡ replicate m no_bars → t.from.items ≡ replicate m no_bars
    → IsTable inst (no_cranes inst) s t
no_table inst s known t n m n_is m_is grid before from =
    let nothing = λ (j : ℕ). none_there (length inst.tasks) j in
    let few : length s.bays.items ≤ 240 = known.bays.along.few in
    let none = λ (r i : ℕ) (low_r : r < 10) (low : i < 240). empty_at n (240 * r + i) t.grid.items grid (omega (arith, n_is)) in
    record {
      soon = λ j. omega (arith, ap (λ (o : Option ℕ). option_map_or (free inst j) o 0) (nothing j));
      cells = record {
        many = ap length grid ∙ length-replicate n no_bars ∙ n_is;
        each = λ row k low_row low_k.
            none row k low_row low_k
            ∙ sym (ap (bars_of inst (no_cranes inst)) (none_pass (row_at (no_cranes inst) s.of_task.items row k) (task_numbers inst)
            (λ j a. ap (λ (o : Option ℕ). option_map_or (λ v. eqb (v + 1) row) o false && eqb (get_or s.of_task.items j 0) k) (nothing j))));
      };
      small = λ i. elim (cases_lt i n) [
        | inl low ↦ omega (arith, ap (λ (b : Bars). b.ticks) (empty_at n i t.grid.items grid low))
        | inr past ↦
            omega (arith, ap (λ (b : Bars). b.ticks) (get_or_past t.grid.items i past_bars (omega (arith, ap length grid, length-replicate n no_bars, past))))
      ];
      befores = record {
        many = ap length before ∙ length-replicate m no_bars ∙ m_is;
        each = λ r k low_r le known.
            empty_at m (241 * r + k) t.before.items before (omega (arith, m_is, le, few))
            ∙ sym (before_none t.grid.items r k (λ i low. none r i low_r low) (omega (arith, le, few)));
      };
      froms = record {
        many = ap length from ∙ length-replicate m no_bars ∙ m_is;
        each = λ r k low_r le known.
            empty_at m (241 * r + k) t.from.items from (omega (arith, m_is, le, few))
            ∙ sym (from_none t.grid.items r k (length s.bays.items - k) (λ i low. none r i low_r low) (omega (arith, le, few)));
      };
    }
