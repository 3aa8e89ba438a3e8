-- Tasks summed up: of two tests that no task passes both of, and of the tasks that bar a crane.
use Rattle.std.proofs.Common.{[], ◌≡◌, ◌≢◌, ℕ, zero, suc, ◌+◌, ◌*◌, ◌^◌, ◌<◌, ◌≤◌, inl, inr, Bool, true, false, ◌&&◌, ◌||◌, eqb, leb, nat_lt, cond, List, ◌∷◌, length, get_or, map, filter, Option, None, Some, IfSome, ℤ, pos, negsuc, ◌≤ℤ◌, int_le, refl, ap, sym, subst, ◌∙◌, arith, add-one}
use Rattle.std.proofs.lemmas.Bool.{and_from, and_parts, cases_lt, cond-false, eq-eqb, eqb-true, false≢true, le-leb, le-ltb, leb-true, lt-leb, lt-ltb, ltb-true, ne_eqb, or_cases, or_left, or_right}
use Rattle.std.proofs.lemmas.Int.{int_max_is, int_min_is, ints}
use Rattle.std.proofs.lemmas.List.Sums.{sum_by-cons}
use Rattle.std.specs.Int.{int_max, int_min}
use Rattle.std.specs.List.{list_all, range_with_len}
use Rattle.std.specs.Option.{option_map_or}
use Rattle.qc_close.specs.Model.{MOST_DISTANCE, MOST_READY, MOST_WORK, Turn, crane_in, both_done, lies, soonest, InstanceView, IsOnRail, Valid, bay_of, task, ticks_of, free, least, highest, lowest, task_numbers, ticks_over}
use Rattle.qc_model.proofs.NodeLemmas.{T_true, true_T}
use Rattle.qc_model.proofs.OnRail.{ticks_bounded}
use Rattle.qc_close.specs.Bars.{AreSmall, IsGrid, bars_before, bars_from, bars_of, cell, done_by, in_row, high_of, joined, lie_in, low_of, no_bars, own_in, row_at, row_before, row_from, soonest_of, sum_before, sum_from, together}
use Rattle.qc_close.specs.Owns.{IsSmall, own_of, with_task}
use Rattle.qc_close.specs.Spots.{AreSoonest}
use Rattle.qc_close.specs.declared.bars.Bars.{Bars}
use Rattle.qc_close.specs.declared.bars.TheConstants.{NEVER}
use Rattle.qc_close.specs.declared.frames.Own.{Own}
use Rattle.qc_close.proofs.CountLemmas.{sum_filter}
use Rattle.qc_close.proofs.CrewLemmas.{sum_few}
use Rattle.qc_close.proofs.Extremes.{highest_to, lowest_from, highest_at, lowest_at}
use Rattle.qc_close.proofs.Members.{Among, all_at, all_from, range_among}
use Rattle.qc_close.proofs.OwnLemmas.{own_cons, small_more}

-- ---- tests

-- two tests that pass alike
pub same_test : (b c : Bool) → (b ≡ true → c ≡ true) → (c ≡ true → b ≡ true) → b ≡ c
same_test true c to from = sym (to refl)
same_test false true to from = from refl
same_test false false to from = refl

pub filter_same : (p q : ℕ → Bool) (js : List ℕ) → ((j : ℕ) → Among js j → p j ≡ q j) → filter p js ≡ filter q js
filter_same p q [] same = refl
filter_same p q (j ∷ js) same =
    ap (λ b. cond b (j ∷ filter p js) (filter p js)) (same j (inl refl))
    ∙ ap (λ ks. cond (q j) (j ∷ ks) ks) (filter_same p q js (λ k a. same k (inr a)))

pub filter_twice : (p q : ℕ → Bool) (js : List ℕ) → filter p (filter q js) ≡ filter (λ j. q j && p j) js
filter_twice p q [] = refl
filter_twice p q (j ∷ js) = by (q j) (p j) (filter_twice p q js)
  where
    by : (b c : Bool) → filter p (filter q js) ≡ filter (λ j. q j && p j) js
        → filter p (cond b (j ∷ filter q js) (filter q js)) ≡ cond (b && p j) (j ∷ filter (λ j. q j && p j) js) (filter (λ j. q j && p j) js)
    by true c rest = ap (λ ks. cond (p j) (j ∷ ks) ks) rest
    by false c rest = rest

-- no task passes
pub none_pass : (p : ℕ → Bool) (js : List ℕ) → ((j : ℕ) → Among js j → p j ≡ false) → filter p js ≡ []
none_pass p [] h = refl
none_pass p (j ∷ js) h =
    cond-false (p j) (j ∷ filter p js) (filter p js) (h j (inl refl)) ∙ none_pass p js (λ k a. h k (inr a))

-- a test is passed where one of two others is, and no task passes both of these
abbrev pub IsSplit : (ℕ → Bool) → (ℕ → Bool) → (ℕ → Bool) → List ℕ → Type 0
IsSplit p q r js = (j : ℕ) → Among js j → (r j ≡ (p j || q j)) × (p j ≡ true → q j ≡ false)

module _ (P : List ℕ → List ℕ → List ℕ → Type 0) (none : P [] [] [])
    (left : (j : ℕ) (a b c : List ℕ) → P a b c → P (j ∷ a) b (j ∷ c))
    (right : (j : ℕ) (a b c : List ℕ) → P a b c → P a (j ∷ b) (j ∷ c)) where
  pub split_by : (p q r : ℕ → Bool) (js : List ℕ) → IsSplit p q r js → P (filter p js) (filter q js) (filter r js)
  split_by p q r [] h = none
  split_by p q r (j ∷ js) h =
      let rest = split_by p q r js (λ k a. h k (inr a)) in
      let this = h j (inl refl) in
      by (p j) (q j) (r j) this.0 this.1 rest
    where
      by : (a b c : Bool) → c ≡ (a || b) → (a ≡ true → b ≡ false)
          → P (filter p js) (filter q js) (filter r js)
          → P (cond a (j ∷ filter p js) (filter p js)) (cond b (j ∷ filter q js) (filter q js)) (cond c (j ∷ filter r js) (filter r js))
      by true true c e apart rest = absurd (false≢true (sym (apart refl)))
      by true false true e apart rest = left j (filter p js) (filter q js) (filter r js) rest
      by true false false e apart rest = absurd (false≢true e)
      by false true true e apart rest = right j (filter p js) (filter q js) (filter r js) rest
      by false true false e apart rest = absurd (false≢true e)
      by false false true e apart rest = absurd (false≢true (sym e))
      by false false false e apart rest = rest

-- ---- bays

min_comm : (a b : ℤ) → int_min a b ≡ int_min b a
min_comm a b = omega (arith, ints, int_min_is a b, int_min_is b a)

max_comm : (a b : ℤ) → int_max a b ≡ int_max b a
max_comm a b = omega (arith, ints, int_max_is a b, int_max_is b a)

min_assoc : (a b c : ℤ) → int_min a (int_min b c) ≡ int_min (int_min a b) c
min_assoc a b c =
    omega (arith, ints, int_min_is a b, int_min_is b c, int_min_is a (int_min b c), int_min_is (int_min a b) c)

max_assoc : (a b c : ℤ) → int_max a (int_max b c) ≡ int_max (int_max a b) c
max_assoc a b c =
    omega (arith, ints, int_max_is a b, int_max_is b c, int_max_is a (int_max b c), int_max_is (int_max a b) c)

min_across : (a b c : ℤ) → int_min a (int_min b c) ≡ int_min b (int_min a c)
min_across a b c = min_assoc a b c ∙ ap (λ x. int_min x c) (min_comm a b) ∙ sym (min_assoc b a c)

max_across : (a b c : ℤ) → int_max a (int_max b c) ≡ int_max b (int_max a c)
max_across a b c = max_assoc a b c ∙ ap (λ x. int_max x c) (max_comm a b) ∙ sym (max_assoc b a c)

-- ---- bars

pub bars_same : (a b c d : ℕ) (l m h k : ℤ) → a ≡ b → c ≡ d → l ≡ m → h ≡ k
    → ◌≡◌ {A = Bars} (record { ticks = a; soonest = c; low = l; high = h }) (record { ticks = b; soonest = d; low = m; high = k })
bars_same a b c d l m h k e f g i =
    let P : ℕ → ℕ → ℤ → ℤ → Bars = λ n s x y. record { ticks = n; soonest = s; low = x; high = y } in
    ap (λ n. P n c l h) e ∙ ap (λ s. P b s l h) f ∙ ap (λ x. P b d x h) g ∙ ap (λ y. P b d m y) i

pub none_joined : no_bars ≡ joined no_bars no_bars
none_joined =
    bars_same _ _ _ _ _ _ _ _ refl (omega arith)
    (omega (arith, ints, int_min_is (pos 1000000) (pos 1000000))) (omega (arith, ints, int_max_is (negsuc 999999) (negsuc 999999)))

module _ (inst : InstanceView) (cranes : List (Option ℕ)) where
  -- one task
  abbrev pub one_task : ℕ → Bars
  one_task j = record { ticks = ticks_of inst j; soonest = soonest inst cranes j; low = bay_of inst j; high = bay_of inst j }

  pub bars_cons : (j : ℕ) (js : List ℕ)
      → bars_of inst cranes (j ∷ js) ≡ joined (one_task j) (bars_of inst cranes js)
  bars_cons j js = bars_same _ _ _ _ _ _ _ _ (sum_by-cons (ticks_of inst) j js) refl refl refl

  pub bars_split : (p q r : ℕ → Bool) (js : List ℕ) → IsSplit p q r js
      → bars_of inst cranes (filter r js) ≡ joined (bars_of inst cranes (filter p js)) (bars_of inst cranes (filter q js))
  bars_split =
      split_by (λ a b c. bars_of inst cranes c ≡ joined (bars_of inst cranes a) (bars_of inst cranes b))
      none_joined
      (λ j a b c e. bars_same _ _ _ _ _ _ _ _
      (omega (arith, sum_by-cons (ticks_of inst) j c, sum_by-cons (ticks_of inst) j a, ap (λ (x : Bars). x.ticks) e))
      (omega (arith, ap (λ (x : Bars). x.soonest) e))
      (ap (int_min (bay_of inst j)) (ap (λ (x : Bars). x.low) e) ∙ min_assoc (bay_of inst j) (low_of inst a) (low_of inst b))
      (ap (int_max (bay_of inst j)) (ap (λ (x : Bars). x.high) e) ∙ max_assoc (bay_of inst j) (high_of inst a) (high_of inst b)))
      (λ j a b c e. bars_same _ _ _ _ _ _ _ _
      (omega (arith, sum_by-cons (ticks_of inst) j c, sum_by-cons (ticks_of inst) j b, ap (λ (x : Bars). x.ticks) e))
      (omega (arith, ap (λ (x : Bars). x.soonest) e))
      (ap (int_min (bay_of inst j)) (ap (λ (x : Bars). x.low) e) ∙ min_across (bay_of inst j) (low_of inst a) (low_of inst b))
      (ap (int_max (bay_of inst j)) (ap (λ (x : Bars). x.high) e) ∙ max_across (bay_of inst j) (high_of inst a) (high_of inst b)))

  pub soonest_low : (js : List ℕ) → soonest_of inst cranes js ≤ NEVER
  soonest_low [] = omega arith
  soonest_low (j ∷ js) = omega (arith, soonest_low js)

  pub ticks_low : Valid inst → (p : ℕ → Bool) (a n : ℕ) → a + n ≤ length inst.tasks
      → ticks_over inst (filter p (range_with_len a n)) ≤ n * MOST_WORK
  ticks_low valid p a n inside =
      omega (
        arith,
        sum_filter (ticks_of inst) p (range_with_len a n),
        sum_few (λ j. cond (p j) (ticks_of inst j) 0) MOST_WORK a n (λ j low. one (p j) (ticks_of inst j) (ticks_bounded inst valid j (omega arith))),
      )
    where
      one : (b : Bool) (n : ℕ) → n ≤ MOST_WORK → cond b n 0 ≤ MOST_WORK
      one true n le = le
      one false n le = omega arith

  pub bars_low : Valid inst → (p : ℕ → Bool) → (bars_of inst cranes (filter p (task_numbers inst))).ticks < 2 ^ 38
  bars_low valid p = let low = ticks_low valid p 0 (length inst.tasks) (omega arith) in omega (arith, low, valid.tasks.count)

  -- with the tasks that are listed, when a task can start is known
  pub soon_of : (soonest_list : List ℕ) → AreSoonest inst cranes soonest_list → (j : ℕ) → soonest inst cranes j ≤ NEVER
  soon_of list s j = by (crane_in cranes j) (s.bound j)
    where
      by : (o : Option ℕ) → ((k : ℕ) → o ≡ Some k → free inst j k ≤ MOST_READY + MOST_DISTANCE) → option_map_or (free inst j) o 0 ≤ NEVER
      by None h = omega arith
      by (Some k) h = omega (arith, h k refl)

  least_soonest : ((j : ℕ) → soonest inst cranes j ≤ NEVER) → (j : ℕ) (js : List ℕ)
      → soonest_of inst cranes (j ∷ js) ≡ least (map (soonest inst cranes) (j ∷ js))
  least_soonest soon j [] = omega (arith, soon j)
  least_soonest soon j (k ∷ ks) = let rest = least_soonest soon k ks in omega (arith, rest)

  -- what code computes of both is what is to be computed
  pub both_same : ((j : ℕ) → soonest inst cranes j ≤ NEVER) → (turn : Turn) (w : ℕ) (is bs : List ℕ)
      → ((j : ℕ) → Among bs j → 1 ≤ ticks_of inst j)
      → done_by inst turn w (own_of inst is) (bars_of inst cranes bs) ≡ both_done inst turn cranes w is bs
  both_same soon turn w [] [] some = refl
  both_same soon turn w (i ∷ is) [] some = refl
  both_same soon turn w [] (b ∷ bs) some = zero_either (eqb (ticks_over inst (b ∷ bs)) 0)
    where
      zero_either : (c : Bool) → ◌≡◌ {A = ℕ} (cond c 0 0) 0
      zero_either true = refl
      zero_either false = refl
  both_same soon turn w (i ∷ is) (b ∷ bs) some =
      let more : ticks_over inst (b ∷ bs) ≢ 0 = λ e. omega (arith, some b (inl refl), sum_by-cons (ticks_of inst) b bs, e) in
      cond-false (eqb (ticks_over inst (b ∷ bs)) 0) 0 _ (ne_eqb (ticks_over inst (b ∷ bs)) 0 more)
      ∙ omega (arith, least_soonest soon b bs)

-- ---- own tasks

own_same : (a b : ℕ) (l m h k : ℤ) → a ≡ b → l ≡ m → h ≡ k
    → ◌≡◌ {A = Own} (record { ticks = a; low = l; high = h }) (record { ticks = b; low = m; high = k })
own_same a b l m h k e f g =
    let P : ℕ → ℤ → ℤ → Own = λ n x y. record { ticks = n; low = x; high = y } in
    ap (λ n. P n l h) e ∙ ap (λ x. P b x h) f ∙ ap (λ y. P b m y) g

together_comm : (a b : Option Own) → together a b ≡ together b a
together_comm None None = refl
together_comm None (Some b) = refl
together_comm (Some a) None = refl
together_comm (Some a) (Some b) =
    ap Some (own_same _ _ _ _ _ _ (omega arith) (min_comm a.low b.low) (max_comm a.high b.high))

together_assoc : (a b c : Option Own) → together a (together b c) ≡ together (together a b) c
together_assoc None b c = refl
together_assoc (Some a) None c = refl
together_assoc (Some a) (Some b) None = refl
together_assoc (Some a) (Some b) (Some c) =
    ap Some (own_same _ _ _ _ _ _ (omega arith) (min_assoc a.low b.low c.low) (max_assoc a.high b.high c.high))

module _ (inst : InstanceView) where
  abbrev one_of : ℕ → Option Own
  one_of j = Some (record { ticks = ticks_of inst j; low = bay_of inst j; high = bay_of inst j })

  own_more : (j : ℕ) (js : List ℕ) → own_of inst (j ∷ js) ≡ together (one_of j) (own_of inst js)
  own_more j js = own_cons inst j js ∙ by (own_of inst js)
    where
      by : (o : Option Own) → Some (with_task o (task inst j)) ≡ together (one_of j) o
      by None = refl
      by (Some o) = refl

  pub own_split : (p q r : ℕ → Bool) (js : List ℕ) → IsSplit p q r js
      → own_of inst (filter r js) ≡ together (own_of inst (filter p js)) (own_of inst (filter q js))
  own_split =
      split_by (λ a b c. own_of inst c ≡ together (own_of inst a) (own_of inst b)) refl
      (λ j a b c e.
      own_more j c ∙ ap (together (one_of j)) e ∙ together_assoc (one_of j) (own_of inst a) (own_of inst b)
      ∙ ap (λ o. together o (own_of inst b)) (sym (own_more j a)))
      (λ j a b c e.
      own_more j c ∙ ap (together (one_of j)) e ∙ together_assoc (one_of j) (own_of inst a) (own_of inst b)
      ∙ ap (λ o. together o (own_of inst b)) (together_comm (one_of j) (own_of inst a))
      ∙ sym (together_assoc (own_of inst a) (one_of j) (own_of inst b))
      ∙ ap (together (own_of inst a)) (sym (own_more j b)))

  -- the bays of some tasks on the rail are those of their sums
  low_is : (j : ℕ) (js : List ℕ) → ((k : ℕ) → Among (j ∷ js) k → IsOnRail (bay_of inst k)) → low_of inst (j ∷ js) ≡ lowest inst j js
  low_is j [] rail =
      let near = rail j (inl refl) in
      omega (arith, ints, int_min_is (bay_of inst j) (pos 1000000), near.1)
  low_is j (i ∷ is) rail = ap (int_min (bay_of inst j)) (low_is i is (λ k a. rail k (inr a)))

  high_is : (j : ℕ) (js : List ℕ) → ((k : ℕ) → Among (j ∷ js) k → IsOnRail (bay_of inst k)) → high_of inst (j ∷ js) ≡ highest inst j js
  high_is j [] rail =
      let near = rail j (inl refl) in
      omega (arith, ints, int_max_is (bay_of inst j) (negsuc 999999), near.0)
  high_is j (i ∷ is) rail = ap (int_max (bay_of inst j)) (high_is i is (λ k a. rail k (inr a)))

  pub own_in_is : (cranes : List (Option ℕ)) (js : List ℕ) → ((k : ℕ) → Among js k → (1 ≤ ticks_of inst k) × IsOnRail (bay_of inst k))
      → own_in (bars_of inst cranes js) ≡ own_of inst js
  own_in_is cranes [] h = refl
  own_in_is cranes (j ∷ js) h =
      let more : ticks_over inst (j ∷ js) ≢ 0 = λ e. omega (arith, (h j (inl refl)).0, sum_by-cons (ticks_of inst) j js, e) in
      cond-false (eqb (ticks_over inst (j ∷ js)) 0) None _ (ne_eqb (ticks_over inst (j ∷ js)) 0 more)
      ∙ ap Some (own_same _ _ _ _ _ _ refl (low_is j js (λ k a. (h k a).1)) (high_is j js (λ k a. (h k a).1)))

  pub own_small : Valid inst → (js : List ℕ) → ((k : ℕ) → Among js k → (k < length inst.tasks) × IsOnRail (bay_of inst k))
      → IfSome (own_of inst js) (IsSmall (length js))
  own_small valid [] h = tt
  own_small valid (j ∷ js) h =
      let here = h j (inl refl) in
      let rest = small_more (length js) (own_of inst js) (task inst j) (own_small valid js (λ k a. h k (inr a))) (ticks_bounded inst valid j here.0) here.1 in
      let long : length js + 1 ≡ length (j ∷ js) = omega arith in
      subst (λ (o : Option Own). IfSome o (IsSmall (length (j ∷ js)))) (sym (own_cons inst j js))
      (subst (λ (n : ℕ). IsSmall n (with_task (own_of inst js) (task inst j))) long rest)

  -- all of them lie from one bay to another
  pub lie_all : (low high : ℤ) (js : List ℕ) → list_all (lies inst low high) js ≡ lie_in (own_of inst js) low high
  lie_all low high [] = refl
  lie_all low high (j ∷ js) = same_test _ _
      (λ t.
      let each = λ (k : ℕ) (a : Among (j ∷ js) k). parts k (all_at (lies inst low high) (j ∷ js) k a t) in
      let from = lowest_from inst low j js (λ k a. (each k a).0) in
      let to = highest_to inst high j js (λ k a. (each k a).1) in
      and_from (int_le low (lowest inst j js)) (int_le (highest inst j js) high) (T_true from.le) (T_true to.le))
      (λ t.
      let both = and_parts (int_le low (lowest inst j js)) (int_le (highest inst j js) high) t in
      let from : low ≤ℤ lowest inst j js = record { le = true_T both.0 } in
      let to : highest inst j js ≤ℤ high = record { le = true_T both.1 } in
      all_from (lies inst low high) (j ∷ js) (λ k a.
      let up = lowest_at inst j js k a in
      let down = highest_at inst j js k a in
      let one : low ≤ℤ bay_of inst k = omega (arith, ints, from, up) in
      let two : bay_of inst k ≤ℤ high = omega (arith, ints, to, down) in
      and_from (int_le low (bay_of inst k)) (int_le (bay_of inst k) high) (T_true one.le) (T_true two.le)))
    where
      parts : (k : ℕ) → lies inst low high k ≡ true → (low ≤ℤ bay_of inst k) × (bay_of inst k ≤ℤ high)
      parts k t =
          let both = and_parts (int_le low (bay_of inst k)) (int_le (bay_of inst k) high) t in
          (record { le = true_T both.0 }, record { le = true_T both.1 })

-- ---- cells in a row

pub before_low : (grid : List Bars) (row k : ℕ) → AreSmall grid → (sum_before grid row k).ticks ≤ k * 2 ^ 38
before_low grid row zero small = omega arith
before_low grid row (suc k) small = omega (arith, before_low grid row k small, small (240 * row + k))

pub from_low : (grid : List Bars) (row k n : ℕ) → AreSmall grid → (sum_from grid row k n).ticks ≤ n * 2 ^ 38
from_low grid row k zero small = omega arith
from_low grid row k (suc n) small = omega (arith, from_low grid row (k + 1) n small, small (240 * row + k))

module _ (inst : InstanceView) (cranes : List (Option ℕ)) (spots : List ℕ) (grid : List Bars)
    (g : IsGrid inst cranes spots grid) (row : ℕ) (low : row < 10) where
  and_false : (b c : Bool) → c ≡ false → (b && c) ≡ false
  and_false true c e = e
  and_false false c e = refl

  -- the tests of a row at one spot more
  next_before : (b : Bool) (s k : ℕ) → (b && nat_lt s (k + 1)) ≡ ((b && nat_lt s k) || (b && eqb s k))
  next_before false s k = refl
  next_before true s k = same_test _ _
      (λ t. elim (cases_lt s k) [
        | inl less ↦ or_left (nat_lt s k) (eqb s k) (lt-ltb s k less)
        | inr more ↦ or_right (nat_lt s k) (eqb s k) (eq-eqb s k (omega (arith, ltb-true s (k + 1) t)))
      ])
      (λ t. elim (or_cases (nat_lt s k) (eqb s k) t) [
        | inl less ↦ lt-ltb s (k + 1) (omega (arith, ltb-true s k less))
        | inr same ↦ lt-ltb s (k + 1) (omega (arith, eqb-true s k same))
      ])

  apart_before : (b : Bool) (s k : ℕ) → (b && nat_lt s k) ≡ true → (b && eqb s k) ≡ false
  apart_before b s k t =
      let less = ltb-true s k (and_parts b (nat_lt s k) t).1 in
      and_false b (eqb s k) (ne_eqb s k (λ e. omega arith))

  pub sum_before_is : (k : ℕ) → k ≤ 240 → sum_before grid row k ≡ bars_before inst cranes spots row k
  sum_before_is zero le =
      sym (ap (bars_of inst cranes) (none_pass (row_before cranes spots row 0) (task_numbers inst)
      (λ j a. and_false (in_row cranes row j) (nat_lt (get_or spots j 0) 0) (not_under (get_or spots j 0)))))
    where
      not_under : (n : ℕ) → nat_lt n 0 ≡ false
      not_under n = le-ltb n 0 (omega arith)
  sum_before_is (suc k) le =
      ap (λ b. joined b (cell grid row k)) (sum_before_is k (omega arith))
      ∙ ap (joined (bars_before inst cranes spots row k)) (g.each row k low (omega arith))
      ∙ sym (bars_split inst cranes (row_before cranes spots row k) (row_at cranes spots row k) (row_before cranes spots row (suc k)) (task_numbers inst)
      (λ j a. (
        ap (λ n. in_row cranes row j && nat_lt (get_or spots j 0) n) (sym (add-one k)) ∙ next_before (in_row cranes row j) (get_or spots j 0) k,
        apart_before (in_row cranes row j) (get_or spots j 0) k,
      )))

  next_from : (b : Bool) (s k : ℕ) → (b && leb k s) ≡ ((b && eqb s k) || (b && leb (k + 1) s))
  next_from false s k = refl
  next_from true s k = same_test _ _
      (λ t. elim (cases_lt k s) [
        | inl less ↦ or_right (eqb s k) (leb (k + 1) s) (le-leb (k + 1) s (omega arith))
        | inr more ↦ or_left (eqb s k) (leb (k + 1) s) (eq-eqb s k (omega (arith, leb-true k s t)))
      ])
      (λ t. elim (or_cases (eqb s k) (leb (k + 1) s) t) [
        | inl same ↦ le-leb k s (omega (arith, eqb-true s k same))
        | inr more ↦ le-leb k s (omega (arith, leb-true (k + 1) s more))
      ])

  apart_from : (b : Bool) (s k : ℕ) → (b && eqb s k) ≡ true → (b && leb (k + 1) s) ≡ false
  apart_from b s k t =
      let same = eqb-true s k (and_parts b (eqb s k) t).1 in
      and_false b (leb (k + 1) s) (lt-leb (k + 1) s (omega arith))

  pub sum_from_is : (k n : ℕ) → k + n ≤ 240 → ((j : ℕ) → j < length inst.tasks → get_or spots j 0 < k + n)
      → sum_from grid row k n ≡ bars_from inst cranes spots row k
  sum_from_is k zero le inside =
      sym (ap (bars_of inst cranes) (none_pass (row_from cranes spots row k) (task_numbers inst)
      (λ j a. and_false (in_row cranes row j) (leb k (get_or spots j 0))
      (lt-leb k (get_or spots j 0) (omega (arith, inside j (omega (arith, (range_among j 0 (length inst.tasks) a).1))))))))
  sum_from_is k (suc n) le inside =
      ap (joined (cell grid row k)) (sum_from_is (k + 1) n (omega arith) (λ j low_j. omega (arith, inside j low_j)))
      ∙ ap (λ b. joined b (bars_from inst cranes spots row (k + 1))) (g.each row k low (omega arith))
      ∙ sym (bars_split inst cranes (row_at cranes spots row k) (row_from cranes spots row (k + 1)) (row_from cranes spots row k) (task_numbers inst)
      (λ j a. (next_from (in_row cranes row j) (get_or spots j 0) k, apart_from (in_row cranes row j) (get_or spots j 0) k)))
