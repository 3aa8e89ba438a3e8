-- What each crane has spent.
use Rattle.std.proofs.Common.{[], ◌≡◌, ℕ, ◌+◌, ◌-◌, ◌*◌, ◌<◌, ◌≤◌, inl, inr, Bool, true, false, eqb, cond, List, ◌∷◌, length, get_or, set, map, take, filter, Option, None, Some, IfSome, ℤ, of_z, to_z, w32, refl, ap, sym, subst, ◌∙◌, arith, add-one}
use Rattle.std.proofs.Math.Nat.{mul-le-mul_left}
use Rattle.std.proofs.lemmas.Bool.{cases_lt, cond-false, cond-true}
use Rattle.std.proofs.lemmas.Int.{int_max_is, int_min_is, ints}
use Rattle.std.proofs.lemmas.List.{ext_get_or, get_or-set_other, get_or-set_same, get_or-take, length-take}
use Rattle.std.proofs.lemmas.List.FromFn.{get_or-map-range_with_len, length-map-range_with_len}
use Rattle.std.proofs.lemmas.List.Sums.{sum_by-cons}
use Rattle.std.specs.Int.{int_max, int_min}
use Rattle.std.specs.List.{range_with_len}
use Rattle.std.specs.Option.{option_map_or}
use Rattle.qc_close.specs.Model.{Frame, MOST_WORK, Task, Turn, OneWay, Free, crane_in, frame_of, turn_high, InstanceView, IsOnRail, bay_of, task, ticks_of, crane_numbers, highest, lowest, ticks_over}
use Rattle.qc_close.specs.declared.frames.Own.{Own}
use Rattle.qc_close.specs.Owns.{IsSmall, frame_by, own_of, with_task}

-- ---- one task more

pub own_cons : (inst : InstanceView) (j : ℕ) (js : List ℕ) → own_of inst (j ∷ js) ≡ Some (with_task (own_of inst js) (task inst j))
own_cons inst j [] =
    let P : ℕ → Own = λ n. record { ticks = n; low = bay_of inst j; high = bay_of inst j } in
    let one : ticks_over inst (j ∷ []) ≡ ticks_of inst j = omega arith in
    ap (λ n. Some (P n)) one
own_cons inst j (i ∷ is) =
    let P : ℕ → Own = λ n. record { ticks = n; low = lowest inst j (i ∷ is); high = highest inst j (i ∷ is) } in
    ap (λ n. Some (P n)) (sum_by-cons (ticks_of inst) j (i ∷ is))

pub frame_same : (inst : InstanceView) (turn : Turn) (w : ℕ) (js : List ℕ)
    → frame_by inst turn w (own_of inst js) ≡ frame_of inst turn w js
frame_same inst turn w [] = refl
frame_same inst turn w (j ∷ js) = refl

-- the crane has task j
abbrev pub has : List (Option ℕ) → ℕ → ℕ → Bool
has cranes w j = option_map_or (λ k. eqb k w) (crane_in cranes j) false

-- ---- few tasks

pub some_small : (n m : ℕ) (o : Option Own) → n ≤ m → IfSome o (IsSmall n) → IfSome o (IsSmall m)
some_small n m None le s = tt
some_small n m (Some o) le s = record {
  ticks = omega (arith, s.ticks, le);
  low = s.low;
  high = s.high;
}

-- one task more is small too
pub small_more : (n : ℕ) (o : Option Own) (t : Task) → IfSome o (IsSmall n) → t.ticks ≤ MOST_WORK → IsOnRail t.bay
    → IsSmall (n + 1) (with_task o t)
small_more n None t s few rail = record { ticks = omega (arith, few); low = rail; high = rail }
small_more n (Some o) t s few rail = record {
  ticks = omega (arith, few, s.ticks);
  low = (
    omega (arith, ints, int_min_is t.bay o.low, rail.0, s.low.0),
    omega (arith, ints, int_min_is t.bay o.low, rail.1, s.low.1),
  );
  high = (
    omega (arith, ints, int_max_is t.bay o.high, rail.0, s.high.0),
    omega (arith, ints, int_max_is t.bay o.high, rail.1, s.high.1),
  );
}

-- ---- those that pass a test, from the last task to the first

-- how far that has come
pub record OwnTo (inst : InstanceView) (p : ℕ → Bool) (count done : ℕ) (o : Option Own) : Type 0 where
  pub is : o ≡ own_of inst (filter p (range_with_len (count - done) done))
  pub small : IfSome o (IsSmall done)

module _ (inst : InstanceView) (p : ℕ → Bool) (count done : ℕ) (low : done < count) where
  abbrev last : ℕ
  last = count - 1 - done

  abbrev behind : List ℕ
  behind = filter p (range_with_len (count - done) done)

  pub with_next : filter p (range_with_len (count - (done + 1)) (done + 1)) ≡ cond (p last) (last ∷ behind) behind
  with_next =
      let at : count - (done + 1) ≡ last = omega arith in
      let next : last + 1 ≡ count - done = omega arith in
      ap (λ a. filter p (range_with_len a (done + 1))) at
      ∙ ap (λ k. filter p (range_with_len last k)) (add-one done)
      ∙ ap (λ a. cond (p last) (last ∷ filter p (range_with_len a done)) (filter p (range_with_len a done))) next

  pub own_next : (o new : Option Own) (t : Task) → OwnTo inst p count done o → p last ≡ true → t ≡ task inst last
      → t.ticks ≤ MOST_WORK → IsOnRail t.bay → new ≡ Some (with_task o t) → OwnTo inst p count (done + 1) new
  own_next o new t to passes t_is few rail new_is = record {
    is = new_is ∙ ap (λ u. Some (with_task o u)) t_is ∙ ap (λ q. Some (with_task q (task inst last))) to.is
        ∙ sym (own_cons inst last behind) ∙ ap (own_of inst) (sym (with_next ∙ cond-true (p last) (last ∷ behind) behind passes));
    small = subst (λ (q : Option Own). IfSome q (IsSmall (done + 1))) (sym new_is) (small_more done o t to.small few rail);
  }

  pub own_skip : (o new : Option Own) → OwnTo inst p count done o → p last ≡ false → new ≡ o
      → OwnTo inst p count (done + 1) new
  own_skip o new to fails new_is = record {
    is = new_is ∙ to.is ∙ ap (own_of inst) (sym (with_next ∙ cond-false (p last) (last ∷ behind) behind fails));
    small = subst (λ (q : Option Own). IfSome q (IsSmall (done + 1))) (sym new_is) (some_small done (done + 1) o (omega arith) to.small);
  }

-- ---- the frames of all cranes

pub frames_all : (inst : InstanceView) (of : ℕ → Frame) (frames : List Frame) (d : Frame)
    → length frames ≡ 8 → length inst.cranes ≤ 8
    → ((w : ℕ) → w < length inst.cranes → get_or frames w d ≡ of w)
    → take (length inst.cranes) frames ≡ map of (crane_numbers inst)
frames_all inst of frames d is few each =
    let n = length inst.cranes in
    let many : length (take n frames) ≡ n = omega (arith, length-take n frames) in
    ext_get_or d (take n frames) (map of (crane_numbers inst))
    (many ∙ sym (length-map-range_with_len of 0 n))
    (λ w low.
    let in_range : w < n = omega (arith, many) in
    get_or-take n frames w d in_range ∙ each w in_range
    ∙ sym (get_or-map-range_with_len of 0 n w w d in_range (omega arith)))

-- and one of them
pub frame_at : (inst : InstanceView) (of : ℕ → Frame) (frames : List Frame) (d : Frame)
    → take (length inst.cranes) frames ≡ map of (crane_numbers inst) → (w : ℕ) → w < length inst.cranes
    → get_or frames w d ≡ of w
frame_at inst of frames d all w low =
    sym (get_or-take (length inst.cranes) frames w d low) ∙ ap (λ fs. get_or fs w d) all
    ∙ get_or-map-range_with_len of 0 (length inst.cranes) w w d low (omega arith)

-- a frame with another time
pub with_gone : (a b : Frame) (n m : ℕ) → a ≡ b → n ≡ m
    → ◌≡◌ {A = Frame} (record a { gone = n }) (record b { gone = m })
with_gone a b n m e f =
    ap (λ (c : Frame). record c { gone = n }) e ∙ ap (λ k. record b { gone = k }) f

-- one frame more
pub frames_more : (P : ℕ → Frame → Type 0) (frames : List Frame) (k : ℕ) (v : Frame) → k < length frames
    → ((w : ℕ) (d : Frame) → w < k → P w (get_or frames w d)) → P k v
    → (w : ℕ) (d : Frame) → w < k + 1 → P w (get_or (set frames k v) w d)
frames_more P frames k v inside before here w d low = elim (cases_lt w k) [
  | inl less ↦ subst (P w) (sym (get_or-set_other frames k w v d (λ e. omega arith))) (before w d less)
  | inr more ↦
      let e : k ≡ w = omega arith in
      subst (λ (n : ℕ). P n (get_or (set frames k v) n d)) e (subst (P k) (sym (get_or-set_same frames k v d inside)) here)
]

-- ---- bays on the rail

pub rail_back : (x : ℤ) → IsOnRail x → IsOnRail (to_z w32 (of_z w32 x))
rail_back x r = (omega (arith, ints, r.0, r.1), omega (arith, ints, r.0, r.1))

pub rail_min : (a b : ℤ) → IsOnRail a → IsOnRail b → IsOnRail (int_min a b)
rail_min a b r s =
    (omega (arith, ints, int_min_is a b, r.0, r.1, s.0, s.1), omega (arith, ints, int_min_is a b, r.0, r.1, s.0, s.1))

pub rail_max : (a b : ℤ) → IsOnRail a → IsOnRail b → IsOnRail (int_max a b)
rail_max a b r s =
    (omega (arith, ints, int_max_is a b, r.0, r.1, s.0, s.1), omega (arith, ints, int_max_is a b, r.0, r.1, s.0, s.1))

pub rail_high : (turn : Turn) (b h : ℤ) → IsOnRail b → IsOnRail h → IsOnRail (turn_high turn b h)
rail_high OneWay b h r s = s
rail_high Free b h r s = rail_max h b s r

pub travel_small : (travel bays : ℕ) → travel ≤ 10000 → bays < 131072 → travel * bays < 2147483648
travel_small travel bays few low = omega (arith, mul-le-mul_left travel (few_bays bays low), few)
  where
    few_bays : (bays : ℕ) → bays < 131072 → bays ≤ 131072
    few_bays bays low = omega arith
