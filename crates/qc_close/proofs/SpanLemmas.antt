-- What is told of packed tasks by where they lie is what their definition says.
use Rattle.std.proofs.Common.{[], ◌≡◌, ◌≢◌, All, MatchBool, ℕ, zero, suc, ◌+◌, ◌-◌, ◌*◌, ◌<◌, ◌≤◌, inl, inr, Bool, true, false, ◌&&◌, ◌||◌, eqb, not, List, ◌∷◌, length, get_or, map, Option, None, Some, IfSome, is_some, ℤ, pos, ◌≤ℤ◌, ◌<ℤ◌, refl, ap, sym, subst, ◌∙◌, arith, filter, int_le, nat_lt, ◌+ℤ◌, ◌-ℤ◌}
use Rattle.std.specs.List.{AllByRecursion, IsDistinct, list_all, list_any, range_with_len}
use Rattle.std.proofs.Math.Nat.{mul-sub, mul-le-mul_left, mul-zero}
use Rattle.std.proofs.lemmas.Bool.{and_from, and_parts, cases_eq, cases_lt, cond-true, cond_both, false_from_ne_true, eq-eqb, eqb-true, lt-ltb, ltb-true, not-true, or_cases, or_left, or_right, cond-false, le-ltb}
use Rattle.std.proofs.lemmas.Int.{by_lt_z, ints}
use Rattle.std.proofs.lemmas.List.Elements.{All-from_recursion}
use Rattle.std.proofs.lemmas.Map.Keys.{IsDistinct-cons}
use Rattle.std.proofs.lemmas.Map.Steps.{length-le_from_distinct_below}
use Rattle.std.proofs.lemmas.Nat.{mul-le}
use Rattle.qc_close.specs.Model.{bays_up, InstanceView, bay_of, ticks_over, reaches, task_distance, AreInRange, crane_in, cranes_by, cranes_for, place, all_clash, all_differ, clash, is_doable, is_packed, may_lie, pack, places, span, stretches}
use Rattle.qc_model.proofs.Bays.{bays}
use Rattle.qc_model.proofs.NodeLemmas.{T_true, if_some, true_T}
use Rattle.qc_close.specs.Bands.{AllLie, AreStacked, IsFound, IsFoundFrom, IsStretch, Lies, may, may_by}
use Rattle.qc_close.proofs.Members.{Among, all_at, all_from, among_filter, among_flat, among_map, among_range, any_at, any_from, filter_among, flat_among, least_at, least_from, map_among, range_among}

-- ---- distances as differences of places

place_gap : (g v w : ℕ) (x y : ℤ) → v ≤ w
    → bays_up y (x +ℤ pos (g * (w - v))) ≡ bays_up (y -ℤ pos (g * w)) (x -ℤ pos (g * v))
place_gap g v w x y low = omega (arith, bays, mul-sub g w v, mul-le-mul_left g low)

module _ (inst : InstanceView) (i v j w : ℕ) where
  -- two cranes come too near where the lower one's place lies higher, and must keep clear by so much
  pub lower_distance : v < w → task_distance inst i v j w ≡ inst.travel * bays_up (place inst j w) (place inst i v)
  lower_distance low =
      let bays_are = cond-true (nat_lt v w) _ _ (lt-ltb v w low) in
      ap (λ n. inst.travel * n) (bays_are ∙ place_gap inst.gap v w (bay_of inst i) (bay_of inst j) (omega arith))

  pub higher_distance : w < v → task_distance inst i v j w ≡ inst.travel * bays_up (place inst i v) (place inst j w)
  higher_distance high =
      let bays_are =
      cond-false (nat_lt v w) _ _ (le-ltb v w (omega arith)) ∙ cond-true (nat_lt w v) _ _ (lt-ltb w v high) in
      ap (λ n. inst.travel * n) (bays_are ∙ place_gap inst.gap w v (bay_of inst j) (bay_of inst i) (omega arith))

pub some_bays : (t n : ℕ) → 0 < t * n → 0 < n
some_bays t zero h = absurd (omega (arith, mul-zero t))
some_bays t (suc n) h = omega arith

-- ---- members by their index

index_of : (xs : List ℕ) (x : ℕ) → Among xs x → (k : ℕ) × (k < length xs) × (get_or xs k 0 ≡ x)
index_of [] x a = absurd a
index_of (y ∷ ys) x (inl e) = (0, omega arith, e)
index_of (y ∷ ys) x (inr a) = let r = index_of ys x a in (suc r.0, omega (arith, r.1), r.2)

among_at : (xs : List ℕ) (k : ℕ) → k < length xs → Among xs (get_or xs k 0)
among_at [] k low = absurd (omega arith)
among_at (y ∷ ys) zero low = inl refl
among_at (y ∷ ys) (suc k) low = inr (among_at ys k (omega arith))

all_of : (P : ℕ → Type 0) (xs : List ℕ) → ((k : ℕ) → k < length xs → P (get_or xs k 0)) → AllByRecursion P xs
all_of P [] h = tt
all_of P (x ∷ xs) h = (h 0 (omega arith), all_of P xs (λ k low. h (suc k) (omega arith)))

each_of : (P : ℕ → Type 0) (xs : List ℕ) → ((x : ℕ) → Among xs x → P x) → AllByRecursion P xs
each_of P [] h = tt
each_of P (x ∷ xs) h = (h x (inl refl), each_of P xs (λ y a. h y (inr a)))

weaker : (P Q : ℕ → Type 0) → ((x : ℕ) → P x → Q x) → (xs : List ℕ) → AllByRecursion P xs → AllByRecursion Q xs
weaker P Q h [] a = tt
weaker P Q h (x ∷ xs) a = (h x a.0, weaker P Q h xs a.1)

among_all : (P : ℕ → Type 0) (xs : List ℕ) (x : ℕ) → Among xs x → AllByRecursion P xs → P x
among_all P [] x a all = absurd a
among_all P (y ∷ ys) x (inl e) all = subst P e all.0
among_all P (y ∷ ys) x (inr a) all = among_all P ys x a all.1

-- ---- a list of different tasks of the instance is no longer than it

distinct_of : (xs : List ℕ) → all_differ xs ≡ true → IsDistinct eqb xs
unfolding IsDistinct
distinct_of [] t = tt
distinct_of (x ∷ xs) t =
    let parts = and_parts (list_all (λ j. not (eqb x j)) xs) (all_differ xs) t in
    IsDistinct-cons eqb x xs
    (each_of (λ y. eqb x y ≡ false) xs (λ y a. not-true (eqb x y) (all_at (λ j. not (eqb x j)) xs y a parts.0)))
    (distinct_of xs parts.1)

pub few_differ : (xs : List ℕ) (n : ℕ) → all_differ xs ≡ true → ((j : ℕ) → Among xs j → j < n) → length xs ≤ n
few_differ xs n t below =
    length-le_from_distinct_below xs n (distinct_of xs t)
    (λ q found. let r = any_at (eqb q) xs found in
    let e = eqb-true q r.0 r.2 in
    omega (arith, e, below r.0 r.1))

-- ---- cranes that may do a task

module _ (inst : InstanceView) (cranes : List (Option ℕ)) where
  among_may : AreInRange inst cranes → (j v : ℕ) → Among (cranes_for inst cranes j) v
      → (v < length inst.cranes) × (may inst cranes j v ≡ true)
  among_may range j v a = by (crane_in cranes j) (if_some (crane_in cranes j) (λ k. k < length inst.cranes) (λ k e. range j k e)) a
    where
      by : (o : Option ℕ) → IfSome o (λ k. k < length inst.cranes) → Among (cranes_by inst j o) v
          → (v < length inst.cranes) × (may_by inst j v o ≡ true)
      by (Some k) low (inl e) = (omega (arith, e, low), eq-eqb k v e)
      by (Some k) low (inr a) = absurd a
      by None low a =
          let r = filter_among (reaches inst j) (range_with_len 0 (length inst.cranes)) v a in
          (omega (arith, (range_among v 0 (length inst.cranes) r.0).1), r.1)

  may_among : (j v : ℕ) → v < length inst.cranes → may inst cranes j v ≡ true → Among (cranes_for inst cranes j) v
  may_among j v low t = by (crane_in cranes j) t
    where
      by : (o : Option ℕ) → may_by inst j v o ≡ true → Among (cranes_by inst j o) v
      by (Some k) t = inl (eqb-true k v t)
      by None t =
          among_filter (reaches inst j) (range_with_len 0 (length inst.cranes)) v
          (among_range v 0 (length inst.cranes) (omega arith) (omega arith)) t

  some_pass : (p : ℕ → Bool) (xs : List ℕ) → list_any p xs ≡ nat_lt 0 (length (filter p xs))
  some_pass p [] = refl
  some_pass p (x ∷ xs) =
      cond_both (p x) (x ∷ filter p xs) (filter p xs) (λ ys. (p x || list_any p xs) ≡ nat_lt 0 (length ys))
      (λ t. or_left (p x) (list_any p xs) t ∙ sym (lt-ltb 0 (length (x ∷ filter p xs)) (omega arith)))
      (λ t. ap (λ b. b || list_any p xs) t ∙ some_pass p xs)

  -- a task that has a crane, or that some crane reaches, is one that some crane may do
  pub doable_is : (j : ℕ) → (is_some (crane_in cranes j) || list_any (reaches inst j) (range_with_len 0 (length inst.cranes)))
      ≡ nat_lt 0 (length (cranes_for inst cranes j))
  doable_is j = by (crane_in cranes j)
    where
      by : (o : Option ℕ) → (is_some o || list_any (reaches inst j) (range_with_len 0 (length inst.cranes)))
          ≡ nat_lt 0 (length (cranes_by inst j o))
      by (Some k) = refl
      by None = some_pass (reaches inst j) (range_with_len 0 (length inst.cranes))

-- ---- tasks that are stacked clash, and only these

module _ (inst : InstanceView) (cranes : List (Option ℕ)) (tasks : List ℕ) (range : AreInRange inst cranes)
    (travel : 1 ≤ inst.travel) (gap : 1 ≤ inst.gap) where
  abbrev Stacked : Type 0
  Stacked = AreStacked inst cranes tasks (length inst.cranes)

  far_apart : (x y : ℤ) → x <ℤ y → 0 < inst.travel * bays_up x y
  far_apart x y less =
      let some : 1 ≤ bays_up x y = omega (arith, bays, less) in
      omega (arith, mul-le 1 1 inst.travel (bays_up x y) travel some)

  clash_of : Stacked → (i j : ℕ) → Among tasks i → Among tasks j → clash inst cranes i j ≡ true
  clash_of stacked i j a b =
      all_from (λ v. list_all (λ w. eqb v w || nat_lt 0 (task_distance inst i v j w)) (cranes_for inst cranes j)) (cranes_for inst cranes i)
      (λ v is_v. all_from (λ w. eqb v w || nat_lt 0 (task_distance inst i v j w)) (cranes_for inst cranes j) (λ w is_w. pair v w is_v is_w))
    where
      place_of : (v w : ℕ) (i j : ℕ) → Among tasks i → Among tasks j → v < w → Among (cranes_for inst cranes i) v
          → Among (cranes_for inst cranes j) w → place inst j w <ℤ place inst i v
      place_of v w i j a b low is_v is_w =
          let one = among_may inst cranes range i v is_v in
          let two = among_may inst cranes range j w is_w in
          let at = index_of tasks i a in
          let under = index_of tasks j b in
          let less =
          stacked v w at.0 under.0 low two.0 at.1 under.1
          (ap (λ i. may inst cranes i v) at.2 ∙ one.1) (ap (λ j. may inst cranes j w) under.2 ∙ two.1) in
          let first = ap (λ i. place inst i v) at.2 in
          let second = ap (λ j. place inst j w) under.2 in
          omega (arith, ints, less, first, second)

      pair : (v w : ℕ) → Among (cranes_for inst cranes i) v → Among (cranes_for inst cranes j) w
          → (eqb v w || nat_lt 0 (task_distance inst i v j w)) ≡ true
      pair v w is_v is_w = elim (cases_eq v w) [
        | inl same ↦ or_left (eqb v w) _ (eq-eqb v w same)
        | inr other ↦ or_right (eqb v w) _ (lt-ltb 0 (task_distance inst i v j w) (elim (cases_lt v w) [
          | inl low ↦
              let far = far_apart (place inst j w) (place inst i v) (place_of v w i j a b low is_v is_w) in
              omega (arith, far, lower_distance inst i v j w low)
          | inr high ↦
              let low : w < v = omega (arith, other_way other high) in
              let far = far_apart (place inst i v) (place inst j w) (place_of w v j i b a low is_w is_v) in
              omega (arith, far, higher_distance inst i v j w low)
        ]))
      ]
        where
          other_way : {v w : ℕ} → (v ≡ w → ⊥) → w ≤ v → w < v
          other_way other high = omega arith

  all_clash_of : (is : List ℕ) → ((i j : ℕ) → Among is i → Among is j → clash inst cranes i j ≡ true)
      → all_clash inst cranes is ≡ true
  all_clash_of [] h = refl
  all_clash_of (i ∷ is) h =
      and_from (list_all (clash inst cranes i) is) (all_clash inst cranes is)
      (all_from (clash inst cranes i) is (λ j a. h i j (inl refl) (inr a)))
      (all_clash_of is (λ j k a b. h j k (inr a) (inr b)))

  pub clash_from : Stacked → all_clash inst cranes tasks ≡ true
  clash_from stacked = all_clash_of tasks (clash_of stacked)

  clash_at : (is : List ℕ) (i j : ℕ) → i < j → j < length is → all_clash inst cranes is ≡ true
      → clash inst cranes (get_or is i 0) (get_or is j 0) ≡ true
  clash_at [] i j order low t = absurd (omega arith)
  clash_at (k ∷ ks) i zero order low t = absurd (omega arith)
  clash_at (k ∷ ks) zero (suc j) order low t =
      all_at (clash inst cranes k) ks (get_or ks j 0) (among_at ks j (omega arith))
      (and_parts (list_all (clash inst cranes k) ks) (all_clash inst cranes ks) t).0
  clash_at (k ∷ ks) (suc i) (suc j) order low t =
      clash_at ks i j (omega arith) (omega arith) (and_parts (list_all (clash inst cranes k) ks) (all_clash inst cranes ks) t).1

  -- two cranes of clashing tasks come too near
  near_of : (i j v w : ℕ) → v ≢ w → clash inst cranes i j ≡ true → v < length inst.cranes → w < length inst.cranes
      → may inst cranes i v ≡ true → may inst cranes j w ≡ true → 0 < task_distance inst i v j w
  near_of i j v w other t is_v is_w may_v may_w =
      let row =
      all_at (λ v. list_all (λ w. eqb v w || nat_lt 0 (task_distance inst i v j w)) (cranes_for inst cranes j)) (cranes_for inst cranes i) v
      (may_among inst cranes i v is_v may_v) t in
      let cell =
      all_at (λ w. eqb v w || nat_lt 0 (task_distance inst i v j w)) (cranes_for inst cranes j) w (may_among inst cranes j w is_w may_w) row in
      elim (or_cases (eqb v w) (nat_lt 0 (task_distance inst i v j w)) cell) [
        | inl same ↦ absurd (other (eqb-true v w same))
        | inr far ↦ ltb-true 0 (task_distance inst i v j w) far
      ]

  less_of : (x y : ℤ) → 0 < inst.travel * bays_up x y → x <ℤ y
  less_of x y far = let some = some_bays inst.travel (bays_up x y) far in omega (arith, bays, some)

  pub stacked_from : all_clash inst cranes tasks ≡ true → Stacked
  stacked_from t v w i j low high is_i is_j may_v may_w = elim (cases_lt i j) [
    | inl less ↦
        let near = near_of (get_or tasks i 0) (get_or tasks j 0) v w (λ e. omega arith) (clash_at tasks i j less is_j t) (omega arith) high may_v may_w in
        less_of _ _ (omega (arith, near, lower_distance inst (get_or tasks i 0) v (get_or tasks j 0) w low))
    | inr over ↦ elim (cases_lt j i) [
      | inl less ↦
          let near = near_of (get_or tasks j 0) (get_or tasks i 0) w v (λ e. omega arith) (clash_at tasks j i less is_i t) high (omega arith) may_w may_v in
          less_of _ _ (omega (arith, near, higher_distance inst (get_or tasks j 0) w (get_or tasks i 0) v low))
      | inr under ↦
          let e : i ≡ j = omega arith in
          let same = ap (λ k. place inst (get_or tasks k 0) w) e in
          let lower = own_lower (get_or tasks i 0) in
          omega (arith, ints, same, lower)
    ]
  ]
    where
      own_lower : (k : ℕ) → place inst k w <ℤ place inst k v
      own_lower k =
          let more : 1 ≤ inst.gap * (w - v) = omega (arith, mul-le 1 1 inst.gap (w - v) gap (omega arith)) in
          omega (arith, ints, more, mul-sub inst.gap w v)

-- ---- stretches of the definition

module _ (inst : InstanceView) (cranes : List (Option ℕ)) (range : AreInRange inst cranes) where
  abbrev AllIn : ℤ → ℤ → List ℕ → Type 0
  AllIn low high tasks = AllByRecursion (Lies inst cranes low high) tasks

  -- one of the places of the tasks
  record IsPlaceOf (tasks : List ℕ) (x : ℤ) : Type 0 where
    task : ℕ
    is : Among tasks task
    crane : ℕ
    few : crane < length inst.cranes
    may_do : may inst cranes task crane ≡ true
    at : place inst task crane ≡ x

  place_more : (j : ℕ) (js : List ℕ) (x : ℤ) → IsPlaceOf js x → IsPlaceOf (j ∷ js) x
  place_more j js x p =
      record { task = p.task; is = inr p.is; crane = p.crane; few = p.few; may_do = p.may_do; at = p.at }

  lie_from : (low less high : ℤ) (tasks : List ℕ) → less ≤ℤ low → AllIn low high tasks → AllIn less high tasks
  lie_from low less high tasks down all =
      weaker (Lies inst cranes low high) (Lies inst cranes less high)
      (λ j l. let from = l.from in record { crane = l.crane; before = l.before; may = l.may; from = omega (arith, ints, down, from); to = l.to })
      tasks all

  lie_to : (low high more : ℤ) (tasks : List ℕ) → high ≤ℤ more → AllIn low high tasks → AllIn low more tasks
  lie_to low high more tasks up all =
      weaker (Lies inst cranes low high) (Lies inst cranes low more)
      (λ j l. let to = l.to in record { crane = l.crane; before = l.before; may = l.may; from = l.from; to = omega (arith, ints, up, to) })
      tasks all

  -- where tasks may lie from low to high, they may from one of their places on
  record HasLow (tasks : List ℕ) (low high : ℤ) : Type 0 where
    x : ℤ
    is : IsPlaceOf tasks x
    above : low ≤ℤ x
    all : AllIn x high tasks

  has_low : (j : ℕ) (js : List ℕ) (low high : ℤ) → AllIn low high (j ∷ js) → HasLow (j ∷ js) low high
  has_low j [] low high all =
      let l = all.0 in
      let to = l.to in
      record {
        x = place inst j l.crane;
        is = record { task = j; is = inl refl; crane = l.crane; few = l.before; may_do = l.may; at = refl };
        above = l.from;
        all = (record { crane = l.crane; before = l.before; may = l.may; from = omega (arith, ints); to = to }, tt);
      }
  has_low j (k ∷ ks) low high all =
      let l = all.0 in
      let to = l.to in
      let rest = has_low k ks low high all.1 in
      by_lt_z {P = HasLow (j ∷ k ∷ ks) low high} rest.x (place inst j l.crane)
      (λ less. record {
        x = rest.x;
        is = place_more j (k ∷ ks) rest.x rest.is;
        above = rest.above;
        all = (record { crane = l.crane; before = l.before; may = l.may; from = omega (arith, ints, less); to = to }, rest.all);
      })
      (λ over. record {
        x = place inst j l.crane;
        is = record { task = j; is = inl refl; crane = l.crane; few = l.before; may_do = l.may; at = refl };
        above = l.from;
        all = (
          record { crane = l.crane; before = l.before; may = l.may; from = omega (arith, ints); to = to },
          lie_from rest.x (place inst j l.crane) high (k ∷ ks) over rest.all,
        );
      })

  -- and up to one of them
  record HasHigh (tasks : List ℕ) (low high : ℤ) : Type 0 where
    x : ℤ
    is : IsPlaceOf tasks x
    below : x ≤ℤ high
    all : AllIn low x tasks

  has_high : (j : ℕ) (js : List ℕ) (low high : ℤ) → AllIn low high (j ∷ js) → HasHigh (j ∷ js) low high
  has_high j [] low high all =
      let l = all.0 in
      let from = l.from in
      record {
        x = place inst j l.crane;
        is = record { task = j; is = inl refl; crane = l.crane; few = l.before; may_do = l.may; at = refl };
        below = l.to;
        all = (record { crane = l.crane; before = l.before; may = l.may; from = from; to = omega (arith, ints) }, tt);
      }
  has_high j (k ∷ ks) low high all =
      let l = all.0 in
      let from = l.from in
      let rest = has_high k ks low high all.1 in
      by_lt_z {P = HasHigh (j ∷ k ∷ ks) low high} (place inst j l.crane) rest.x
      (λ less. record {
        x = rest.x;
        is = place_more j (k ∷ ks) rest.x rest.is;
        below = rest.below;
        all = (record { crane = l.crane; before = l.before; may = l.may; from = from; to = omega (arith, ints, less) }, rest.all);
      })
      (λ over. record {
        x = place inst j l.crane;
        is = record { task = j; is = inl refl; crane = l.crane; few = l.before; may_do = l.may; at = refl };
        below = l.to;
        all = (
          record { crane = l.crane; before = l.before; may = l.may; from = from; to = omega (arith, ints) },
          lie_to low rest.x (place inst j l.crane) (k ∷ ks) over rest.all,
        );
      })

  place_among : (tasks : List ℕ) (x : ℤ) → IsPlaceOf tasks x → Among (places inst cranes tasks) x
  place_among tasks x p =
      subst (Among (places inst cranes tasks)) p.at
      (among_flat (λ j. map (place inst j) (cranes_for inst cranes j)) tasks p.task (place inst p.task p.crane) p.is
      (among_map (place inst p.task) (cranes_for inst cranes p.task) p.crane (may_among inst cranes p.task p.crane p.few p.may_do)))

  among_place : (tasks : List ℕ) (x : ℤ) → Among (places inst cranes tasks) x → IsPlaceOf tasks x
  among_place tasks x a =
      let task = flat_among (λ j. map (place inst j) (cranes_for inst cranes j)) tasks x a in
      let crane = map_among (place inst task.0) (cranes_for inst cranes task.0) x task.2 in
      let is = among_may inst cranes range task.0 crane.0 crane.1 in
      record { task = task.0; is = task.1; crane = crane.0; few = is.0; may_do = is.1; at = crane.2 }

  lie_of : (low high : ℤ) (tasks : List ℕ) → AllIn low high tasks → list_all (may_lie inst cranes low high) tasks ≡ true
  lie_of low high tasks all = all_from (may_lie inst cranes low high) tasks (λ j a.
      let l = among_all (Lies inst cranes low high) tasks j a all in
      let from = l.from in
      let to = l.to in
      any_from (λ v. int_le low (place inst j v) && int_le (place inst j v) high) (cranes_for inst cranes j) l.crane
      (may_among inst cranes j l.crane l.before l.may)
      (and_from (int_le low (place inst j l.crane)) (int_le (place inst j l.crane) high) (T_true from.le) (T_true to.le)))

  of_lie : (low high : ℤ) (tasks : List ℕ) → list_all (may_lie inst cranes low high) tasks ≡ true → AllIn low high tasks
  of_lie low high tasks t = each_of (Lies inst cranes low high) tasks (λ j a.
      let found = any_at (λ v. int_le low (place inst j v) && int_le (place inst j v) high) (cranes_for inst cranes j) (all_at (may_lie inst cranes low high) tasks j a t) in
      let is = among_may inst cranes range j found.0 found.1 in
      let parts = and_parts (int_le low (place inst j found.0)) (int_le (place inst j found.0) high) found.2 in
      record {
        crane = found.0;
        before = is.0;
        may = is.1;
        from = record { le = true_T parts.0 };
        to = record { le = true_T parts.1 };
      })

  -- a stretch of the definition that is no longer
  stretch_of : (j : ℕ) (js : List ℕ) (low high : ℤ) → AllIn low high (j ∷ js)
      → (n : ℕ) × Among (stretches inst cranes (j ∷ js)) n × (n ≤ bays_up low high)
  stretch_of j js low high all =
      let tasks = j ∷ js in
      let first = has_low j js low high all in
      let last = has_high j js first.x high first.all in
      let here = places inst cranes tasks in
      let above = first.above in
      let below = last.below in (
        bays_up first.x last.x,
        among_flat
            (λ low. map (λ high. bays_up low high) (filter (λ high. list_all (may_lie inst cranes low high) tasks) here))
            here first.x (bays_up first.x last.x) (place_among tasks first.x first.is)
            (among_map (λ high. bays_up first.x high) (filter (λ high. list_all (may_lie inst cranes first.x high) tasks) here) last.x
            (among_filter (λ high. list_all (may_lie inst cranes first.x high) tasks) here last.x
            (place_among tasks last.x last.is) (lie_of first.x last.x tasks last.all))),
        omega (arith, bays, above, below),
      )

  -- some stretch, where each task has a crane that may do it
  some_stretch : (tasks : List ℕ) → ((j : ℕ) → Among tasks j → is_doable inst cranes j ≡ true)
      → (low : ℤ) × (high : ℤ) × AllIn low high tasks
  some_stretch [] h = (pos 0, pos 0, tt)
  some_stretch (j ∷ js) h =
      let rest = some_stretch js (λ k a. h k (inr a)) in
      let some = ltb-true 0 (length (cranes_for inst cranes j)) (and_parts (nat_lt j (length inst.tasks)) (nat_lt 0 (length (cranes_for inst cranes j))) (h j (inl refl))).1 in
      let v = get_or (cranes_for inst cranes j) 0 0 in
      let is = among_may inst cranes range j v (among_at (cranes_for inst cranes j) 0 some) in
      let x = place inst j v in
      by_lt_z {P = (low : ℤ) × (high : ℤ) × AllIn low high (j ∷ js)} x rest.0
      (λ less. by_lt_z {P = (low : ℤ) × (high : ℤ) × AllIn low high (j ∷ js)} rest.1 x
      (λ more. (x, x, (one v is x x (omega (arith, ints)) (omega (arith, ints)), lie_to x rest.1 x js (omega (arith, ints)) (lie_from rest.0 x rest.1 js (omega (arith, ints)) rest.2))))
      (λ within. (x, rest.1, (one v is x rest.1 (omega (arith, ints)) (omega (arith, ints)), lie_from rest.0 x rest.1 js (omega (arith, ints)) rest.2))))
      (λ above. by_lt_z {P = (low : ℤ) × (high : ℤ) × AllIn low high (j ∷ js)} rest.1 x
      (λ more. (rest.0, x, (one v is rest.0 x (omega (arith, ints)) (omega (arith, ints)), lie_to rest.0 rest.1 x js (omega (arith, ints)) rest.2)))
      (λ within. (rest.0, rest.1, (one v is rest.0 rest.1 (omega (arith, ints)) (omega (arith, ints)), rest.2))))
    where
      one : (v : ℕ) → (v < length inst.cranes) × (may inst cranes j v ≡ true) → (low high : ℤ) → low ≤ℤ place inst j v
          → place inst j v ≤ℤ high → Lies inst cranes low high j
      one v is low high from to = record { crane = v; before = is.0; may = is.1; from = from; to = to }

  module _ (j : ℕ) (js : List ℕ) (o : Option ℕ)
      (found : (i v : ℕ) → i < length (j ∷ js) → v < length inst.cranes → may inst cranes (get_or (j ∷ js) i 0) v ≡ true
      → IsFoundFrom inst cranes (j ∷ js) o (place inst (get_or (j ∷ js) i 0) v)) where
    abbrev tasks : List ℕ
    tasks = j ∷ js

    by_index : (low high : ℤ) → AllIn low high tasks → AllLie inst cranes tasks (length tasks) low high
    by_index low high all i low_i =
        among_all (Lies inst cranes low high) tasks (get_or tasks i 0) (among_at tasks i low_i) all

    found_at : (low high : ℤ) → IsPlaceOf tasks low → AllIn low high tasks → IsFound o (bays_up low high)
    found_at low high p all =
        let at = index_of tasks p.task p.is in
        let is = ap (λ k. place inst k p.crane) at.2 ∙ p.at in
        let from = (all.0).from in
        let to = (all.0).to in
        subst (λ (x : ℤ). IsFoundFrom inst cranes tasks o x) is
        (found at.0 p.crane at.1 p.few (ap (λ k. may inst cranes k p.crane) at.2 ∙ p.may_do))
        high (omega (arith, ints, from, to)) (by_index low high all)

    found_all : (n : ℕ) → Among (stretches inst cranes tasks) n → IsFound o n
    found_all n a =
        let here = places inst cranes tasks in
        let low = flat_among (λ low. map (λ high. bays_up low high) (filter (λ high. list_all (may_lie inst cranes low high) tasks) here)) here n a in
        let high = map_among (λ high. bays_up low.0 high) (filter (λ high. list_all (may_lie inst cranes low.0 high) tasks) here) n low.2 in
        let lies = filter_among (λ high. list_all (may_lie inst cranes low.0 high) tasks) here high.0 high.1 in
        subst (IsFound o) high.2
        (found_at low.0 high.0 (among_place tasks low.0 low.1) (of_lie low.0 high.0 tasks lies.1))

  -- what is found is the span
  pub span_is : (j : ℕ) (js : List ℕ) (n : ℕ) → IsStretch inst cranes (j ∷ js) n
      → ((i v : ℕ) → i < length (j ∷ js) → v < length inst.cranes → may inst cranes (get_or (j ∷ js) i 0) v ≡ true
      → IsFoundFrom inst cranes (j ∷ js) (Some n) (place inst (get_or (j ∷ js) i 0) v))
      → span inst cranes (j ∷ js) ≡ n
  span_is j js n s found =
      let all = all_of (Lies inst cranes s.low s.high) (j ∷ js) s.lie in
      let one = stretch_of j js s.low s.high all in
      let at_most = least_at (stretches inst cranes (j ∷ js)) one.0 one.1 in
      let at_least = least_from n one.0 (stretches inst cranes (j ∷ js)) one.1 (λ m a. found_all j js (Some n) found m a) in
      let is = s.is in
      omega (arith, at_most, at_least, one.2, is)

  -- and something is found
  pub span_some : (j : ℕ) (js : List ℕ) → ((k : ℕ) → Among (j ∷ js) k → is_doable inst cranes k ≡ true)
      → ((i v : ℕ) → i < length (j ∷ js) → v < length inst.cranes → may inst cranes (get_or (j ∷ js) i 0) v ≡ true
      → IsFoundFrom inst cranes (j ∷ js) None (place inst (get_or (j ∷ js) i 0) v))
      → ⊥
  span_some j js doable found =
      let some = some_stretch (j ∷ js) doable in
      let one = stretch_of j js some.0 some.1 some.2 in
      found_all j js None found one.0 one.1

-- ---- what is answered

pub clash_is : (inst : InstanceView) (cranes : List (Option ℕ)) (tasks : List ℕ) → AreInRange inst cranes → 1 ≤ inst.travel
    → 1 ≤ inst.gap → (b : Bool) (n : ℕ) → n ≡ length inst.cranes
    → MatchBool b (AreStacked inst cranes tasks n) (¬ AreStacked inst cranes tasks n)
    → b ≡ all_clash inst cranes tasks
clash_is inst cranes tasks range travel gap true n e h =
    sym (clash_from inst cranes tasks range travel gap (subst (AreStacked inst cranes tasks) e h))
clash_is inst cranes tasks range travel gap false n e h =
    sym (false_from_ne_true (all_clash inst cranes tasks) (λ t.
    h (subst (AreStacked inst cranes tasks) (sym e) (stacked_from inst cranes tasks range travel gap t))))

module _ (inst : InstanceView) (cranes : List (Option ℕ)) (tasks : List ℕ) (t : is_packed inst cranes tasks ≡ true) where
  parts : (nat_lt 0 (length tasks) ≡ true) × (list_all (is_doable inst cranes) tasks ≡ true) × (all_differ tasks ≡ true)
  parts =
      let one = and_parts (nat_lt 0 (length tasks) && list_all (is_doable inst cranes) tasks && all_differ tasks) (all_clash inst cranes tasks) t in
      let two = and_parts (nat_lt 0 (length tasks) && list_all (is_doable inst cranes) tasks) (all_differ tasks) one.0 in
      let three = and_parts (nat_lt 0 (length tasks)) (list_all (is_doable inst cranes) tasks) two.0 in
      (three.0, three.1, two.1)

  in_range : (j : ℕ) → Among tasks j → j < length inst.tasks
  in_range j a =
      let doable = all_at (is_doable inst cranes) tasks j a parts.1 in
      ltb-true j (length inst.tasks) (and_parts (nat_lt j (length inst.tasks)) (nat_lt 0 (length (cranes_for inst cranes j))) doable).0

  pub packed_few : length tasks ≤ length inst.tasks
  packed_few = few_differ tasks (length inst.tasks) parts.2 in_range

  pub packed_stacked : AreInRange inst cranes → 1 ≤ inst.travel → 1 ≤ inst.gap
      → AreStacked inst cranes tasks (length inst.cranes)
  packed_stacked range travel gap =
      let one = and_parts (nat_lt 0 (length tasks) && list_all (is_doable inst cranes) tasks && all_differ tasks) (all_clash inst cranes tasks) t in
      stacked_from inst cranes tasks range travel gap one.1

  pub packed_range : All (λ j. j < length inst.tasks) tasks
  packed_range = All-from_recursion (λ j. j < length inst.tasks) tasks (each_of (λ j. j < length inst.tasks) tasks in_range)

-- each place of the tasks is found from
abbrev pub FoundAll : InstanceView → List (Option ℕ) → List ℕ → Option ℕ → Type 0
FoundAll inst cranes tasks o = (i v : ℕ) → i < length tasks → v < length inst.cranes
    → may inst cranes (get_or tasks i 0) v ≡ true → IsFoundFrom inst cranes tasks o (place inst (get_or tasks i 0) v)

module _ (inst : InstanceView) (cranes : List (Option ℕ)) (range : AreInRange inst cranes) where
  pub pack_found : (tasks : List ℕ) → is_packed inst cranes tasks ≡ true → FoundAll inst cranes tasks None → ⊥
  pack_found [] t found = absurd (omega (arith, ltb-true 0 0 (parts inst cranes [] t).0))
  pack_found (j ∷ js) t found =
      span_some inst cranes range j js (λ k a. all_at (is_doable inst cranes) (j ∷ js) k a (parts inst cranes (j ∷ js) t).1) found

  pub pack_is : (tasks : List ℕ) (n : ℕ) → is_packed inst cranes tasks ≡ true → IsStretch inst cranes tasks n
      → FoundAll inst cranes tasks (Some n) → pack inst cranes tasks ≡ Some (ticks_over inst tasks + inst.travel * n)
  pack_is [] n t s found = absurd (omega (arith, ltb-true 0 0 (parts inst cranes [] t).0))
  pack_is (j ∷ js) n t s found =
      cond-true (is_packed inst cranes (j ∷ js)) _ None t
      ∙ ap (λ m. Some (ticks_over inst (j ∷ js) + inst.travel * m)) (span_is inst cranes range j js n s found)
