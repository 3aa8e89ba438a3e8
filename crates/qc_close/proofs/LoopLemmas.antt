-- Steps of the loops over tasks.
use Rattle.std.proofs.Common.{[], ◌≡◌, ◌≤ℤ◌, Option, is_some, nat_lt, to_z, of_z, w32, inl, inr, ℕ, ◌+◌, ◌*◌, ◌<◌, ◌≤◌, Bool, true, false, ◌||◌, ◌&&◌, eqb, not, List, ◌∷◌, length, drop, get_or, refl, ap, sym, ◌∙◌, arith, add-one, drop-cons, ℤ, pos, ◌-ℤ◌}
use Rattle.std.specs.List.{list_all, list_any}
use Rattle.std.proofs.lemmas.Bool.{and_from, and_left, eqb-false, eqb-true, eq-eqb, lt-ltb, ne_eqb, not_from_false, not_from_true, or_cases, or_parts}
use Rattle.std.proofs.lemmas.Int.{ints}
use Rattle.qc_close.specs.Model.{Task, crane_numbers, reaches, task, InstanceView, Valid, crane_in, cranes_for, place, all_differ, is_doable}
use Rattle.qc_model.proofs.LimitsOf.{limits_of, travel_of}
use Rattle.qc_close.specs.Bands.{IsPlace}
use Rattle.qc_close.proofs.SpanLemmas.{doable_is}

other_way : (x y : ℕ) → eqb y x ≡ false → eqb x y ≡ false
other_way x y t = ne_eqb x y (λ e. eqb-false y x t (sym e))

none_same : (x : ℕ) (ys : List ℕ) → list_any (λ y. eqb y x) ys ≡ false → list_all (λ j. not (eqb x j)) ys ≡ true
none_same x [] t = refl
none_same x (y ∷ ys) t =
    let parts = or_parts (eqb y x) (list_any (λ y. eqb y x) ys) t in
    and_from (not (eqb x y)) (list_all (λ j. not (eqb x j)) ys) (not_from_false (eqb x y) (other_way x y parts.0))
    (none_same x ys parts.1)

some_same : (x : ℕ) (ys : List ℕ) → list_any (λ y. eqb y x) ys ≡ true → list_all (λ j. not (eqb x j)) ys ≡ false
some_same x [] t = sym t
some_same x (y ∷ ys) t = elim (or_cases (eqb y x) (list_any (λ y. eqb y x) ys) t) [
  | inl here ↦
      and_left (not (eqb x y)) (list_all (λ j. not (eqb x j)) ys)
      (not_from_true (eqb x y) (eq-eqb x y (sym (eqb-true y x here))))
  | inr there ↦ right (not (eqb x y)) (list_all (λ j. not (eqb x j)) ys) (some_same x ys there)
]
  where
    right : (b c : Bool) → c ≡ false → (b && c) ≡ false
    right true c e = e
    right false c e = refl

pub differ_more : (xs : List ℕ) (i : ℕ) → i < length xs → list_any (λ y. eqb y (get_or xs i 0)) (drop (i + 1) xs) ≡ false
    → all_differ (drop i xs) ≡ all_differ (drop (i + 1) xs)
differ_more xs i low t =
    ap all_differ (drop-cons xs i 0 low)
    ∙ ap (λ ys. list_all (λ j. not (eqb (get_or xs i 0) j)) ys && all_differ ys) (ap (λ n. drop n xs) (sym (add-one i)))
    ∙ ap (λ b. b && all_differ (drop (i + 1) xs)) (none_same (get_or xs i 0) (drop (i + 1) xs) t)

pub differ_fails : (xs : List ℕ) (i : ℕ) → i < length xs → list_any (λ y. eqb y (get_or xs i 0)) (drop (i + 1) xs) ≡ true
    → all_differ (drop i xs) ≡ false
differ_fails xs i low t =
    ap all_differ (drop-cons xs i 0 low)
    ∙ ap (λ ys. list_all (λ j. not (eqb (get_or xs i 0) j)) ys && all_differ ys) (ap (λ n. drop n xs) (sym (add-one i)))
    ∙ ap (λ b. b && all_differ (drop (i + 1) xs)) (some_same (get_or xs i 0) (drop (i + 1) xs) t)

-- ---- places

pub least_steps : (inst : InstanceView) → Valid inst → (1 ≤ inst.travel) × (1 ≤ inst.gap)
least_steps inst v = ((travel_of inst v).0, (limits_of inst v).gap.0)

-- a task lies within the range of places
pub near_place : (inst : InstanceView) → Valid inst → (j v : ℕ) → j < length inst.tasks → inst.gap * v ≤ 16000
    → IsPlace (place inst j v)
near_place inst valid j v low few =
    let on_ship = valid.tasks.bays j low in
    let most = (limits_of inst valid).bays.1 in
    (omega (arith, ints, on_ship.0, few), omega (arith, ints, on_ship.1, most))

-- as the code comes to it
pub near_of : (bay : ℤ) (gaps : ℕ) → pos 1 ≤ℤ bay → bay ≤ℤ pos 6000 → gaps ≤ 16000
    → IsPlace (to_z w32 (of_z w32 (to_z w32 (of_z w32 bay) -ℤ to_z w32 gaps)))
near_of bay gaps low high few = (omega (arith, ints), omega (arith, ints))

pub on_ship : (inst : InstanceView) → Valid inst → (j : ℕ) → j < length inst.tasks → (t : Task) → t ≡ task inst j
    → (pos 1 ≤ℤ t.bay) × (t.bay ≤ℤ pos 6000)
on_ship inst valid j low t e =
    let here = valid.tasks.bays j low in
    let most = (limits_of inst valid).bays.1 in
    let same = ap (λ (t : Task). t.bay) e in
    (omega (arith, ints, here.0, same), omega (arith, ints, here.1, most, same))

pub doable_reached : (inst : InstanceView) (cranes : List (Option ℕ)) (j : ℕ) (o : Option ℕ) → j < length inst.tasks
    → o ≡ crane_in cranes j → is_some o ≡ false
    → list_any (reaches inst j) (crane_numbers inst) ≡ is_doable inst cranes j
doable_reached inst cranes j o low e none =
    let all = crane_numbers inst in
    let test = nat_lt 0 (length (cranes_for inst cranes j)) in
    ap (λ b. b || list_any (reaches inst j) all) (sym none ∙ ap is_some e)
    ∙ doable_is inst cranes j
    ∙ sym (ap (λ b. b && test) (lt-ltb j (length inst.tasks) low))
