-- The greatest number of which all ticks of an instance are multiples.
use Rattle.std.proofs.Common.{[], ◌≡◌, ℕ, zero, suc, ◌+◌, ◌*◌, ◌/◌, ◌%◌, ◌<◌, ◌≤◌, inl, inr, true, ◌&&◌, eqb, List, ◌∷◌, length, get_or, filter, refl, subst, arith}
use Prim.Native.Nat.{◌∣◌}
use Rattle.std.proofs.Math.Nat.{le-div_iff_mul-le, mod-one, mul-div_cancel', mul-le-mul_left, mul_comm, pos_of_dvd_of_pos}
use Rattle.std.proofs.lemmas.Bool.{and_from, and_parts, cases_lt, eq-eqb, eqb-true}
use Rattle.std.proofs.lemmas.Nat.Gcd.{dvd_of_mod-eq-zero, dvd_trans, le_of_dvd, mod-eq-zero_of_dvd}
use Rattle.std.specs.Int.{IsGcd}
use Rattle.std.specs.List.{list_all, range_with_len}
use Rattle.qc_close.specs.Model.{Crane, Task, are_multiples, grain, InstanceView, Valid, crane, no_crane, no_task, release_of, task, ticks_of, greatest}
use Rattle.qc_model.proofs.LimitsOf.{travel_of}
use Rattle.qc_close.specs.Grains.{IsGrainOf}
use Rattle.qc_close.proofs.Members.{Among, all_at, all_from, among_filter, among_range, filter_among, range_among}

-- ---- members and their places

pub among_at : {X : Type 0} (xs : List X) (i : ℕ) (d : X) → i < length xs → Among xs (get_or xs i d)
among_at [] i d low = absurd (omega arith)
among_at (x ∷ xs) zero d low = inl refl
among_at (x ∷ xs) (suc i) d low = inr (among_at xs i d (omega arith))

pub at_among : {X : Type 0} (xs : List X) (x d : X) → Among xs x → (i : ℕ) × (i < length xs) × (get_or xs i d ≡ x)
at_among [] x d a = absurd a
at_among (y ∷ ys) x d (inl e) = (0, omega arith, e)
at_among (y ∷ ys) x d (inr a) = let r = at_among ys x d a in (suc r.0, omega (arith, r.1), r.2)

among_greatest : (x : ℕ) (xs : List ℕ) → Among (x ∷ xs) (greatest (x ∷ xs))
among_greatest x [] = inl (omega arith)
among_greatest x (y ∷ ys) = elim (cases_lt x (greatest (y ∷ ys))) [
  | inl less ↦
      let e : greatest (y ∷ ys) ≡ greatest (x ∷ y ∷ ys) = omega arith in
      inr (subst (λ (n : ℕ). Among (y ∷ ys) n) e (among_greatest y ys))
  | inr more ↦ inl (omega arith)
]

greatest_among : (xs : List ℕ) (x : ℕ) → Among xs x → Among xs (greatest xs)
greatest_among [] x a = absurd a
greatest_among (y ∷ ys) x a = among_greatest y ys

greatest_at : (xs : List ℕ) (x : ℕ) → Among xs x → x ≤ greatest xs
greatest_at [] x a = absurd a
greatest_at (y ∷ ys) x (inl e) = omega arith
greatest_at (y ∷ ys) x (inr a) = omega (arith, greatest_at ys x a)

pub multiple_to : (g n x : ℕ) → 0 < g → g ∣ x → x ≤ n → x ≤ n / g * g
multiple_to g n x some divides low =
    let parts : g * (x / g) ≡ x = mul-div_cancel' g divides in
    let swapped = mul_comm (x / g) g in
    let fewer : x / g ≤ n / g = (le-div_iff_mul-le some).1 (omega (arith, parts, swapped)) in
    omega (arith, parts, mul-le-mul_left g fewer, mul_comm (n / g) g)

-- ---- numbers of which all ticks are multiples

pub record AreMultiples (inst : InstanceView) (g : ℕ) : Type 0 where
  pub travel : g ∣ inst.travel
  pub tasks : (j : ℕ) → j < length inst.tasks → g ∣ ticks_of inst j
  pub releases : (j : ℕ) → j < length inst.tasks → g ∣ release_of inst j
  pub ready : (k : ℕ) → k < length inst.cranes → g ∣ (crane inst k).ready
  pub some : 0 < g

multiple_of : (g n : ℕ) → eqb (n % g) 0 ≡ true → g ∣ n
multiple_of g n t = dvd_of_mod-eq-zero g (eqb-true (n % g) 0 t)

of_multiple : (g n : ℕ) → g ∣ n → eqb (n % g) 0 ≡ true
of_multiple g n divides = eq-eqb (n % g) 0 (mod-eq-zero_of_dvd g divides)

pub multiples_of : (inst : InstanceView) (g : ℕ) → 0 < g → are_multiples inst g ≡ true → AreMultiples inst g
multiples_of inst g some t =
    let of_tasks = list_all (λ j. eqb (j.ticks % g) 0) inst.tasks in
    let of_releases = list_all (λ j. eqb (j.release % g) 0) inst.tasks in
    let of_cranes = list_all (λ k. eqb (k.ready % g) 0) inst.cranes in
    let outer = and_parts (eqb (inst.travel % g) 0 && of_tasks && of_releases) of_cranes t in
    let middle = and_parts (eqb (inst.travel % g) 0 && of_tasks) of_releases outer.0 in
    let inner = and_parts (eqb (inst.travel % g) 0) of_tasks middle.0 in
    record {
      travel = multiple_of g inst.travel inner.0;
      tasks = λ j low.
          multiple_of g (ticks_of inst j)
          (all_at (λ j. eqb (j.ticks % g) 0) inst.tasks (task inst j) (among_at inst.tasks j no_task low) inner.1);
      releases = λ j low.
          multiple_of g (release_of inst j)
          (all_at (λ j. eqb (j.release % g) 0) inst.tasks (task inst j) (among_at inst.tasks j no_task low) middle.1);
      ready = λ k low.
          multiple_of g (crane inst k).ready
          (all_at (λ k. eqb (k.ready % g) 0) inst.cranes (crane inst k) (among_at inst.cranes k no_crane low) outer.1);
      some = some;
    }

of_multiples : (inst : InstanceView) (g : ℕ) → AreMultiples inst g → are_multiples inst g ≡ true
of_multiples inst g m =
    let of_tasks = list_all (λ j. eqb (j.ticks % g) 0) inst.tasks in
    let of_releases = list_all (λ j. eqb (j.release % g) 0) inst.tasks in
    and_from (eqb (inst.travel % g) 0 && of_tasks && of_releases) (list_all (λ k. eqb (k.ready % g) 0) inst.cranes)
    (and_from (eqb (inst.travel % g) 0 && of_tasks) of_releases
    (and_from (eqb (inst.travel % g) 0) of_tasks (of_multiple g inst.travel m.travel)
    (all_from (λ j. eqb (j.ticks % g) 0) inst.tasks (λ j a.
    let r = at_among inst.tasks j no_task a in
    subst (λ i. eqb (i.ticks % g) 0 ≡ true) r.2 (of_multiple g (ticks_of inst r.0) (m.tasks r.0 r.1)))))
    (all_from (λ j. eqb (j.release % g) 0) inst.tasks (λ j a.
    let r = at_among inst.tasks j no_task a in
    subst (λ i. eqb (i.release % g) 0 ≡ true) r.2 (of_multiple g (release_of inst r.0) (m.releases r.0 r.1)))))
    (all_from (λ k. eqb (k.ready % g) 0) inst.cranes (λ k a.
    let r = at_among inst.cranes k no_crane a in
    subst (λ i. eqb (i.ready % g) 0 ≡ true) r.2 (of_multiple g (crane inst r.0).ready (m.ready r.0 r.1))))

-- 1 is such a number
one_divides : (inst : InstanceView) → are_multiples inst 1 ≡ true
one_divides inst =
    let of_tasks = list_all (λ j. eqb (j.ticks % 1) 0) inst.tasks in
    let of_releases = list_all (λ j. eqb (j.release % 1) 0) inst.tasks in
    and_from (eqb (inst.travel % 1) 0 && of_tasks && of_releases) (list_all (λ k. eqb (k.ready % 1) 0) inst.cranes)
    (and_from (eqb (inst.travel % 1) 0 && of_tasks) of_releases
    (and_from (eqb (inst.travel % 1) 0) of_tasks (by inst.travel)
    (all_from (λ j. eqb (j.ticks % 1) 0) inst.tasks (λ j _. by j.ticks)))
    (all_from (λ j. eqb (j.release % 1) 0) inst.tasks (λ j _. by j.release)))
    (all_from (λ k. eqb (k.ready % 1) 0) inst.cranes (λ k _. by k.ready))
  where
    by : (n : ℕ) → eqb (n % 1) 0 ≡ true
    by n = eq-eqb (n % 1) 0 (mod-one n)

-- and so is the grain
pub grain_is : (inst : InstanceView) → 1 ≤ inst.travel → AreMultiples inst (grain inst)
grain_is inst travel =
    let one =
    among_filter (are_multiples inst) (range_with_len 1 inst.travel) 1 (among_range 1 1 inst.travel (omega arith) (omega arith)) (one_divides inst) in
    let is =
    filter_among (are_multiples inst) (range_with_len 1 inst.travel) (grain inst)
    (greatest_among (filter (are_multiples inst) (range_with_len 1 inst.travel)) 1 one) in
    multiples_of inst (grain inst) (omega (arith, (range_among (grain inst) 1 inst.travel is.0).0)) is.1

-- ---- one number more

pub grain_more : (a : ℕ) (f : ℕ → ℕ) (n g h : ℕ) → IsGrainOf a f n g → IsGcd g (f n) h → IsGrainOf a f (n + 1) h
grain_more a f n g h before gcd = record {
  first = dvd_trans h gcd.0 before.first;
  others = λ i low. elim (cases_lt i n) [
    | inl l ↦ dvd_trans h gcd.0 (before.others i l)
    | inr l ↦ let e : n ≡ i = omega arith in subst (λ (k : ℕ). h ∣ f k) e gcd.1
  ];
  greatest = λ d first all. gcd.2 d (before.greatest d first (λ i low. all i (omega arith))) (all n (omega arith));
}

-- the greatest of all ticks is the grain
pub grain_found : (inst : InstanceView) (one two g : ℕ) → 1 ≤ inst.travel
    → IsGrainOf inst.travel (ticks_of inst) (length inst.tasks) one
    → IsGrainOf one (release_of inst) (length inst.tasks) two
    → IsGrainOf two (λ k. (crane inst k).ready) (length inst.cranes) g → g ≡ grain inst
grain_found inst one two g travel tasks releases cranes =
    let of_one = dvd_trans g cranes.first releases.first in
    let divides = dvd_trans g of_one tasks.first in
    let some : 0 < g = pos_of_dvd_of_pos divides travel in
    let multiples : AreMultiples inst g = record {
      travel = divides;
      tasks = λ j low. dvd_trans g of_one (tasks.others j low);
      releases = λ j low. dvd_trans g cranes.first (releases.others j low);
      ready = cranes.others;
      some = some;
    } in
    let within = le_of_dvd travel divides in
    let found =
    among_filter (are_multiples inst) (range_with_len 1 inst.travel) g (among_range g 1 inst.travel some (omega (arith, within)))
    (of_multiples inst g multiples) in
    let most = greatest_at (filter (are_multiples inst) (range_with_len 1 inst.travel)) g found in
    let is = grain_is inst travel in
    let by_tasks = tasks.greatest (grain inst) is.travel is.tasks in
    let least = le_of_dvd some (cranes.greatest (grain inst) (releases.greatest (grain inst) by_tasks is.releases) is.ready) in
    omega (arith, most, least)

-- as the code reads them
pub grain_read : (inst : InstanceView) → Valid inst → (travel one two g : ℕ) (tasks : List Task) (cranes : List Crane)
    → travel ≡ inst.travel → tasks ≡ inst.tasks → cranes ≡ inst.cranes
    → IsGrainOf travel (λ j. (get_or tasks j no_task).ticks) (length tasks) one
    → IsGrainOf one (λ j. (get_or tasks j no_task).release) (length tasks) two
    → IsGrainOf two (λ k. (get_or cranes k no_crane).ready) (length cranes) g → g ≡ grain inst
grain_read inst valid travel one two g tasks cranes is_travel is_tasks is_cranes of_tasks of_releases of_cranes =
    let P : List Task → Type 0 = λ ts. IsGrainOf travel (λ j. (get_or ts j no_task).ticks) (length ts) one in
    let R : List Task → Type 0 = λ ts. IsGrainOf one (λ j. (get_or ts j no_task).release) (length ts) two in
    let Q : List Crane → Type 0 = λ ks. IsGrainOf two (λ k. (get_or ks k no_crane).ready) (length ks) g in
    grain_found inst one two g (travel_of inst valid).0
    (subst (λ (t : ℕ). IsGrainOf t (ticks_of inst) (length inst.tasks) one) is_travel (subst P is_tasks of_tasks))
    (subst R is_tasks of_releases)
    (subst Q is_cranes of_cranes)
