-- Each crane has a floor and one place at each moment.
use Rattle.std.proofs.Common.{◌≡◌, ℕ, zero, suc, ◌+◌, ◌-◌, ◌<◌, ◌≤◌, ℤ, pos, ◌-ℤ◌, ◌≤ℤ◌, ◌⊎◌, inl, inr, List, length, subst, sym, refl, ap, arith}
use Rattle.std.proofs.lemmas.Bool.{cases_lt}
use Rattle.std.proofs.lemmas.Int.{by_lt_z, ints}
use Rattle.qc_model.specs.declared.direction.Direction.{Direction}
use Rattle.qc_model.specs.declared.direction.Direction.TheVariants.{Up, Down}
use Rattle.qc_model.specs.declared.schedule.Slot.{Slot}
use Rattle.qc_model.specs.Instance.{InstanceView, bay_of, crane}
use Rattle.qc_model.specs.Motion.{FloorBay, IsFloor, IsGreatest, IsPlace, LowPlace, bay_ahead, bay_behind, berth_place, scaled}
use Rattle.qc_model.specs.Motion.LowPlace.{of_berth, of_floor, of_task}
use Rattle.qc_model.specs.OneWay.{mirror, mirror_schedule}
use Rattle.qc_model.proofs.SeenLemmas.{seen-crane_count}
use Rattle.qc_model.specs.Motion.FloorBay.{of_berth as floor_berth, of_task as floor_task}
use Rattle.qc_model.specs.Rules.{crane_of}
use Rattle.qc_model.proofs.Levels.{before}

-- ---- the best of the numbers that a function gives

-- a number of a kind that is a, or past it, and past those of the first n of a function that count
record IsBest (IsAhead : ℤ → ℤ → Type 0) (Q : ℤ → Type 0) (f : ℕ → ℤ) (Counts : ℕ → Type 0)
    (n : ℕ) (a b : ℤ) : Type 0 where
  is : Q b
  first : IsAhead a b
  rest : (i : ℕ) → i < n → Counts i → IsAhead (f i) b

module _ (IsAhead : ℤ → ℤ → Type 0) (trans : (a b c : ℤ) → IsAhead a b → IsAhead b c → IsAhead a c)
    (total : (a b : ℤ) → IsAhead a b ⊎ IsAhead b a) (Q : ℤ → Type 0) (f : ℕ → ℤ) (Counts : ℕ → Type 0)
    (test : (i : ℕ) → Counts i ⊎ (¬ Counts i)) (a : ℤ) where
  itself : (b : ℤ) → IsAhead b b
  itself b = elim (total b b) [ inl h ↦ h | inr h ↦ h ]

  more : (n : ℕ) (b c : ℤ) → IsBest IsAhead Q f Counts n a b → Q c → IsAhead b c → (Counts n → IsAhead (f n) c)
      → IsBest IsAhead Q f Counts (suc n) a c
  more n b c before q further here = record {
    is = q;
    first = trans a b c before.first further;
    rest = λ i low counts. elim (cases_lt i n) [
      | inl l ↦ trans (f i) b c (before.rest i l counts) further
      | inr l ↦
          let e : i ≡ n = omega arith in
          subst (λ (u : ℕ). IsAhead (f u) c) (sym e) (here (subst Counts e counts))
    ];
  }

  best_of : Q a → (n : ℕ) → ((i : ℕ) → i < n → Counts i → Q (f i)) → (b : ℤ) × IsBest IsAhead Q f Counts n a b
  best_of q zero given = (a, record { is = q; first = itself a; rest = λ i low. absurd (omega arith) })
  best_of q (suc n) given = go (best_of q n (λ i low. given i (omega arith))) (test n)
    where
      go : (b : ℤ) × IsBest IsAhead Q f Counts n a b → Counts n ⊎ (¬ Counts n)
          → (b : ℤ) × IsBest IsAhead Q f Counts (suc n) a b
      go (b, before) (inr never) = (b, more n b b before before.is (itself b) (λ counts. absurd (never counts)))
      go (b, before) (inl counts) = elim (total (f n) b) [
        | inl behind ↦ (b, more n b b before before.is (itself b) (λ _. behind))
        | inr ahead ↦ (f n, more n b (f n) before (given n (omega arith) counts) ahead (λ _. itself (f n)))
      ]

-- whether one number is at most another
at_most : (a b : ℕ) → (a ≤ b) ⊎ (¬ (a ≤ b))
at_most a b = elim (cases_lt b a) [ inl l ↦ inr (λ h. absurd (omega arith)) | inr l ↦ inl l ]

up_trans : (a b c : ℤ) → a ≤ℤ b → b ≤ℤ c → a ≤ℤ c
up_trans a b c h k = omega (arith, ints)

up_total : (a b : ℤ) → (a ≤ℤ b) ⊎ (b ≤ℤ a)
up_total a b = by_lt_z a b (λ l. inl (omega (arith, ints))) (λ l. inr l)

-- ---- the floor

abbrev Behind : ℤ → ℤ → Type 0
Behind a b = b ≤ℤ a

down_trans : (a b c : ℤ) → Behind a b → Behind b c → Behind a c
down_trans a b c h k = omega (arith, ints)

-- one that is a, or past it, and past those of two functions
record IsPast (IsAhead : ℤ → ℤ → Type 0) (Q : ℤ → Type 0) (f g : ℕ → ℤ) (In On : ℕ → Type 0)
    (n m : ℕ) (a c : ℤ) : Type 0 where
  is : Q c
  start : IsAhead a c
  first : (i : ℕ) → i < n → In i → IsAhead (f i) c
  second : (i : ℕ) → i < m → On i → IsAhead (g i) c

best_of_both : (IsAhead : ℤ → ℤ → Type 0) → ((a b c : ℤ) → IsAhead a b → IsAhead b c → IsAhead a c)
    → ((a b : ℤ) → IsAhead a b ⊎ IsAhead b a) → (Q : ℤ → Type 0) (f g : ℕ → ℤ) (In On : ℕ → Type 0)
    → ((i : ℕ) → In i ⊎ (¬ In i)) → ((i : ℕ) → On i ⊎ (¬ On i)) → (a : ℤ) → Q a
    → (n : ℕ) → ((i : ℕ) → i < n → In i → Q (f i)) → (m : ℕ) → ((i : ℕ) → i < m → On i → Q (g i))
    → (c : ℤ) × IsPast IsAhead Q f g In On n m a c
best_of_both IsAhead trans total Q f g In On is_in is_on a q n given m told =
    let one = best_of IsAhead trans total Q f In is_in a q n given in
    let other = best_of IsAhead trans total Q g On is_on one.0 one.1.is m told in (
      other.0,
      record {
        is = other.1.is;
        start = trans a one.0 other.0 one.1.first other.1.first;
        first = λ i low counts. trans (f i) one.0 other.0 (one.1.rest i low counts) other.1.first;
        second = other.1.rest;
      },
    )

pub floor_exists : (inst : InstanceView) (sched : List Slot) (k : ℕ) → k < length inst.cranes
    → (x : ℤ) × IsFloor inst sched k x
floor_exists inst sched k low = (found.0, record { is = found.1.is; least = least })
  where
    task_bay : ℕ → ℤ
    task_bay j = bay_behind inst (crane_of sched j) (bay_of inst j) k

    berth_bay : ℕ → ℤ
    berth_bay w = bay_behind inst w (crane inst w).bay k

    found : (x : ℤ) × IsPast Behind (FloorBay inst sched k) task_bay berth_bay
        (λ j. k ≤ crane_of sched j) (λ w. k ≤ w) (length inst.tasks) (length inst.cranes) (berth_bay k) x
    found = best_of_both Behind down_trans (λ a b. up_total b a) (FloorBay inst sched k) task_bay berth_bay _ _
        (λ j. at_most k (crane_of sched j)) (λ w. at_most k w) (berth_bay k) (floor_berth k low (omega arith))
        (length inst.tasks) (λ j. floor_task j) (length inst.cranes) (λ w. floor_berth w)

    least : (y : ℤ) → FloorBay inst sched k y → found.0 ≤ℤ y
    least _ (floor_task j low above) = found.1.first j low above
    least _ (floor_berth w low above) = found.1.second w low above

pub floor_unique : (inst : InstanceView) (sched : List Slot) (k : ℕ) (x y : ℤ)
    → IsFloor inst sched k x → IsFloor inst sched k y → x ≡ y
floor_unique inst sched k x y f g = omega (arith, ints, f.least y g.is, g.least x f.is)

-- ---- places

-- who has crane k at a place
pub data Term (inst : InstanceView) (sched : List Slot) (k : ℕ) : Type 0 where
  task : (i : ℕ) → i < length inst.tasks → crane_of sched i ≤ k → Term inst sched k
  berth : (v : ℕ) → v ≤ k → Term inst sched k
  floor : Term inst sched k

module _ (inst : InstanceView) (sched : List Slot) (k : ℕ) (x : ℤ) (d : ℕ) (off : ℕ → ℕ → ℕ) (m : ℕ) where
  -- the place of a term, x being the crane's floor and the work of task i off i m parts of a tick away
  abbrev pub term_place : Term inst sched k → ℤ
  term_place (task i low below) =
      scaled inst d (bay_ahead inst (crane_of sched i) (bay_of inst i) k) -ℤ pos (off i m)
  term_place (berth v below) = berth_place inst v k m d
  term_place floor = scaled inst d x

  -- places are of a kind where they are those of the terms
  pub record AreLow (P : ℤ → Type 0) : Type 0 where
    pub place_of : (t : Term inst sched k) → P (term_place t)
    pub term_of : (y : ℤ) → P y → (t : Term inst sched k) × (y ≡ term_place t)

  pub greatest_exists : (P : ℤ → Type 0) → AreLow P → (p : ℤ) × IsGreatest P p
  greatest_exists P are = (found.0, record { is = found.1.is; most = most })
    where
      by_task : ℕ → ℤ
      by_task i = scaled inst d (bay_ahead inst (crane_of sched i) (bay_of inst i) k) -ℤ pos (off i m)

      by_berth : ℕ → ℤ
      by_berth v = berth_place inst v k m d

      found : (p : ℤ) × IsPast ◌≤ℤ◌ P by_task by_berth
          (λ i. crane_of sched i ≤ k) (λ v. v ≤ k) (length inst.tasks) (suc k) (scaled inst d x) p
      found = best_of_both ◌≤ℤ◌ up_trans up_total P by_task by_berth _ _
          (λ i. at_most (crane_of sched i) k) (λ v. at_most v k) (scaled inst d x) (are.place_of floor)
          (length inst.tasks) (λ i low below. are.place_of (task i low below))
          (suc k) (λ v _ below. are.place_of (berth v below))

      under : (t : Term inst sched k) → term_place t ≤ℤ found.0
      under (task i low below) = found.1.first i low below
      under (berth v below) = found.1.second v (omega arith) below
      under floor = found.1.start

      most : (y : ℤ) → P y → y ≤ℤ found.0
      most y low =
          let term = are.term_of y low in subst (λ (z : ℤ). z ≤ℤ found.0) (sym term.1) (under term.0)

-- those of an upward schedule
pub up_low : (inst : InstanceView) (sched : List Slot) (k m d : ℕ) (x : ℤ) → IsFloor inst sched k x
    → AreLow inst sched k x d (before sched d) m (LowPlace inst sched k m d)
up_low inst sched k m d x f = record { place_of = place_of; term_of = term_of }
  where
    place : Term inst sched k → ℤ
    place = term_place inst sched k x d (before sched d) m

    place_of : (t : Term inst sched k) → LowPlace inst sched k m d (place t)
    place_of (task i low below) = of_task i low below
    place_of (berth v below) = of_berth v below
    place_of floor = of_floor x f

    term_of : (y : ℤ) → LowPlace inst sched k m d y → (t : Term inst sched k) × (y ≡ place t)
    term_of _ (of_task i low below) = (task i low below, refl)
    term_of _ (of_berth v below) = (berth v below, refl)
    term_of _ (of_floor y g) = (floor, ap (scaled inst d) (floor_unique inst sched k y x g f))

up_exists : (inst : InstanceView) (sched : List Slot) (k m d : ℕ) → k < length inst.cranes
    → (p : ℤ) × IsGreatest (LowPlace inst sched k m d) p
up_exists inst sched k m d low =
    let bottom = floor_exists inst sched k low in
    greatest_exists inst sched k bottom.0 d (before sched d) m (LowPlace inst sched k m d)
    (up_low inst sched k m d bottom.0 bottom.1)

-- what stands for p seen from the other end, and back again
abbrev turned : ℤ → ℤ → ℤ
turned a p = a -ℤ p

twice : (a p : ℤ) → turned a (turned a p) ≡ p
twice a p = omega (arith, ints)

pub place_exists : (inst : InstanceView) (sched : List Slot) (way : Direction) (k m d : ℕ)
    → k < length inst.cranes → (p : ℤ) × IsPlace inst sched way k m d p
place_exists inst sched Up k m d low = up_exists inst sched k m d low
place_exists inst sched Down k m d low =
    let number = length inst.cranes - 1 - k in
    let there : number < length (mirror inst).cranes = omega (arith, seen-crane_count inst Down) in
    let found = up_exists (mirror inst) (mirror_schedule inst sched) number m d there in
    let top = scaled inst d (pos (inst.bays + 1)) in
    let Seen = IsGreatest (LowPlace (mirror inst) (mirror_schedule inst sched) number m d) in
    (turned top found.0, subst Seen (sym (twice top found.0)) found.1)
