-- Ways back: they grow by a task that isn't on them, are no longer than there are tasks, and close.
use Rattle.std.proofs.Common.{◌≡◌, ◌≢◌, ℕ, zero, suc, ◌+◌, ◌-◌, ◌<◌, ◌≤◌, true, false, inl, inr, List, [], ◌∷◌, drop, take, length, reverse, Option, None, Some, refl, sym, ap, subst, ◌∙◌, add-one, eqb, arith, slice_index}
use Rattle.std.proofs.lemmas.Bool.{cases_eq, cond-false, or_cases, eqb-true, ne_eqb, false≢true}
use Rattle.std.proofs.lemmas.List.{length-reverse, take_at}
use Rattle.std.proofs.lemmas.Map.Steps.{length-le_from_distinct_below}
use Rattle.std.proofs.lemmas.Option.{same_Some}
use Rattle.std.specs.List.{AllByRecursion, IsDistinct, list_any, refill}
use Rattle.qc_starts.specs.Found.{why_in}
use Rattle.qc_starts.specs.Ways.{AreBacked, IsBackTo, IsLinked, IsPlace, IsRing, IsRising, IsWay, Why, last_of}

-- what is among numbers below n is below it
pub any_inside : (n : ℕ) (xs : List ℕ) → AllByRecursion (λ j. j < n) xs → (q : ℕ)
    → list_any (eqb q) xs ≡ true → q < n
any_inside n [] all q t = absurd (false≢true t)
any_inside n (x ∷ xs) all q t = elim (or_cases (eqb q x) (list_any (eqb q) xs) t) [
  | inl e ↦ omega (arith, eqb-true q x e, all.0)
  | inr e ↦ any_inside n xs all.1 q e
]

-- a way is no longer than there are tasks
pub way_length : (why : Why) (last i : ℕ) (js : List ℕ) → IsWay why last i js
    → length (i ∷ js) ≤ why.count
way_length why last i js way =
    length-le_from_distinct_below (i ∷ js) why.count way.distinct
    (any_inside why.count (i ∷ js) way.inside)

apart : (task : ℕ) (path : List ℕ) → ((k : ℕ) → k < length path → slice_index path k ≢ task)
    → AllByRecursion (λ other. eqb task other ≡ false) path
apart task [] h = tt
apart task (x ∷ xs) h =
    (ne_eqb task x (λ e. h 0 (omega arith) (sym e)), apart task xs (λ k low. h (suc k) (omega arith)))

pub way_begins : (why : Why) (last : ℕ) → last < why.count → IsWay why last last []
unfolding IsDistinct
way_begins why last low = record { linked = tt; ends = refl; distinct = (tt, tt); inside = (low, tt) }

-- one task more
pub way_more : (why : Why) (last i h : ℕ) (js : List ℕ) → IsWay why last i js
    → why.of i ≡ Some h → h < why.count
    → IsPlace (i ∷ js) h None → IsWay why last h (i ∷ js)
unfolding IsDistinct
way_more why last i h js way back low away = record {
  linked = (back, way.linked);
  ends = way.ends;
  distinct = (apart h (i ∷ js) away, way.distinct);
  inside = (low, way.inside);
}

-- along a way starts rise
starts_rise : (why : Why) (i : ℕ) (js : List ℕ) → IsRising why → IsLinked why i js
    → AllByRecursion (λ j. j < why.count) js
    → (k : ℕ) → k < length (i ∷ js) → why.start i ≤ why.start (slice_index (i ∷ js) k)
starts_rise why i js rising linked all zero low = omega arith
starts_rise why i [] rising linked all (suc k) low = absurd (omega arith)
starts_rise why i (j ∷ js) rising linked all (suc k) low =
    omega (arith, rising i j all.0 linked.0, starts_rise why j js rising linked.1 all.1 k (omega arith))

-- where starts rise, what raised the first task of a way isn't on it
pub away_from : (why : Why) (last i h : ℕ) (js : List ℕ) → IsRising why → IsWay why last i js → why.of i ≡ Some h
    → IsPlace (i ∷ js) h None
away_from why last i h js rising way back = λ k low same.
    let up = starts_rise why i js rising way.linked way.inside.1 k low in
    let less = rising h i way.inside.0 back in
    omega (arith, up, less, ap why.start same)

-- ---- ways that are written from their end on

-- a list that is turned round in its place
pub turned_in : (tasks news : List ℕ) → news ≡ reverse tasks → refill (length tasks) tasks news ≡ reverse tasks
turned_in tasks news is =
    let same : length news ≡ length tasks = ap (λ (l : List ℕ). length l) is ∙ length-reverse tasks in
    take_at news (drop (length news) tasks) (length tasks) same ∙ is

-- ---- reasons that never end

-- some tasks are each raised by one of them
pub record IsClosed (why : Why) (P : ℕ → Type 0) : Type 0 where
  pub back : (j : ℕ) → P j → (i : ℕ) × (why.of j ≡ Some i) × P i

first_in : (why : Why) (P : ℕ → Type 0) → IsClosed why P → (i : ℕ) (js : List ℕ) → IsLinked why i js
    → P (last_of i js) → P i
first_in why P closed i [] linked has = has
first_in why P closed i (j ∷ js) linked has =
    let by = closed.back j (first_in why P closed j js linked.1 has) in
    subst P (same_Some by.0 i (sym by.1 ∙ linked.0)) by.2

-- a way back from one of them comes to no task that nothing raised
pub no_end : (why : Why) (P : ℕ → Type 0) → IsClosed why P → (last : ℕ) (path : List ℕ) → P last
    → IsBackTo why last path → ⊥
no_end why P closed last [] has walked = walked
no_end why P closed last (i ∷ js) has walked =
    let first = first_in why P closed i js walked.0.linked (subst P (sym walked.0.ends) has) in
    let by = closed.back i first in
    let clash : None ≡ Some by.0 = sym walked.1 ∙ by.1 in
    absurd (cc)

-- ---- where starts rise, a way back ends

chain_more : (why : Why) → AreBacked why → IsRising why → (fuel last i : ℕ) (js : List ℕ)
    → IsWay why last i js → why.count ≤ fuel + length js → (path : List ℕ) × IsBackTo why last path
chain_more why backed rising zero last i js way room =
    absurd (omega (arith, way_length why last i js way))
chain_more why backed rising (suc fuel) last i js way room =
    go (why.of i) refl (λ h up. chain_more why backed rising fuel last h (i ∷ js) up (omega arith))
  where
    go : (o : Option ℕ) → why.of i ≡ o
        → ((h : ℕ) → IsWay why last h (i ∷ js) → (path : List ℕ) × IsBackTo why last path)
        → (path : List ℕ) × IsBackTo why last path
    go None none more = (i ∷ js, (way, none))
    go (Some h) back more =
        more h (way_more why last i h js way back (backed i h way.inside.0 back) (away_from why last i h js rising way back))

pub chain_exists : (why : Why) → AreBacked why → IsRising why → (last : ℕ) → last < why.count
    → (path : List ℕ) × IsBackTo why last path
chain_exists why backed rising last low =
    chain_more why backed rising why.count last last [] (way_begins why last low) (omega arith)

-- ---- the first tasks of a way

linked_take : (why : Why) (i : ℕ) (js : List ℕ) (k : ℕ) → IsLinked why i js
    → IsLinked why i (take k js)
linked_take why i js zero linked = tt
linked_take why i [] (suc k) linked = tt
linked_take why i (j ∷ js) (suc k) linked = (linked.0, linked_take why j js k linked.1)

all_take : (P : ℕ → Type 0) (xs : List ℕ) (k : ℕ) → AllByRecursion P xs → AllByRecursion P (take k xs)
all_take P xs zero all = tt
all_take P [] (suc k) all = tt
all_take P (x ∷ xs) (suc k) all = (all.0, all_take P xs k all.1)

distinct_take : (xs : List ℕ) (k : ℕ) → IsDistinct eqb xs → IsDistinct eqb (take k xs)
unfolding IsDistinct
distinct_take xs zero distinct = tt
distinct_take [] (suc k) distinct = tt
distinct_take (x ∷ xs) (suc k) distinct =
    (all_take (λ y. eqb x y ≡ false) xs k distinct.0, distinct_take xs k distinct.1)

last_of_take : (i : ℕ) (js : List ℕ) (k : ℕ) → k < length (i ∷ js)
    → last_of i (take k js) ≡ slice_index (i ∷ js) k
last_of_take i js zero low = refl
last_of_take i [] (suc k) low = absurd (omega arith)
last_of_take i (j ∷ js) (suc k) low = last_of_take j js k (omega arith)

-- the ring that a way ends in
pub ring_found : (why : Why) (late i : ℕ) (js : List ℕ) (h place : ℕ) → IsWay why late i js → why.of i ≡ Some h
    → IsPlace (i ∷ js) h (Some place) → IsRing why (take (place + 1) (i ∷ js))
ring_found why late i js h place way back at =
    rw (add-one place) (
      record {
        linked = linked_take why i js place way.linked;
        ends = refl;
        distinct = distinct_take (i ∷ js) (suc place) way.distinct;
        inside = all_take (λ j. j < why.count) (i ∷ js) (suc place) way.inside;
      },
      back ∙ ap Some (sym at.1) ∙ ap Some (sym (last_of_take i js place at.0)),
    )

-- ---- cells

pub code_small : (count : ℕ) (cells : List ℕ) (j : ℕ) → AreBacked (why_in count cells) → count ≤ 240 → j < count
    → slice_index cells (count + j) ≤ 65536
code_small count cells j backed few low = elim (cases_eq (slice_index cells (count + j)) 0) [
  | inl none ↦ omega arith
  | inr some ↦
      let code = slice_index cells (count + j) in
      let is = cond-false (eqb code 0) None (Some (code - 1)) (ne_eqb code 0 some) in
      omega (arith, backed j (code - 1) low is)
]
