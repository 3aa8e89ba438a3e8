-- The rest made part by part.
use Rattle.std.proofs.Common.{ℤ, pos, to_z, of_z, w32, ◌≡◌, ℕ, ◌+◌, ◌-◌, ◌<◌, ◌≤◌, inl, inr, Bool, true, false, List, [], ◌∷◌, ◌++◌, length, take, IsTrue, ◌↔◌, ◌⊎◌, ◌&&◌, slice_index, slice_index_or, refl, ap, sym, ◌∙◌, arith}
use Rattle.std.specs.Prelude.{Contains}
use Rattle.std.proofs.lemmas.Bool.{and_from, and_parts, cases_eq}
use Rattle.std.proofs.lemmas.List.{get_or_default, get_or_append_left, get_or_push, length-append, take_more}
use Rattle.std.proofs.lemmas.Int.{ints}
use Rattle.std.proofs.lemmas.List.Sums.{count_by_more_no, count_by_more_yes}
use Rattle.qc_dispatch.specs.declared.stage.Stage.TheVariants.{Waiting}
use Rattle.qc_dispatch.specs.Course.{Course, is_running, is_waiting, stage_of}
use Rattle.qc_dispatch.specs.Order.{ArePaired}
use Rattle.qc_model.specs.declared.crane.Crane.{Crane}
use Rattle.qc_model.specs.declared.pair.Pair.{Pair}
use Rattle.qc_model.specs.declared.task.Task.{Task}
use Rattle.qc_model.specs.declared.turn.Turn.TheVariants.{OneWay}
use Rattle.qc_model.specs.Bays.{at_least_zero}
use Rattle.qc_model.specs.Instance.{InstanceView, IsBefore, Valid, crane, pair_of, task, with_turn}
use Rattle.qc_rest.specs.Making.{AreNumbers, ArePairs}
use Rattle.qc_rest.specs.Progress.{number_of}
use Rattle.qc_rest.specs.RestOf.{are_left, crane_in, holds_back, pairs_in, release_in, renumbered, task_in}
use Rattle.qc_rest.specs.declared.stand.Stand.{Stand}
use Rattle.qc_rest.specs.Stands.{stand_of}
use Rattle.qc_rest.proofs.KeptLemmas.{push_no, push_yes}
use Rattle.qc_rest.proofs.RestLemmas.{holds_test, runs_since, test_holds}
use Rattle.qc_model.proofs.NodeLemmas.{pair_listed}

-- ---- numbers

module _ (c : Course) where
  -- the numbers of the first n tasks, and of the next one
  pub record AreNumbersFor (n number : ℕ) (numbers : List ℕ) : Type 0 where
    pub count : length numbers ≡ n
    pub each_one : (j : ℕ) → j < n → slice_index numbers j ≡ number_of c j
    pub next : number ≡ number_of c n
    pub few : number ≤ n

  pub no_numbers : AreNumbersFor 0 0 []
  no_numbers = record { count = refl; each_one = λ j low. absurd (omega arith); next = refl; few = omega arith }

  module _ (n number : ℕ) (numbers new : List ℕ) (low : n < length c.stages) (are : AreNumbersFor n number numbers) (pushed : new ≡ numbers ++ number ∷ []) where
    each_more : (j : ℕ) → j < n + 1 → slice_index new j ≡ number_of c j
    each_more j less = elim (cases_eq j n) [
      | inl same ↦
          ap (λ (xs : List ℕ). slice_index xs j) pushed ∙ get_or_push numbers number 0 j (are.count ∙ sym same) ∙ are.next ∙ ap (number_of c) (sym same)
      | inr other ↦
          ap (λ (xs : List ℕ). slice_index xs j) pushed ∙ get_or_append_left numbers (number ∷ []) 0 j (omega (arith, less, other, are.count))
          ∙ are.each_one j (omega arith)
    ]

    count_more : length new ≡ n + 1
    count_more = ap length pushed ∙ omega (arith, length-append numbers (number ∷ []), are.count)

    pub number_left : is_waiting (stage_of c n) ≡ true → AreNumbersFor (n + 1) (number + 1) new
    number_left waits = record {
      count = count_more;
      each_one = each_more;
      next = omega (arith, are.next, count_by_more_yes is_waiting c.stages n Waiting low waits);
      few = omega (arith, are.few);
    }

    pub number_begun : is_waiting (stage_of c n) ≡ false → AreNumbersFor (n + 1) number new
    number_begun begun = record {
      count = count_more;
      each_one = each_more;
      next = omega (arith, are.next, count_by_more_no is_waiting c.stages n Waiting low begun);
      few = omega (arith, are.few);
    }

  pub all_numbers : (n number : ℕ) (numbers : List ℕ) → n ≡ length c.inst.tasks → AreNumbersFor n number numbers → AreNumbers c numbers
  all_numbers n number numbers all are = record { count = are.count ∙ all; each_one = λ j low. are.each_one j (omega (arith, low, all)) }

-- ---- pairs

pub pair_kept : (c : Course) (pairs : List Pair) (i : ℕ) (x y d : Pair) (old new : List Pair) → i < length pairs → slice_index_or pairs i d ≡ x
    → are_left c x ≡ true → y ≡ renumbered c x → old ≡ pairs_in c (take i pairs) → new ≡ old ++ y ∷ [] → new ≡ pairs_in c (take (i + 1) pairs)
pair_kept c pairs i x y d old new low is passes same before pushed =
    pushed ∙ ap (λ (ys : List Pair). ys ++ y ∷ []) before ∙ ap (λ (z : Pair). pairs_in c (take i pairs) ++ z ∷ []) same
    ∙ sym (push_yes (are_left c) (renumbered c) (take i pairs) x passes)
    ∙ ap (λ (z : Pair). pairs_in c (take i pairs ++ z ∷ [])) (sym is)
    ∙ ap (pairs_in c) (sym (take_more pairs i d low))

pub pair_gone : (c : Course) (pairs : List Pair) (i : ℕ) (x d : Pair) (old : List Pair) → i < length pairs → slice_index_or pairs i d ≡ x
    → are_left c x ≡ false → old ≡ pairs_in c (take i pairs) → old ≡ pairs_in c (take (i + 1) pairs)
pair_gone c pairs i x d old low is fails before =
    before ∙ sym (push_no (are_left c) (renumbered c) (take i pairs) x fails)
    ∙ ap (λ (z : Pair). pairs_in c (take i pairs ++ z ∷ [])) (sym is)
    ∙ ap (pairs_in c) (sym (take_more pairs i d low))

pub renumbered_is : (c : Course) (x : Pair) (one other : ℕ) → one ≡ number_of c x.first → other ≡ number_of c x.second → pair_of one other ≡ renumbered c x
renumbered_is c x one other first second = ap (λ (n : ℕ). pair_of n other) first ∙ ap (pair_of (number_of c x.first)) second

-- pairs of an instance are of its tasks
low_pairs : (c : Course) (pairs : List Pair) → ((i j : ℕ) → Contains pairs (pair_of i j) → (i < length c.inst.tasks) × (j < length c.inst.tasks)) → ArePairs c pairs
low_pairs c pairs range at low =
    let p = slice_index_or pairs at (pair_of 0 0) in
    range p.first p.second (at, low, get_or_default pairs at p (pair_of 0 0) low)

pub before_low : (c : Course) → Valid c.inst → ArePairs c c.inst.before
before_low c valid = low_pairs c c.inst.before valid.before.range

pub apart_low : (c : Course) → Valid c.inst → ArePairs c c.inst.apart
apart_low c valid = low_pairs c c.inst.apart (λ i j is. let r = valid.apart.range i j (pair_listed i j c.inst.apart is) in (omega (arith, r.0, r.1), r.1))

-- a crane at its place
pub crane_is : (c : Course) (stands : List Stand) (places : ℕ → ℤ) (k : ℕ) (was made : Crane) {bay : ℤ} {ready : ℕ}
    → made ≡ record was { bay = bay; ready = ready } → was ≡ crane c.inst k → bay ≡ places k → ready ≡ (stand_of stands k).until - c.clock
    → made ≡ crane_in c stands places k
crane_is c stands places k was made {bay = bay} {ready = ready} is first at second =
    is ∙ ap (λ (x : Crane). record x { bay = bay; ready = ready }) first ∙ ap (λ (b : ℤ). record (crane c.inst k) { bay = b; ready = ready }) at
    ∙ ap (λ (n : ℕ). record (crane c.inst k) { bay = places k; ready = n }) second

-- ---- parts

read_count : (z : ℤ) (n : ℕ) → z ≡ pos n → n ≤ 6000 → at_least_zero (to_z w32 (of_z w32 z)) ≡ n
read_count z n e h =
    let same : to_z w32 (of_z w32 z) ≡ pos n = omega (arith, ints) in
    ap at_least_zero same

-- seven parts that are those of an instance are that instance, with cranes that go one way
pub parts_are : (like : InstanceView) (b g : ℤ) (travel : ℕ) (tasks : List Task) (cranes : List Crane) (before apart : List Pair)
    → b ≡ pos like.bays → like.bays ≤ 6000 → g ≡ pos like.gap → like.gap ≤ 6000
    → travel ≡ like.travel → tasks ≡ like.tasks → cranes ≡ like.cranes → before ≡ like.before → apart ≡ like.apart
    → ◌≡◌ {A = InstanceView} (record {
      bays = at_least_zero (to_z w32 (of_z w32 b));
      travel = travel;
      gap = at_least_zero (to_z w32 (of_z w32 g));
      tasks = tasks;
      cranes = cranes;
      before = before;
      apart = apart;
      turn = OneWay;
    }) (with_turn like OneWay)
parts_are like b g travel tasks cranes before apart bays_is few gap_is low travel_is tasks_is cranes_is before_is apart_is =
    rw (read_count b like.bays bays_is few, read_count g like.gap gap_is low, travel_is, tasks_is, cranes_is, before_is, apart_is) refl

-- ---- what runs

-- two tests that say the same are the same
same_tests : (a b : Bool) → (a ≡ true → b ≡ true) → (b ≡ true → a ≡ true) → a ≡ b
same_tests true b there back = sym (there refl)
same_tests false true there back = back refl
same_tests false false there back = refl

pub holds_is : (c : Course) (i j : ℕ) (runs first r : Bool) → i < length c.inst.tasks → runs ≡ is_running (stage_of c i)
    → IsTrue first ↔ (IsBefore c.inst i j ⊎ ArePaired c.inst i j) → r ≡ (runs && first) → r ≡ holds_back c i j
holds_is c i j runs first r low run keeps is = is ∙ same_tests (runs && first) (holds_back c i j)
    (λ both.
    let parts = and_parts runs first both in
    let since = runs_since (stage_of c i) (sym run ∙ parts.0) in
    holds_test c i j (record { task = low; start = since.0; runs = since.1; first = keeps.0 parts.1 }))
    (λ held.
    let holds = test_holds c i j low held in
    and_from runs first (run ∙ ap is_running holds.runs) (keeps.1 holds.first))

-- a task as it is left
pub task_is : (c : Course) (over : ℕ → ℕ) (j release : ℕ) (bay : ℤ) (t : Task) → bay ≡ t.bay → release ≡ release_in c over j → t ≡ task c.inst j
    → record t { bay = bay; release = release } ≡ task_in c over j
task_is c over j release bay t at first second =
    ap (λ (b : ℤ). record t { bay = b; release = release }) at ∙ ap (λ (n : ℕ). record t { release = n }) first
    ∙ ap (λ (u : Task). record u { release = release_in c over j }) second
