-- The least starts of a node: its heads, put off as often as there are tasks. These meet it where they are put off no more;
-- and the least that meet it come out, since with each round one task more is at its least start.
use Rattle.std.proofs.Common.{◌≡◌, ℕ, zero, suc, ◌+◌, ◌-◌, ◌<◌, ◌≤◌, max, ◌⊎◌, inl, inr, Bool, true, false, ◌&&◌, eqb, List, length, map, set, Option, None, Some, IfSome, IsSome, refl, ap, sym, subst, ◌∙◌, arith, ext_get_or, length-set, get_or-set_same, get_or-set_other, nat_lt, slice_index, sum_by, option_map}
use Rattle.std.specs.List.{list_all, range_with_len}
use Rattle.std.specs.Option.{option_map_or}
use Rattle.std.proofs.lemmas.Bool.{and_from, and_parts, cases_Bool, cases_eq, cases_lt, cond-true, eq-eqb, eqb-true, false≢true, le-ltb, lt-ltb, ltb-false, ltb-true}
use Rattle.std.proofs.lemmas.List.{get_or_past}
use Rattle.std.proofs.lemmas.List.FromFn.{get_or-map-range_with_len, length-map-range_with_len}
use Rattle.std.proofs.lemmas.List.Sums.{sum_by-cons}
use Rattle.std.proofs.lemmas.Option.{cond_some, same_Some}
use Rattle.qc_model.specs.declared.decision.Decision.{Decision}
use Rattle.qc_model.specs.declared.turn.Turn.{Turn}
use Rattle.qc_model.specs.declared.turn.Turn.TheVariants.{OneWay, Free}
use Rattle.qc_model.specs.Early.{are_met, early, early_by, least_starts, let_by, put_off, starts_after}
use Rattle.qc_model.specs.Instance.{InstanceView, Valid, ticks_of}
use Rattle.qc_model.specs.Nodes.{AreLeast, IsInReach, Meets, forced, greatest, head, is_in_reach}
use Rattle.qc_model.specs.Work.{task_numbers}
use Rattle.qc_model.proofs.CompleteNodes.{forced_ticks}
use Rattle.qc_model.proofs.Extremes.{greatest_le, le_greatest}
use Rattle.qc_model.proofs.Sums.{sum_le, sum_raised, sum_zero}

-- ---- numbers below n

below_or_last : (j n : ℕ) → j < suc n → (j < n) ⊎ (j ≡ n)
below_or_last j n low = elim (cases_lt j n) [ inl l ↦ inl l | inr h ↦ inr (omega arith) ]

-- of those that pass a test one with the least value
record IsLeastOf (p : ℕ → Bool) (f : ℕ → ℕ) (n : ℕ) : Type 0 where
  number : ℕ
  low : number < n
  passes : p number ≡ true
  least : (j : ℕ) → j < n → p j ≡ true → f number ≤ f j

least_of : (p : ℕ → Bool) (f : ℕ → ℕ) (n : ℕ) → IsLeastOf p f n ⊎ ((j : ℕ) → j < n → p j ≡ false)
least_of p f zero = inr (λ j low. absurd (omega arith))
least_of p f (suc n) = with_last (cases_Bool (p n)) (least_of p f n)
  where
    still : (m : IsLeastOf p f n) → (p n ≡ true → f m.number ≤ f n) → IsLeastOf p f (suc n)
    still m over = record {
      number = m.number;
      low = omega (arith, m.low);
      passes = m.passes;
      least = λ j low t. elim (below_or_last j n low) [
        | inl below ↦ m.least j below t
        | inr last ↦ omega (arith, over (ap p (sym last) ∙ t), ap f last)
      ];
    }

    with_last : (p n ≡ true) ⊎ (p n ≡ false) → IsLeastOf p f n ⊎ ((j : ℕ) → j < n → p j ≡ false)
        → IsLeastOf p f (suc n) ⊎ ((j : ℕ) → j < suc n → p j ≡ false)
    with_last (inl holds) (inl m) = elim (cases_lt (f n) (f m.number)) [
      | inl less ↦ inl (record {
        number = n;
        low = omega arith;
        passes = holds;
        least = λ j low t. elim (below_or_last j n low) [
          | inl below ↦ omega (arith, m.least j below t, less)
          | inr last ↦ omega (arith, ap f last)
        ];
      })
      | inr more ↦ inl (still m (λ _. more))
    ]
    with_last (inr fails) (inl m) = inl (still m (λ t. absurd (false≢true (sym fails ∙ t))))
    with_last (inl holds) (inr none) = inl (record {
      number = n;
      low = omega arith;
      passes = holds;
      least = λ j low t. elim (below_or_last j n low) [
        | inl below ↦ absurd (false≢true (sym (none j below) ∙ t))
        | inr last ↦ omega (arith, ap f last)
      ];
    })
    with_last (inr fails) (inr none) = inr (λ j low. elim (below_or_last j n low) [
      | inl below ↦ none j below
      | inr last ↦ ap p last ∙ fails
    ])

-- a test of all numbers of a range
all_pass : (p : ℕ → Bool) (a n : ℕ) → ((j : ℕ) → a ≤ j → j < a + n → p j ≡ true) → list_all p (range_with_len a n) ≡ true
all_pass p a zero each = refl
all_pass p a (suc n) each =
    and_from (p a) (list_all p (range_with_len (a + 1) n)) (each a (omega arith) (omega arith))
    (all_pass p (a + 1) n (λ j above low. each j (omega arith) (omega arith)))

each_passes : (p : ℕ → Bool) (a n : ℕ) → list_all p (range_with_len a n) ≡ true → (j : ℕ) → a ≤ j → j < a + n → p j ≡ true
each_passes p a zero t j above low = absurd (omega arith)
each_passes p a (suc n) t j above low =
    let both = and_parts (p a) (list_all p (range_with_len (a + 1) n)) t in
    elim (cases_lt a j) [
      | inl later ↦ each_passes p (a + 1) n both.1 j (omega arith) (omega arith)
      | inr first ↦ let e : j ≡ a = omega arith in ap p e ∙ both.0
    ]

-- a number of a range for which a function comes to the greatest
record IsReached (f : ℕ → ℕ) (n m : ℕ) : Type 0 where
  number : ℕ
  low : number < n
  reaches : m ≤ f number

greatest_reached : (f : ℕ → ℕ) (m a n : ℕ) → 0 < m → m ≤ greatest (map f (range_with_len a n)) → IsReached f (a + n) m
greatest_reached f m a zero some le = absurd (omega arith)
greatest_reached f m a (suc n) some le = elim (cases_lt (f a) m) [
  | inl less ↦
      let rest = greatest_reached f m (a + 1) n some (omega arith) in
      record { number = rest.number; low = omega (arith, rest.low); reaches = rest.reaches }
  | inr more ↦ record { number = a; low = omega arith; reaches = more }
]

-- ---- rounds of putting off

module _ (inst : InstanceView) (ds : List Decision) where
  abbrev after : ℕ → List ℕ
  after k = starts_after inst ds k

  head_at : (j : ℕ) → j < length inst.tasks → slice_index (after 0) j ≡ head inst ds j
  head_at j low = get_or-map-range_with_len (head inst ds) 0 (length inst.tasks) j j 0 low (omega arith)

  next_at : (k j : ℕ) → j < length inst.tasks → slice_index (after (suc k)) j ≡ put_off inst ds (after k) j
  next_at k j low = get_or-map-range_with_len (put_off inst ds (after k)) 0 (length inst.tasks) j j 0 low (omega arith)

  after_count : (k : ℕ) → length (after k) ≡ length inst.tasks
  after_count zero = length-map-range_with_len (head inst ds) 0 (length inst.tasks)
  after_count (suc k) = length-map-range_with_len (put_off inst ds (after k)) 0 (length inst.tasks)

  -- the starts only rise
  rises : (k j : ℕ) → slice_index (after k) j ≤ slice_index (after (suc k)) j
  rises k j = elim (cases_lt j (length inst.tasks)) [
    | inl low ↦ omega (arith, next_at k j low)
    | inr past ↦ omega (arith, get_or_past (after k) j 0 (omega (arith, past, after_count k)))
  ]

  above_head : (k j : ℕ) → j < length inst.tasks → head inst ds j ≤ slice_index (after k) j
  above_head zero j low = omega (arith, head_at j low)
  above_head (suc k) j low = omega (arith, above_head k j low, rises k j)

  -- what a task is let by another is what the other's start and the step come to
  let_le : (starts : List ℕ) (i j m : ℕ)
      → ((ticks : ℕ) → forced inst ds i j ≡ Some ticks → slice_index starts i + ticks ≤ m) → let_by inst ds starts j i ≤ m
  let_le starts i j m h = by_step (forced inst ds i j) h
    where
      by_step : (o : Option ℕ) → ((ticks : ℕ) → o ≡ Some ticks → slice_index starts i + ticks ≤ m)
          → option_map_or (λ ticks. slice_index starts i + ticks) o 0 ≤ m
      by_step None h = omega arith
      by_step (Some ticks) h = h ticks refl

  off_by : (starts : List ℕ) (i j ticks : ℕ) → i < length inst.tasks → forced inst ds i j ≡ Some ticks
      → slice_index starts i + ticks ≤ greatest (map (let_by inst ds starts j) (task_numbers inst))
  off_by starts i j ticks low e =
      let is = ap (λ o. option_map_or (λ ticks. slice_index starts i + ticks) o 0) e in
      omega (arith, le_greatest (let_by inst ds starts j) i 0 (length inst.tasks) (omega arith) (omega (arith, low)), is)

  -- starts that meet the node aren't put off
  met_stay : (starts : List ℕ) → Meets inst ds starts → (j : ℕ) → j < length inst.tasks
      → greatest (map (let_by inst ds starts j) (task_numbers inst)) ≤ slice_index starts j
  met_stay starts m j low =
      greatest_le (let_by inst ds starts j) (slice_index starts j) 0 (length inst.tasks) (λ i high.
      let_le starts i j (slice_index starts j) (λ ticks e. m.steps i j ticks (omega arith) low e))

  -- no round comes past starts that meet the node
  after_le : (others : List ℕ) → Meets inst ds others → (k j : ℕ) → j < length inst.tasks
      → slice_index (after k) j ≤ slice_index others j
  after_le others m zero j low = omega (arith, head_at j low, m.heads j low)
  after_le others m (suc k) j low =
      let most =
      greatest_le (let_by inst ds (after k) j) (slice_index others j) 0 (length inst.tasks) (λ i high.
      let first : i < length inst.tasks = omega arith in
      let_le (after k) i j (slice_index others j) (λ ticks e.
      omega (arith, after_le others m k i first, m.steps i j ticks first low e))) in
      omega (arith, next_at k j low, after_le others m k j low, most)

  -- ---- what is found is least

  -- starts that are found for a node
  pub record AreFound (starts : List ℕ) : Type 0 where
    pub least : AreLeast inst ds starts
    pub in_reach : IsInReach inst ds

  stay_met : (k : ℕ) → are_met inst ds (after k) ≡ true → Meets inst ds (after k)
  stay_met k t = record {
    all_tasks = after_count k;
    heads = above_head k;
    steps = λ i j ticks low high e.
        let stays =
        each_passes (λ j. eqb (put_off inst ds (after k) j) (slice_index (after k) j)) 0 (length inst.tasks) t j
        (omega arith) (omega arith) in
        omega (arith, off_by (after k) i j ticks low e, eqb-true (put_off inst ds (after k) j) (slice_index (after k) j) stays);
  }

  pub found_of : (starts : List ℕ) → least_starts inst ds ≡ Some starts → AreFound starts
  found_of starts e =
      let last = after (length inst.tasks) in
      let both = cond_some (is_in_reach inst ds && are_met inst ds last) last starts e in
      let parts = and_parts (is_in_reach inst ds) (are_met inst ds last) both.0 in
      let meets = stay_met (length inst.tasks) parts.1 in
      subst AreFound both.1 (record {
        least = record { meets = meets; least = λ others m j low. after_le others m (length inst.tasks) j low };
        in_reach = parts.0;
      })

-- ---- what is least is found

-- 1 where a test holds
abbrev tally : Bool → ℕ
tally true = 1
tally false = 0

tally_few : (b : Bool) → tally b ≤ 1
tally_few true = omega arith
tally_few false = omega arith

tally_none : (b : Bool) → tally b ≤ 0 → b ≡ false
tally_none true none = absurd (omega arith)
tally_none false none = refl

few_ones : (f : ℕ → ℕ) (a n : ℕ) → ((j : ℕ) → f j ≤ 1) → sum_by f (range_with_len a n) ≤ n
few_ones f a zero each = omega arith
few_ones f a (suc n) each =
    omega (arith, sum_by-cons f a (range_with_len (a + 1) n), few_ones f (a + 1) n each, each a)

module _ (inst : InstanceView) (ds : List Decision) (v : Valid inst) (starts : List ℕ) (least : AreLeast inst ds starts) where
  -- a least start is the task's head, or what another task lets it start by
  module _ (j : ℕ) (low : j < length inst.tasks) where
    abbrev due : ℕ
    due = max (head inst ds j) (greatest (map (let_by inst ds starts j) (task_numbers inst)))

    sooner_at : (i : ℕ) → due < slice_index starts j → slice_index (set starts j due) i ≤ slice_index starts i
    sooner_at i less = elim (cases_eq i j) [
      | inl same ↦
          let inside : j < length starts = omega (arith, low, least.meets.all_tasks) in
          let at = ap (slice_index (set starts j due)) same ∙ get_or-set_same starts j due 0 inside in
          omega (arith, at, less, ap (slice_index starts) same)
      | inr other ↦ omega (arith, get_or-set_other starts j i due 0 other)
    ]

    due_at : slice_index (set starts j due) j ≡ due
    due_at = let inside : j < length starts = omega (arith, low, least.meets.all_tasks) in get_or-set_same starts j due 0 inside

    due_meets : due < slice_index starts j → Meets inst ds (set starts j due)
    due_meets less = record {
      all_tasks = length-set starts j due ∙ least.meets.all_tasks;
      heads = λ i inside. elim (cases_eq i j) [
        | inl same ↦ omega (arith, ap (slice_index (set starts j due)) same, due_at, ap (head inst ds) same)
        | inr other ↦ omega (arith, get_or-set_other starts j i due 0 other, least.meets.heads i inside)
      ];
      steps = λ g h ticks first second e. elim (cases_eq h j) [
        | inl same ↦
            let step = subst (λ (x : ℕ). forced inst ds g x ≡ Some ticks) same e in
            omega (arith, ap (slice_index (set starts j due)) same, due_at, off_by inst ds starts g j ticks first step, sooner_at g less)
        | inr other ↦
            omega (arith, get_or-set_other starts j h due 0 other, least.meets.steps g h ticks first second e, sooner_at g less)
      ];
    }

    tight : slice_index starts j ≤ due
    tight = elim (cases_lt due (slice_index starts j)) [
      | inl less ↦ omega (arith, least.least (set starts j due) (due_meets less) j low, due_at)
      | inr more ↦ more
    ]

  -- a round at which a task isn't at its least start yet
  abbrev is_behind : ℕ → ℕ → Bool
  is_behind k j = nat_lt (slice_index (starts_after inst ds k) j) (slice_index starts j)

  abbrev behind : ℕ → ℕ
  behind k = sum_by (λ j. tally (is_behind k j)) (task_numbers inst)

  -- what lets a task start at its least start starts sooner
  record IsLet (j : ℕ) : Type 0 where
    task : ℕ
    low : task < length inst.tasks
    ticks : ℕ
    step : forced inst ds task j ≡ Some ticks
    due : slice_index starts j ≤ slice_index starts task + ticks
    sooner : slice_index starts task < slice_index starts j

  let_of : (j : ℕ) → j < length inst.tasks → head inst ds j < slice_index starts j → IsLet j
  let_of j low late =
      let is = greatest_reached (let_by inst ds starts j) (slice_index starts j) 0 (length inst.tasks) (omega arith)
      (omega (arith, tight j low)) in
      by_step is.number (omega (arith, is.low)) (forced inst ds is.number j) refl is.reaches
    where
      by_step : (i : ℕ) → i < length inst.tasks → (o : Option ℕ) → forced inst ds i j ≡ o
          → slice_index starts j ≤ option_map_or (λ ticks. slice_index starts i + ticks) o 0 → IsLet j
      by_step i first None e le = absurd (omega arith)
      by_step i first (Some ticks) e le = record {
        task = i;
        low = first;
        ticks = ticks;
        step = e;
        due = le;
        sooner =
            let long = subst (λ (o : Option ℕ). IfSome o (λ n. ticks_of inst i ≤ n)) e (forced_ticks inst ds i j) in
            omega (arith, long, v.tasks.ticks i first, least.meets.steps i j ticks first low e);
      }

  -- of those behind, the one with the least start catches up
  catches_up : (k : ℕ) (m : IsLeastOf (is_behind k) (slice_index starts) (length inst.tasks)) → is_behind (suc k) m.number ≡ false
  catches_up k m =
      let j = m.number in
      let late = ltb-true (slice_index (starts_after inst ds k) j) (slice_index starts j) m.passes in
      let by = let_of j m.low (omega (arith, above_head inst ds k j m.low, late)) in
      let there : slice_index starts by.task ≤ slice_index (starts_after inst ds k) by.task =
      elim (cases_lt (slice_index (starts_after inst ds k) by.task) (slice_index starts by.task)) [
        | inl yet ↦
            let passes = lt-ltb (slice_index (starts_after inst ds k) by.task) (slice_index starts by.task) yet in
            absurd (omega (arith, m.least by.task by.low passes, by.sooner))
        | inr done ↦ done
      ] in
      le-ltb (slice_index (starts_after inst ds (suc k)) j) (slice_index starts j)
      (omega (
        arith,
        next_at inst ds k j m.low,
        off_by inst ds (starts_after inst ds k) by.task j by.ticks by.low by.step,
        there,
        by.due,
      ))

  fewer_behind : (k : ℕ) → behind (suc k) ≤ behind k - 1
  fewer_behind k = by_least (least_of (is_behind k) (slice_index starts) (length inst.tasks))
    where
      stays : (j : ℕ) → tally (is_behind (suc k) j) ≤ tally (is_behind k j)
      stays j = elim (cases_lt (slice_index (starts_after inst ds k) j) (slice_index starts j)) [
        | inl yet ↦
            let now = ap tally (lt-ltb (slice_index (starts_after inst ds k) j) (slice_index starts j) yet) in
            omega (arith, now, tally_few (is_behind (suc k) j))
        | inr done ↦
            let later =
            le-ltb (slice_index (starts_after inst ds (suc k)) j) (slice_index starts j) (omega (arith, done, rises inst ds k j)) in
            omega (arith, ap tally later)
      ]

      by_least : IsLeastOf (is_behind k) (slice_index starts) (length inst.tasks)
          ⊎ ((j : ℕ) → j < length inst.tasks → is_behind k j ≡ false) → behind (suc k) ≤ behind k - 1
      by_least (inl m) =
          let gone = ap tally (catches_up k m) in
          let was = ap tally m.passes in
          let less =
          sum_raised (λ j. tally (is_behind k j)) (λ j. tally (is_behind (suc k) j)) 1 m.number 0 (length inst.tasks)
          (omega arith) (omega (arith, m.low)) (omega (arith, gone, was)) (λ j _. stays j) in
          omega (arith, less)
      by_least (inr none) =
          let less = sum_le (λ j. tally (is_behind (suc k) j)) (λ j. tally (is_behind k j)) 0 (length inst.tasks) (λ j _ _. stays j) in
          let zeros = sum_zero (λ j. tally (is_behind k j)) 0 (length inst.tasks) (λ j _ low. ap tally (none j (omega arith))) in
          omega (arith, less, zeros)

  few_behind : (k : ℕ) → behind k ≤ length inst.tasks - k
  few_behind zero = omega (arith, few_ones (λ j. tally (is_behind 0 j)) 0 (length inst.tasks) (λ j. tally_few (is_behind 0 j)))
  few_behind (suc k) = omega (arith, fewer_behind k, few_behind k)

  none_behind : (j : ℕ) → j < length inst.tasks → slice_index (starts_after inst ds (length inst.tasks)) j ≡ slice_index starts j
  none_behind j low =
      let last = length inst.tasks in
      let one =
      sum_raised (λ j. tally (is_behind last j)) (λ _. 0) (tally (is_behind last j)) j 0 last
      (omega arith) (omega (arith, low)) (omega arith) (λ _ _. omega arith) in
      let none = tally_none (is_behind last j) (omega (arith, one, few_behind last)) in
      let there = ltb-false (slice_index (starts_after inst ds last) j) (slice_index starts j) none in
      omega (arith, there, after_le inst ds starts least.meets last j low)

  all_there : starts_after inst ds (length inst.tasks) ≡ starts
  all_there =
      ext_get_or 0 (starts_after inst ds (length inst.tasks)) starts
      (after_count inst ds (length inst.tasks) ∙ sym least.meets.all_tasks)
      (λ j low. none_behind j (omega (arith, low, after_count inst ds (length inst.tasks))))

  all_met : are_met inst ds starts ≡ true
  all_met =
      all_pass (λ j. eqb (put_off inst ds starts j) (slice_index starts j)) 0 (length inst.tasks) (λ j _ low.
      eq-eqb (put_off inst ds starts j) (slice_index starts j)
      (omega (arith, met_stay inst ds starts least.meets j (omega arith))))

  pub least_found : IsInReach inst ds → least_starts inst ds ≡ Some starts
  least_found reach =
      let last = starts_after inst ds (length inst.tasks) in
      let met : are_met inst ds last ≡ true = subst (λ (s : List ℕ). are_met inst ds s ≡ true) (sym all_there) all_met in
      cond-true (is_in_reach inst ds && are_met inst ds last) (Some last) None
      (and_from (is_in_reach inst ds) (are_met inst ds last) reach met)
      ∙ ap Some all_there

-- ---- from when tasks can start

-- they can't start sooner with starts that meet the node
pub early_le : (inst : InstanceView) (ds : List Decision) (others : List ℕ) → Meets inst ds others
    → (begins : ℕ → ℕ) → early inst ds ≡ Some begins → (j : ℕ) → j < length inst.tasks → begins j ≤ slice_index others j
early_le inst ds others m begins e j low = by_turn inst.turn e
  where
    by_starts : (o : Option (List ℕ)) → least_starts inst ds ≡ o
        → option_map {U = ℕ → ℕ} (λ starts j. slice_index starts j) o ≡ Some begins
        → begins j ≤ slice_index others j
    by_starts None found is = absurd (cc is)
    by_starts (Some starts) found is =
        let same = ap (λ f. f j) (same_Some _ _ is) in
        omega (arith, (found_of inst ds starts found).least.least others m j low, same)

    by_turn : (turn : Turn) → early_by turn inst ds ≡ Some begins → begins j ≤ slice_index others j
    by_turn OneWay is =
        let same = ap (λ f. f j) (same_Some _ _ is) in
        omega (arith, m.heads j low, same)
    by_turn Free is = by_starts (least_starts inst ds) refl is

-- where cranes go one way they are known, and where they go as they like they are the least starts of a node in reach
pub early_one_way : (inst : InstanceView) (ds : List Decision) → inst.turn ≡ OneWay → early inst ds ≡ Some (head inst ds)
early_one_way inst ds one = ap (λ turn. early_by turn inst ds) one

pub early_free : (inst : InstanceView) (ds : List Decision) → Valid inst → IsInReach inst ds → inst.turn ≡ Free
    → (starts : List ℕ) → AreLeast inst ds starts → early inst ds ≡ Some (slice_index starts)
early_free inst ds v reach free starts least =
    ap (λ turn. early_by turn inst ds) free
    ∙ ap (option_map {U = ℕ → ℕ} (λ starts j. slice_index starts j))
    (least_found inst ds v starts least reach)

-- of a node with least starts in reach they are always known
pub early_some : (inst : InstanceView) (ds : List Decision) → Valid inst → IsInReach inst ds
    → (starts : List ℕ) → AreLeast inst ds starts → IsSome (early inst ds)
early_some inst ds v reach starts least = by_turn inst.turn refl
  where
    by_turn : (turn : Turn) → inst.turn ≡ turn → IsSome (early inst ds)
    by_turn OneWay one = subst (λ (o : Option (ℕ → ℕ)). IsSome o) (sym (early_one_way inst ds one)) refl
    by_turn Free free = subst (λ (o : Option (ℕ → ℕ)). IsSome o) (sym (early_free inst ds v reach free starts least)) refl
