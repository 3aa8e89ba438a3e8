-- A schedule that is offered, its tight form, and the search that begins with it.
use Rattle.std.proofs.Common.{◌≡◌, ℕ, zero, suc, ◌+◌, ◌<◌, ◌≤◌, inl, inr, List, [], ◌∷◌, ◌++◌, length, map, Contains, Option, None, Some, IfSome, IsSome, IsSomeAnd, refl, ap, ap₂, sym, subst, ◌∙◌, arith, nat_le}
use Rattle.std.proofs.lemmas.Bool.{cond-true, cond_both, false≢true, le-leb, leb-true}
use Rattle.std.specs.List.{range_with_len}
use Rattle.smallvec.specs.SmallVec.{SmallVec}
use Rattle.qc_num.specs.declared.bound.Bound.{Bound}
use Rattle.qc_num.specs.declared.bound.Bound.TheVariants.{Least, Never}
use Rattle.qc_num.specs.Bounds.{IsAtMost, lesser}
use Rattle.qc_num.specs.Paths.{HasRoom}
use Rattle.qc_num.proofs.BoundLemmas.{at_most_never, at_most_same, first_through, same_least}
use Rattle.qc_close.specs.Model.{Decision, Assign, Order, Direction, Up, Down, Pair, Slot, Turn, OneWay, Free, GoesBy, InstanceView, Valid, ticks_of, IsDirection, IsJudgeable, Agrees, AreLeast, IsSettled, Meets, assigned, forced, schedule_with, most_branchings, most_start, most_tasks, GoesUp, Feasible, crane_of, end_of, ends, start_of, starts, seen, seen_number, seen_schedule}
use Rattle.qc_model.proofs.Bounded.{last_end_le}
use Rattle.qc_model.proofs.CompleteNodes.{agrees_with, ends_with, feasible_least, forced_ticks, goes_least}
use Rattle.qc_model.proofs.MirrorLemmas.{seen_valid}
use Rattle.qc_model.proofs.NodeLemmas.{assigned_is, ends_by, meets_by, start_at, settled_cases}
use Rattle.qc_model.proofs.TurnLemmas.{by_feasible, goes_by}
use Rattle.qc_model.proofs.SeenLemmas.{seen-crane_count, seen-crane_of, seen-ends, seen-start_of, seen-task_count}
use Rattle.qc_starts.specs.Seen.{AreAssigned}
use Rattle.qc_starts.specs.Tight.{IsSeenSo, IsTightForm, decided_by, order_in, ordered_pairs}
use Rattle.qc_search.specs.declared.progress.Progress.{Progress}
use Rattle.qc_search.specs.Earned.{IsKnownEnd, node_at}
use Rattle.qc_search.specs.Progress.{AreOrdered, Improves, IsBegun, IsBegunWith, IsKept, IsProgress, IsTightened, begun, cutoff, known_best, shown_best}
use Rattle.qc_search.specs.Run.{IsOffered, best_end}
use Rattle.qc_search.proofs.DecidedLemmas.{decided_least}
use Rattle.qc_search.proofs.PairLemmas.{Rises, ordered_rise, same_pairs}
use Rattle.qc_search.proofs.ShownLemmas.{turned_as_met}
use Rattle.qc_search.proofs.StepLemmas.{kept_as}
use Rattle.qc_search.proofs.TightLemmas.{best_end_is, seen_end}
use Rattle.qc_tree.specs.Trees.{on_task}

-- ---- the order of a pair

module _ (inst : InstanceView) (v : Valid inst) (sched : List Slot) (p : Pair) (rises : Rises inst p) where
  first_in : end_of inst sched p.first ≤ start_of sched p.second → order_in inst sched p ≡ Order p.first p.second
  first_in first =
      cond-true (nat_le (end_of inst sched p.first) (start_of sched p.second)) (Order p.first p.second)
      (Order p.second p.first) (le-leb (end_of inst sched p.first) (start_of sched p.second) first)

  second_in : end_of inst sched p.second ≤ start_of sched p.first → order_in inst sched p ≡ Order p.second p.first
  second_in second =
      cond_both (nat_le (end_of inst sched p.first) (start_of sched p.second)) (Order p.first p.second)
      (Order p.second p.first) (λ (d : Decision). d ≡ Order p.second p.first)
      (λ t. absurd (both_first (leb-true _ _ t)))
      (λ f. refl)
    where
      both_first : end_of inst sched p.first ≤ start_of sched p.second → ⊥
      both_first first =
          let one = v.tasks.ticks p.second rises.1 in
          omega (arith, first, second, one)

-- what is forced is kept by the schedule whose starts meet the node
kept_order : (inst : InstanceView) (ds : List Decision) (sched : List Slot) → Meets inst ds (starts sched)
    → (i j : ℕ) → i < length inst.tasks → j < length inst.tasks → IsSome (forced inst ds i j)
    → end_of inst sched i ≤ start_of sched j
kept_order inst ds sched meets i j low high some =
    by (forced inst ds i j) refl some (forced_ticks inst ds i j)
  where
    by : (o : Option ℕ) → forced inst ds i j ≡ o → IsSome o → IfSome o (λ n. ticks_of inst i ≤ n)
        → end_of inst sched i ≤ start_of sched j
    by None is some long = absurd (false≢true some)
    by (Some n) is some long =
        omega (arith, meets.steps i j n low high is, start_at sched i, start_at sched j, long)

-- ---- two schedules that agree with a node that settles what the one decides decide the same

module _ (inst : InstanceView) (ds : List Decision) (v : Valid inst) (given : AreAssigned inst ds)
    (one two : List Slot) (ordered : AreOrdered inst ds two) (one_meets : Meets inst ds (starts one))
    (two_meets : Meets inst ds (starts two)) (one_agrees : Agrees inst ds one) (two_agrees : Agrees inst ds two) where
  pub same_crane : (j : ℕ) → j < length inst.tasks → crane_of one j ≡ crane_of two j
  same_crane j low =
      by (assigned ds j) (given j low) (assigned_is inst one ds one_agrees j) (assigned_is inst two ds two_agrees j)
    where
      by : (o : Option ℕ) → IsSome o → IfSome o (λ k. crane_of one j ≡ k) → IfSome o (λ k. crane_of two j ≡ k)
          → crane_of one j ≡ crane_of two j
      by None some a b = absurd (false≢true some)
      by (Some k) some a b = a ∙ sym b

  same_order : (p : Pair) → Rises inst p → IsSettled inst ds p.first p.second → order_in inst one p ≡ order_in inst two p
  same_order p r settled =
      let low : p.first < length inst.tasks = omega (arith, r.0, r.1) in
      elim (settled_cases inst ds p.first p.second settled) [
        | inl some ↦
            first_in inst v one p r (kept_order inst ds one one_meets p.first p.second low r.1 some)
            ∙ sym (first_in inst v two p r (kept_order inst ds two two_meets p.first p.second low r.1 some))
        | inr some ↦
            second_in inst v one p r (kept_order inst ds one one_meets p.second p.first r.1 low some)
            ∙ sym (second_in inst v two p r (kept_order inst ds two two_meets p.second p.first r.1 low some))
      ]

  same_cranes : (a n : ℕ) → a + n ≤ length inst.tasks
      → map (λ j. Assign j (crane_of one j)) (range_with_len a n) ≡ map (λ j. Assign j (crane_of two j)) (range_with_len a n)
  same_cranes a zero few = refl
  same_cranes a (suc n) few =
      ap₂ (λ (k : ℕ) (more : List Decision). Assign a k ∷ more) (same_crane a (omega (arith, few)))
      (same_cranes (a + 1) n (omega (arith, few)))

  same_orders : (pairs : List Pair) → ((p : Pair) → Contains pairs p → Rises inst p × IsSettled inst ds p.first p.second)
      → map (order_in inst one) pairs ≡ map (order_in inst two) pairs
  same_orders [] are = refl
  same_orders (p ∷ pairs) are =
      let is = are p (0, omega arith, refl) in
      ap₂ (λ (d : Decision) (more : List Decision). d ∷ more) (same_order p is.0 is.1)
      (same_orders pairs (λ q c. are q (suc c.0, omega (arith, c.1), c.2)))

  pub same_decided : decided_by inst one ≡ decided_by inst two
  same_decided =
      let pairs = ordered_pairs inst.turn inst two in
      ap₂ (λ (cranes orders : List Decision). cranes ++ orders) (same_cranes 0 (length inst.tasks) (omega arith))
      (ap (map (order_in inst one)) (same_pairs inst one two same_crane)
      ∙ same_orders pairs (λ p c. (ordered_rise inst v two p c, ordered p c)))

-- ---- the tight form of a given schedule

-- the incumbent is answered as it is seen
pub shown_is : (home : InstanceView) (way : Direction) (end : ℕ) (kept : List Slot)
    → shown_best (length home.cranes) (Least end) way kept ≡ Some (seen_schedule home kept way)
shown_is home Up end kept = refl
shown_is home Down end kept = refl

-- a crane that is turned twice has its number again
number_back : (home : InstanceView) (way : Direction) (k : ℕ) → k < length home.cranes
    → seen_number home way (seen_number home way k) ≡ k
number_back home Up k low = refl
number_back home Down k low = omega (arith, low)

-- where cranes go as they like a schedule is seen as it is
pub so_only_up : (home : InstanceView) (given : List Slot) (way : Direction) → IsSeenSo home.turn home given way
    → home.turn ≡ Free → way ≡ Up
so_only_up home given way so as_free = (subst (λ (t : Turn). IsSeenSo t home given way) as_free so).1

module _ (home : InstanceView) (v : Valid home) (given : List Slot) (way : Direction) (kept : List Slot) (end : ℕ)
    (judgeable : IsJudgeable home given) (goes : GoesBy (seen home way).turn (seen home way) (seen_schedule home given way))
    (t : IsTightened (seen home way) (seen_schedule home given way) kept end) where
  abbrev inst : InstanceView
  inst = seen home way

  abbrev turned : List Slot
  turned = seen_schedule home given way

  -- what it comes to, as it is answered
  abbrev form : List Slot
  form = seen_schedule home kept way

  valid : Valid inst
  valid = seen_valid home v way

  given_meets : Meets inst t.decisions (starts turned)
  given_meets = meets_by inst t.decisions turned goes t.agrees

  abbrev made : List Slot
  made = schedule_with inst t.decisions t.begins

  made_goes : GoesBy inst.turn inst made
  made_goes = goes_least inst t.decisions t.begins valid t.fits t.complete t.in_reach t.least

  made_feasible : Feasible inst made
  made_feasible = feasible_least inst t.decisions t.begins valid t.fits t.complete t.in_reach t.least

  made_agrees : Agrees inst t.decisions made
  made_agrees = agrees_with inst t.decisions t.begins valid t.fits t.complete t.in_reach t.least.meets

  made_meets : Meets inst t.decisions (starts made)
  made_meets = meets_by inst t.decisions made made_goes made_agrees

  pub kept_count : length kept ≡ length home.tasks
  kept_count = ap (λ (s : List Slot). length s) t.is ∙ made_feasible.all_tasks ∙ seen-task_count home way

  crane_same : (j : ℕ) → j < length home.tasks → crane_of kept j ≡ crane_of turned j
  crane_same j low =
      let n = seen-task_count home way in
      ap (λ (s : List Slot). crane_of s j) t.is
      ∙ same_crane inst t.decisions valid t.complete.tasks made turned t.ordered made_meets given_meets made_agrees t.agrees j (omega (arith, n, low))

  kept_low : (j : ℕ) → j < length home.tasks → crane_of kept j < length home.cranes
  kept_low j low =
      let n = seen-task_count home way in
      let c = (by_feasible inst.turn inst turned goes).crane_range j (omega (arith, n, low)) in
      omega (arith, c, seen-crane_count home way, crane_same j low)

  back : seen_schedule home form way ≡ kept
  back = turned_as_met home way kept (λ j low. kept_low j (omega (arith, kept_count, low)))

  -- turned back, each task has the crane that it was given
  crane_back : (j : ℕ) → j < length home.tasks → crane_of form j ≡ crane_of given j
  crane_back j low =
      seen-crane_of home kept way j (omega (arith, kept_count, low))
      ∙ ap (seen_number home way) (crane_same j low ∙ seen-crane_of home given way j (omega (arith, judgeable.all_tasks, low)))
      ∙ number_back home way (crane_of given j) (judgeable.crane_range j low)

  pub form_is : IsSeenSo home.turn home given way → IsTightForm home given form
  form_is direction = record {
    way = way;
    direction = direction;
    cranes = crane_back;
    least = subst (λ (s : List Slot). AreLeast inst (decided_by inst turned) (starts s)) (sym (back ∙ t.is))
        (subst (λ (ds : List Decision). AreLeast inst ds (starts made))
        (same_decided inst t.decisions valid t.complete.tasks made turned t.ordered made_meets given_meets made_agrees t.agrees)
        (decided_least inst t.decisions t.begins valid t.fits t.complete t.in_reach t.least));
  }

  end_is : end ≡ ends home form
  end_is =
      t.ends ∙ sym (ends_with inst t.decisions t.begins t.least.meets) ∙ ap (ends inst) (sym t.is)
      ∙ sym (seen_end home kept way)

  -- it ends no later
  pub no_later : end ≤ ends home given
  no_later =
      let late = last_end_le inst.tasks t.begins (ends inst turned) (λ j low there.
      omega (
        arith,
        t.least.least (starts turned) given_meets j low,
        ends_by inst.tasks (starts turned) j given_meets.all_tasks low,
      )) in
      omega (arith, late, t.ends, seen-ends home given way)

  -- the progress that begins with it is that of no nodes
  abbrev progress_of : Progress → Progress
  progress_of old = record old { aim = Least end; incumbent_end = Least end; way = way; incumbent = kept }

  abbrev first_kept : (home.turn ≡ Free → way ≡ Up) → (old : Progress) → IsKept home (Some form) (progress_of old) [] end
  first_kept only_up old = record {
    node = node_at way t.decisions (on_task 0);
    from = inr refl;
    begins = t.begins;
    fits = t.fits;
    solved = record { complete = t.complete; in_reach = t.in_reach; least = t.least };
    ends = t.ends;
    soon = t.soon;
    way = refl;
    only_up = only_up;
    is = t.is;
  }

  first_known : IsKnownEnd home (Least (ends home form)) [] (Least end)
  first_known = record {
    reached = λ other e. inl (ap Least (sym end_is) ∙ e);
    given = omega (arith, end_is);
    least = λ other k d low. absurd (omega (arith, low));
  }

  first_progress : (home.turn ≡ Free → way ≡ Up) → (old : Progress) → IsBegun home old
      → IsProgress home (Some form) (progress_of old) []
  first_progress only_up old b = record {
    few = b.progress.few;
    branched = b.progress.branched;
    bound = b.progress.bound;
    known = first_known;
    under = omega (arith, end_is);
    best = λ other e.
        subst (IsKept home (Some form) (progress_of old) []) (same_least end other e) (first_kept only_up old);
    late = λ left. subst (IsAtMost (cutoff (progress_of old))) (sym b.bound) tt;
  }

  pub begins_with : (old : Progress) → IsSeenSo home.turn home given way → IsBegun home old
      → IsBegun home (progress_of old)
  begins_with old direction b = record {
    progress = subst (λ (o : Option (List Slot)). IsProgress home o (progress_of old) [])
        (sym (shown_is home way end kept)) (first_progress (so_only_up home given way direction) old b);
    bound = b.bound;
    count = kept_count;
    room = b.room;
    few = b.few;
  }

  pub taken_with : IsSeenSo home.turn home given way
      → IsSomeAnd (shown_best (length home.cranes) (Least end) way kept)
      (λ first. IsTightForm home given first × (ends home first ≤ ends home given))
  taken_with direction =
      subst (λ (o : Option (List Slot)). IsSomeAnd o (λ first. IsTightForm home given first × (ends home first ≤ ends home given)))
      (sym (shown_is home way end kept)) (form_is direction, omega (arith, no_later, end_is))

-- before any is offered, nothing is known before the first line
pub begins_without : (home : InstanceView) (limit : ℕ) (incumbent : List Slot) (path : SmallVec ℕ)
    → length incumbent ≡ length home.tasks → HasRoom most_tasks path → limit ≤ most_branchings
    → IsBegun home (begun limit incumbent path)
begins_without home limit incumbent path count room few = record {
  progress = record {
    few = omega arith;
    branched = refl;
    bound = refl;
    known = record {
      reached = λ end e. absurd (cc e);
      given = tt;
      least = λ end k d low. absurd (omega (arith, low));
    };
    under = tt;
    best = λ end e. absurd (cc e);
    late = λ left. tt;
  };
  bound = refl;
  count = count;
  room = room;
  few = few;
}

-- what goes one way in its direction goes up as it is seen there
up_seen : (home : InstanceView) (given : List Slot) (way : Direction) → IsDirection home given way
    → GoesUp (seen home way) (seen_schedule home given way)
up_seen home given Up direction = direction
up_seen home given Down direction = direction.0.mirrored

feasible_seen : (home : InstanceView) (given : List Slot) (way : Direction) → home.turn ≡ Free → Feasible home given
    → way ≡ Up → GoesBy (seen home way).turn (seen home way) (seen_schedule home given way)
feasible_seen home given Up as_free f up = subst (λ (t : Turn). GoesBy t home given) (sym as_free) f
feasible_seen home given Down as_free f up = absurd (cc up)

-- what cranes may follow they may as it is seen
pub goes_seen : (home : InstanceView) (given : List Slot) (way : Direction) → IsSeenSo home.turn home given way
    → GoesBy (seen home way).turn (seen home way) (seen_schedule home given way)
goes_seen home given way so = by_turn home.turn refl so
  where
    by_turn : (turn : Turn) → home.turn ≡ turn → IsSeenSo turn home given way
        → GoesBy (seen home way).turn (seen home way) (seen_schedule home given way)
    by_turn OneWay one direction =
        goes_by (seen home way).turn (seen home way) (seen_schedule home given way) (up_seen home given way direction)
    by_turn Free as_free f = feasible_seen home given way as_free f.0 f.1

pub seen_soon : (home : InstanceView) (given : List Slot) (way : Direction) → IsJudgeable home given
    → (j : ℕ) → j < length (seen home way).tasks → start_of (seen_schedule home given way) j ≤ most_start
seen_soon home given way judgeable j low =
    let n = seen-task_count home way in
    let here : j < length home.tasks = omega (arith, n, low) in
    omega (arith, seen-start_of home given way j (omega (arith, judgeable.all_tasks, here)), judgeable.start_range j here)

-- ---- an offer

improving : (end : ℕ) (known : Bound) → Improves end known → ¬ IsAtMost known (Least end)
improving end Never sooner late = late
improving end (Least least) sooner late = omega (arith, sooner, late)

module _ (home : InstanceView) (old : Progress) (b : IsBegun home old) where
  known_is : best_end home (known_best home old) ≡ old.incumbent_end
  known_is = best_end_is home (known_best home old) old [] b.progress

  -- it may aim at any end that comes no later than the incumbent's
  pub aims_at : (aim : Bound) → IsAtMost aim old.incumbent_end → IsBegun home (record old { aim = aim })
  aims_at aim under =
      let new = record old { aim = aim } in
      record {
        progress = record {
          few = b.progress.few;
          branched = b.progress.branched;
          bound = b.progress.bound;
          known = b.progress.known;
          under = subst (IsAtMost aim) (sym known_is) under;
          best = λ end e. kept_as home (known_best home old) old new [] [] end refl refl (λ n c. c) (b.progress.best end e);
          late = λ left. subst (IsAtMost (cutoff new)) (sym b.bound) (at_most_never (cutoff new));
        };
        bound = b.bound;
        count = b.count;
        room = b.room;
        few = b.few;
      }

  pub aims_lower : (aim : Bound) → IsBegun home (record old { aim = lesser old.aim aim })
  aims_lower aim =
      aims_at (lesser old.aim aim)
      (first_through old.aim aim old.incumbent_end (subst (IsAtMost old.aim) known_is b.progress.under))

  pub aims_best : IsBegun home (record old { aim = old.incumbent_end })
  aims_best = aims_at old.incumbent_end (at_most_same old.incumbent_end)

  -- it aims at the incumbent's end, which is that of what it begins with
  pub aim_is : old.aim ≡ old.incumbent_end → old.aim ≡ best_end home (known_best home old)
  aim_is e = e ∙ sym known_is

module _ (home : InstanceView) (given : List Slot) (old : Progress) (b : IsBegun home old) where
  -- the search begins with it where it ends before what the search began with
  pub offer_taken : (v : Valid home) (way : Direction) (now : Progress) → IsJudgeable home given
      → IsSeenSo home.turn home given way → Improves (ends home given) old.incumbent_end
      → IsBegunWith home given way old now
      → IsBegun home now × IsOffered home given (known_best home old) (known_best home now)
  offer_taken v way now judgeable so sooner w =
      let goes = goes_seen home given way so in
      let there = subst (λ (e : Bound). ¬ IsAtMost e (Least (ends home given))) (sym (known_is home old b))
      (improving (ends home given) old.incumbent_end sooner) in
      subst (λ (p : Progress). IsBegun home p × IsOffered home given (known_best home old) (known_best home p)) (sym w.is) (
        begins_with home v given way now.incumbent w.end judgeable goes w.tightened old so b,
        record {
          kept = λ late. absurd (there late);
          taken = λ _. taken_with home v given way now.incumbent w.end judgeable goes w.tightened so;
        },
      )
