-- The best schedule as it is answered: it can be judged, and is tight.
use Rattle.std.proofs.Common.{◌≡◌, ℕ, ◌-◌, ◌<◌, ◌≤◌, All, List, length, get_or, map, Option, None, Some, refl, ap, sym, subst, subst₂, ◌∙◌, ext_get_or, arith, IfSome, MatchOption}
use Rattle.std.proofs.lemmas.List.{get_or-map, get_or_default, length-map}
use Rattle.qc_num.specs.declared.bound.Bound.{Bound}
use Rattle.qc_num.specs.declared.bound.Bound.TheVariants.{Least, Never}
use Rattle.qc_close.specs.Model.{Direction, Up, Down, Slot, Turn, OneWay, Free, GoesBy, most_start, InstanceView, Valid, Goes, IsJudgeable, AreLeast, schedule_with, GoesUp, flipped, mirror, Feasible, crane_of, no_slot, start_of, starts, seen, seen_schedule}
use Rattle.qc_model.proofs.CompleteNodes.{feasible_least, goes_least, starts_with}
use Rattle.qc_model.proofs.MirrorLemmas.{seen_valid}
use Rattle.qc_model.proofs.NodeLemmas.{ends_by, start_at}
use Rattle.qc_model.proofs.SeenLemmas.{seen-crane_count, seen-crane_of, seen-start_of, seen-task_count}
use Rattle.qc_search.specs.declared.progress.Progress.{Progress}
use Rattle.qc_search.specs.Progress.{IsProgress, IsKept, shown_best}
use Rattle.qc_search.specs.Earned.{TreeNode}
use Rattle.qc_starts.specs.Tight.{IsAllowedSo, IsTight, decided_by}
use Rattle.qc_search.proofs.DecidedLemmas.{decided_least}

-- turned twice, a schedule is as it was
turned_back : (cranes : ℕ) (sched : List Slot)
    → ((j : ℕ) → j < length sched → crane_of sched j < cranes)
    → map (flipped cranes) (map (flipped cranes) sched) ≡ sched
turned_back cranes sched low =
    ext_get_or no_slot (map (flipped cranes) (map (flipped cranes) sched)) sched (twice ∙ once) (λ j at.
    let here : j < length sched = omega (arith, twice, once, at) in
    get_or-map (flipped cranes) (map (flipped cranes) sched) j no_slot no_slot (omega (arith, once, here))
    ∙ ap (flipped cranes) (get_or-map (flipped cranes) sched j no_slot no_slot here)
    ∙ back (get_or sched j no_slot) (low j here))
  where
    twice : length (map (flipped cranes) (map (flipped cranes) sched)) ≡ length (map (flipped cranes) sched)
    twice = length-map (map (flipped cranes) sched) (flipped cranes)

    once : length (map (flipped cranes) sched) ≡ length sched
    once = length-map sched (flipped cranes)

    back : (s : Slot) → s.crane < cranes → flipped cranes (flipped cranes s) ≡ s
    back s h =
        let same : cranes - 1 - (cranes - 1 - s.crane) ≡ s.crane = omega (arith, h) in
        ap (λ (k : ℕ). record s { crane = k }) same

pub turned_as_met : (home : InstanceView) (way : Direction) (sched : List Slot)
    → ((j : ℕ) → j < length sched → crane_of sched j < length home.cranes)
    → seen_schedule home (seen_schedule home sched way) way ≡ sched
turned_as_met home Up sched low = refl
turned_as_met home Down sched low = turned_back (length home.cranes) sched low

pub seen_low : (home : InstanceView) (way : Direction) (sched : List Slot) (j : ℕ) → j < length sched
    → crane_of sched j < length home.cranes → crane_of (seen_schedule home sched way) j < length home.cranes
seen_low home Up sched j at low = low
seen_low home Down sched j at low = omega (arith, seen-crane_of home sched Down j at, low)

pub seen_count : (home : InstanceView) (way : Direction) (sched : List Slot)
    → length (seen_schedule home sched way) ≡ length sched
seen_count home Up sched = refl
seen_count home Down sched = length-map sched (flipped (length home.cranes))

pub goes_as : (home : InstanceView) (way : Direction) (sched met : List Slot) → seen_schedule home sched way ≡ met
    → ((j : ℕ) → j < length home.tasks → crane_of sched j < length home.cranes) → GoesUp (seen home way) met
    → Goes home sched way
goes_as home Up sched met same low goes = subst (GoesUp home) (sym same) goes
goes_as home Down sched met same low goes =
    record { crane_range = low; mirrored = subst (GoesUp (mirror home)) (sym same) goes }

-- the mirror leaves the turn as it is
pub seen_turn : (home : InstanceView) (way : Direction) → (seen home way).turn ≡ home.turn
seen_turn home Up = refl
seen_turn home Down = refl

-- what is seen as it is is feasible as it is seen
feasible_so : (home : InstanceView) (way : Direction) (sched : List Slot) → way ≡ Up → Feasible (seen home way) sched
    → Feasible home (seen_schedule home sched way)
feasible_so home Up sched up f = f
feasible_so home Down sched up f = absurd (cc up)

-- where cranes may follow what is met, they may follow it as it is answered
pub allowed_as : (home : InstanceView) (way : Direction) (met : List Slot) → GoesBy (seen home way).turn (seen home way) met
    → Feasible (seen home way) met → (home.turn ≡ Free → way ≡ Up)
    → seen_schedule home (seen_schedule home met way) way ≡ met
    → ((j : ℕ) → j < length home.tasks → crane_of (seen_schedule home met way) j < length home.cranes)
    → IsAllowedSo home.turn home (seen_schedule home met way) way
allowed_as home way met goes f only_up same low = by_turn home.turn refl
  where
    by_turn : (turn : Turn) → home.turn ≡ turn → IsAllowedSo turn home (seen_schedule home met way) way
    by_turn OneWay one =
        goes_as home way (seen_schedule home met way) met same low
        (subst (λ (t : Turn). GoesBy t (seen home way) met) (seen_turn home way ∙ one) goes)
    by_turn Free as_free = (feasible_so home way met (only_up as_free) f, only_up as_free)

module _ (home : InstanceView) (first : Option (List Slot)) (v : Valid home) (done : Progress)
    (nodes : List TreeNode) (end : ℕ) (k : IsKept home first done nodes end) where
  abbrev inst : InstanceView
  inst = seen home k.node.way

  abbrev kept : List Slot
  kept = schedule_with inst k.node.decisions k.begins

  kept_valid : Valid inst
  kept_valid = seen_valid home v k.node.way

  kept_goes : GoesBy inst.turn inst kept
  kept_goes =
      goes_least inst k.node.decisions k.begins kept_valid k.fits k.solved.complete k.solved.in_reach k.solved.least

  kept_feasible : Feasible inst kept
  kept_feasible =
      feasible_least inst k.node.decisions k.begins kept_valid k.fits k.solved.complete k.solved.in_reach k.solved.least

  kept_least : AreLeast inst (decided_by inst kept) (starts kept)
  kept_least =
      decided_least inst k.node.decisions k.begins kept_valid k.fits k.solved.complete k.solved.in_reach k.solved.least

  kept_count : length kept ≡ length home.tasks
  kept_count = kept_feasible.all_tasks ∙ seen-task_count home k.node.way

  kept_low : (j : ℕ) → j < length home.tasks → crane_of kept j < length home.cranes
  kept_low j low =
      let n = seen-task_count home k.node.way in
      let c = kept_feasible.crane_range j (omega (arith, n, low)) in
      omega (arith, c, seen-crane_count home k.node.way)

  kept_soon : (j : ℕ) → j < length home.tasks → start_of kept j ≤ most_start
  kept_soon j low =
      let n = seen-task_count home k.node.way in
      let met = k.solved.least.meets.all_tasks in
      let by = ends_by inst.tasks k.begins j met (omega (arith, n, low)) in
      let is = ap (λ (b : List ℕ). get_or b j 0) (starts_with inst k.node.decisions k.begins met) in
      omega (arith, by, is, start_at kept j, k.ends, k.soon)

  pub kept_cranes : All (λ (s : Slot). s.crane < length home.cranes) done.incumbent
  kept_cranes =
      subst (All (λ (s : Slot). s.crane < length home.cranes)) (sym k.is) (λ j d low.
      let here = kept_low j (omega (arith, kept_count, low)) in
      subst (λ (s : Slot). s.crane < length home.cranes) (get_or_default kept j no_slot d low) here)

  -- it as it is answered
  abbrev shown : List Slot
  shown = seen_schedule home kept k.node.way

  shown_low : (j : ℕ) → j < length home.tasks → crane_of shown j < length home.cranes
  shown_low j low = seen_low home k.node.way kept j (omega (arith, kept_count, low)) (kept_low j low)

  pub shown_judgeable : IsJudgeable home shown
  shown_judgeable = record {
    all_tasks = seen_count home k.node.way kept ∙ kept_count;
    crane_range = shown_low;
    start_range = λ j low.
        let is = seen-start_of home kept k.node.way j (omega (arith, kept_count, low)) in
        omega (arith, is, kept_soon j low);
  }

  same_met : seen_schedule home shown k.node.way ≡ kept
  same_met = turned_as_met home k.node.way kept (λ j low. kept_low j (omega (arith, kept_count, low)))

  pub shown_goes : IsAllowedSo home.turn home shown k.node.way
  shown_goes = allowed_as home k.node.way kept kept_goes kept_feasible k.only_up same_met shown_low

  pub shown_tight : IsTight home shown
  shown_tight =
      let same = same_met in
      record {
        way = k.node.way;
        goes = shown_goes;
        least = subst (λ (s : List Slot). AreLeast inst (decided_by inst s) (starts s)) (sym same) kept_least;
      }

-- what is answered is nothing where no end was met, and else the schedule that is kept, as it is seen
module _ (home : InstanceView) (first : Option (List Slot)) (done : Progress) (nodes : List TreeNode)
    (course : IsProgress home first done nodes) (P : List Slot → Type 0)
    (shown_is : (end : ℕ) → done.incumbent_end ≡ Least end → (k : IsKept home first done nodes end)
    → P (seen_schedule home done.incumbent k.node.way)) where
  by_met : (met : Bound) (way : Direction) → done.incumbent_end ≡ met → done.way ≡ way
      → MatchOption (shown_best (length home.cranes) met way done.incumbent) (done.incumbent_end ≡ Never) P
  by_met Never way met_is way_is = met_is
  by_met (Least end) Up met_is way_is =
      let k = course.best end met_is in
      subst P (ap (seen_schedule home done.incumbent) (k.way ∙ way_is)) (shown_is end met_is k)
  by_met (Least end) Down met_is way_is =
      let k = course.best end met_is in
      subst P (ap (seen_schedule home done.incumbent) (k.way ∙ way_is)) (shown_is end met_is k)

  pub best_shown : MatchOption (shown_best (length home.cranes) done.incumbent_end done.way done.incumbent) (done.incumbent_end ≡ Never) P
  best_shown = by_met done.incumbent_end done.way refl refl

some_shown : (N : Type 0) (P : List Slot → Type 0) (o : Option (List Slot)) → MatchOption o N P → IfSome o P
some_shown N P None h = tt
some_shown N P (Some s) h = h

module _ (home : InstanceView) (first : Option (List Slot)) (v : Valid home) (done : Progress)
    (nodes : List TreeNode) (course : IsProgress home first done nodes) where
  pub cranes_low : (end : ℕ) → done.incumbent_end ≡ Least end → All (λ (s : Slot). s.crane < length home.cranes) done.incumbent
  cranes_low end e = kept_cranes home first v done nodes end (course.best end e)

  pub judgeable_is : IfSome (shown_best (length home.cranes) done.incumbent_end done.way done.incumbent) (IsJudgeable home)
  judgeable_is = some_shown _ (IsJudgeable home) _ (best_shown home first done nodes course (IsJudgeable home) (λ end e k.
      subst (λ (s : List Slot). IsJudgeable home (seen_schedule home s k.node.way)) (sym k.is)
      (shown_judgeable home first v done nodes end k)))

  pub tight_is : IfSome (shown_best (length home.cranes) done.incumbent_end done.way done.incumbent) (IsTight home)
  tight_is = some_shown _ (IsTight home) _ (best_shown home first done nodes course (IsTight home) (λ end e k.
      subst (λ (s : List Slot). IsTight home (seen_schedule home s k.node.way)) (sym k.is)
      (shown_tight home first v done nodes end k)))

  pub goes_is : IfSome (shown_best (length home.cranes) done.incumbent_end done.way done.incumbent)
      (λ s. IsAllowedSo home.turn home s done.way)
  goes_is = some_shown _ (λ s. IsAllowedSo home.turn home s done.way) _ (best_shown home first done nodes course
      (λ s. IsAllowedSo home.turn home s done.way) (λ end e k.
      subst₂ (λ (s : List Slot) (way : Direction). IsAllowedSo home.turn home (seen_schedule home s k.node.way) way)
      (sym k.is) k.way (shown_goes home first v done nodes end k)))
