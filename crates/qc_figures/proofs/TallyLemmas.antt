-- What the tasks of a crane come to with one task more.
use Rattle.std.proofs.Common.{◌≡◌, ℕ, ◌+◌, ◌≤◌, max, true, false, List, [], ◌∷◌, ◌++◌, refl, ap, sym, ◌∙◌, arith, sum_by}
use Rattle.std.specs.List.{range_with_len}
use Rattle.std.proofs.lemmas.Bool.{cond-false, cond-true}
use Rattle.std.proofs.lemmas.List.Sums.{sum_by_push}
use Rattle.qc_model.specs.declared.schedule.Slot.{Slot}
use Rattle.qc_model.specs.Instance.{task, ticks_of}
use Rattle.qc_model.specs.Numbers.{most_end, most_work}
use Rattle.qc_model.specs.Rules.{end_of}
use Rattle.qc_stow.specs.Moves.{most_moves}
use Rattle.qc_tasks.proofs.Loops.{range_more}
use Rattle.qc_figures.specs.declared.tally.Tally.{Tally}
use Rattle.qc_figures.specs.Figures.{PlanView, does, greatest, moves_in, of_crane, together}
use Rattle.qc_figures.specs.Tallies.{IsTally}

pub sum_next : (f : ℕ → ℕ) (n : ℕ) → sum_by f (range_with_len 0 (n + 1)) ≡ sum_by f (range_with_len 0 n) + f n
sum_next f n = ap (sum_by f) (range_more n (n + 1) refl) ∙ sum_by_push f (range_with_len 0 n) n

greatest_push : (f : ℕ → ℕ) (js : List ℕ) (j : ℕ) → greatest f (js ++ j ∷ []) ≡ max (greatest f js) (f j)
greatest_push f [] j = omega arith
greatest_push f (i ∷ js) j = let rest = greatest_push f js j in omega arith

pub greatest_next : (f : ℕ → ℕ) (n : ℕ)
    → greatest f (range_with_len 0 (n + 1)) ≡ max (greatest f (range_with_len 0 n)) (f n)
greatest_next f n = ap (greatest f) (range_more n (n + 1) refl) ∙ greatest_push f (range_with_len 0 n) n

module _ (sched : List Slot) (k n : ℕ) (f : ℕ → ℕ) where
  one : does sched k n ≡ true → of_crane sched k f n ≡ f n
  one on = cond-true (does sched k n) (f n) 0 on

  none : does sched k n ≡ false → of_crane sched k f n ≡ 0
  none off = cond-false (does sched k n) (f n) 0 off

  more : does sched k n ≡ true → together sched k f (n + 1) ≡ together sched k f n + f n
  more on = sum_next (of_crane sched k f) n ∙ ap (λ (x : ℕ). together sched k f n + x) (one on)

  same : does sched k n ≡ false → together sched k f (n + 1) ≡ together sched k f n
  same off = omega (arith, sum_next (of_crane sched k f) n, none off)

  later : does sched k n ≡ true
      → greatest (of_crane sched k f) (range_with_len 0 (n + 1))
      ≡ max (greatest (of_crane sched k f) (range_with_len 0 n)) (f n)
  later on =
      greatest_next (of_crane sched k f) n
      ∙ ap (λ (x : ℕ). max (greatest (of_crane sched k f) (range_with_len 0 n)) x) (one on)

  as_late : does sched k n ≡ false
      → greatest (of_crane sched k f) (range_with_len 0 (n + 1)) ≡ greatest (of_crane sched k f) (range_with_len 0 n)
  as_late off = omega (arith, greatest_next (of_crane sched k f) n, none off)

module _ (p : PlanView) (k n : ℕ) (tally : Tally) (so_far : IsTally p k n tally) where
  pub tally_same : does p.sched k n ≡ false → IsTally p k (n + 1) tally
  tally_same off = record {
    tasks = so_far.tasks ∙ sym (same p.sched k n (λ j. 1) off);
    moves = so_far.moves ∙ sym (same p.sched k n (λ j. moves_in p.rows (task p.inst j)) off);
    work = so_far.work ∙ sym (same p.sched k n (ticks_of p.inst) off);
    end = so_far.end ∙ sym (as_late p.sched k n (end_of p.inst p.sched) off);
    few_tasks = omega (arith, so_far.few_tasks);
    few_moves = omega (arith, so_far.few_moves);
    short = omega (arith, so_far.short);
    soon = so_far.soon;
  }

  pub tally_more : (next : Tally) → does p.sched k n ≡ true
      → next.tasks ≡ tally.tasks + 1
      → next.moves ≡ tally.moves + moves_in p.rows (task p.inst n)
      → next.work ≡ tally.work + ticks_of p.inst n
      → next.end ≡ max tally.end (end_of p.inst p.sched n)
      → moves_in p.rows (task p.inst n) ≤ most_moves → ticks_of p.inst n ≤ most_work
      → end_of p.inst p.sched n ≤ most_end
      → IsTally p k (n + 1) next
  tally_more next on tasks moves work end few short soon = record {
    tasks = omega (arith, tasks, so_far.tasks, more p.sched k n (λ j. 1) on);
    moves = omega (arith, moves, so_far.moves, more p.sched k n (λ j. moves_in p.rows (task p.inst j)) on);
    work = omega (arith, work, so_far.work, more p.sched k n (ticks_of p.inst) on);
    end = end ∙ ap (λ (x : ℕ). max x (end_of p.inst p.sched n)) so_far.end
        ∙ sym (later p.sched k n (end_of p.inst p.sched) on);
    few_tasks = omega (arith, tasks, so_far.few_tasks);
    few_moves = omega (arith, moves, so_far.few_moves, few);
    short = omega (arith, work, so_far.short, short);
    soon = omega (arith, end, so_far.soon, soon);
  }
