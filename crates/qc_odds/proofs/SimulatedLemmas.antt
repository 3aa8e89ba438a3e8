-- A plan that is worked run after run.
use Rattle.std.proofs.Common.{◌≡◌, ℕ, ◌+◌, ◌-◌, ◌≤◌, Bool, List, length, sym, subst, ◌∙◌, arith}
use Rattle.qc_model.specs.declared.schedule.Slot.{Slot}
use Rattle.qc_model.specs.Instance.{InstanceView}
use Rattle.qc_past.specs.declared.task.PastTask.{PastTask}
use Rattle.qc_odds.specs.Course.{AreStarts, CourseView, IsLastEnd}
use Rattle.qc_odds.specs.Critical.{AreMarked}
use Rattle.qc_odds.specs.Lengths.{AreDrawn, AreLengths}
use Rattle.qc_odds.specs.Moments.{AreSoon, most_end}
use Rattle.qc_odds.specs.Simulated.{AddsRun, HasNone, HasRuns, IsSimulated}
use Rattle.qc_odds.specs.Sums.{IsRun, Run}
use Rattle.qc_odds.specs.declared.odds.Odds.{Odds}
use Rattle.qc_odds.specs.declared.simulation.RunLists.{RunLists}
use Rattle.qc_odds.specs.declared.simulation.Simulation.{Simulation}
use Rattle.qc_odds.proofs.SumLemmas.{last_early, none_run, run_added}

pub simulated_none : (past : List PastTask) (inst : InstanceView) (plan : List Slot) (seed room : ℕ) (course : CourseView) (lists : RunLists) (odds : Odds)
    → course.inst ≡ inst → course.plan ≡ plan → length lists.lengths.items ≡ length inst.tasks → length lists.marked.items ≡ length inst.tasks
    → HasNone inst room odds → IsSimulated past inst plan seed 0 room (record { course = course; lists = lists; odds = odds })
simulated_none past inst plan seed room course lists odds same planned lengths marked none =
    record { inst_is = same; plan_is = planned; lengths = lengths; marked = marked; runs = none_run past inst plan seed room odds none }

module _ (past : List PastTask) (inst : InstanceView) (plan : List Slot) (seed number room : ℕ) (old : Simulation) (course : CourseView) (lists : RunLists)
    (odds : Odds) (last : ℕ) (lengths : List ℕ) (marked : List Bool) (lengths_are : lists.lengths.items ≡ lengths) (marked_are : lists.marked.items ≡ marked)
    (is : IsSimulated past inst plan seed (number - 1) room old) (some : 1 ≤ number)
    (same : course.inst ≡ old.course.inst) (planned : course.plan ≡ old.course.plan)
    (drawn : AreDrawn past old.course.inst seed number lengths) (are : AreLengths old.course.inst lengths)
    (starts : AreStarts course.inst course.plan lists.lengths.items course.starts) (ends : IsLastEnd lists.lengths.items course.starts last)
    (soon : AreSoon course.starts) (marks : AreMarked course.inst course.plan lists.lengths.items course.starts last marked)
    (adds : AddsRun course.inst course.plan lists.lengths.items course.starts last lists.marked.items old.odds odds) where
  abbrev run : Run
  run = record { lengths = lists.lengths.items; starts = course.starts; last = last; marked = lists.marked.items }

  of_inst : course.inst ≡ inst
  of_inst = same ∙ is.inst_is

  of_plan : course.plan ≡ plan
  of_plan = planned ∙ is.plan_is

  -- what is said of the course is said of the plan
  on : (P : InstanceView → List Slot → Type 0) → P course.inst course.plan → P inst plan
  on P p = subst (λ (i : InstanceView). P i plan) of_inst (subst (λ (s : List Slot). P course.inst s) of_plan p)

  drawn_of : AreDrawn past inst seed number lists.lengths.items
  drawn_of = subst (λ (i : InstanceView). AreDrawn past i seed number lists.lengths.items) is.inst_is (subst (AreDrawn past old.course.inst seed number) (sym lengths_are) drawn)

  next : (number - 1) + 1 ≡ number
  next = omega (arith, some)

  run_is : IsRun past inst plan seed number run
  run_is = record {
    drawn = drawn_of;
    starts = on (λ i s. AreStarts i s lists.lengths.items course.starts) starts;
    last = ends;
    marked = on (λ i s. AreMarked i s lists.lengths.items course.starts last lists.marked.items)
        (subst (AreMarked course.inst course.plan lists.lengths.items course.starts last) (sym marked_are) marks);
  }

  early : last ≤ most_end
  early = last_early course.inst lists.lengths.items course.starts last (subst (λ (i : InstanceView). AreLengths i lists.lengths.items) (sym same) (subst (AreLengths old.course.inst) (sym lengths_are) are)) soon starts.count ends

  pub simulated_next : IsSimulated past inst plan seed number room (record { course = course; lists = lists; odds = odds })
  simulated_next = record {
    inst_is = of_inst;
    plan_is = of_plan;
    lengths = drawn_of.count;
    marked = run_is.marked.count;
    runs = subst (λ (n : ℕ). HasRuns past inst plan seed n room odds) next
        (run_added past inst plan seed room (number - 1) old.odds odds run is.runs
        (subst (λ (n : ℕ). IsRun past inst plan seed n run) (sym next) run_is) early
        (on (λ i s. AddsRun i s lists.lengths.items course.starts last lists.marked.items old.odds odds) adds));
  }
