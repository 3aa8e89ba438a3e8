-- The end of the best schedule, whichever way it goes.
use Rattle.std.proofs.Common.{◌≡◌, ℕ, ◌+◌, ◌≤◌, List, [], ◌∷◌, length, map, max, Option, None, Some, refl, ap, sym, ◌∙◌, IfSome, MatchOption}
use Rattle.qc_num.specs.declared.bound.Bound.TheVariants.{Least, Never}
use Rattle.qc_close.specs.Model.{Direction, Up, Down, Slot, Task, most_start, InstanceView, mirror_slot, mirror_task, ends, last_end, starts, seen, seen_schedule}
use Rattle.qc_model.proofs.CompleteNodes.{ends_with}
use Rattle.qc_search.specs.declared.progress.Progress.{Progress}
use Rattle.qc_search.specs.Earned.{TreeNode}
use Rattle.qc_search.specs.Progress.{IsProgress, IsKept, shown_best}
use Rattle.qc_search.specs.Run.{best_end}
use Rattle.qc_search.proofs.ShownLemmas.{best_shown}

-- a schedule of the mirror ends when it does turned back
turned_end : (inst : InstanceView) (tasks : List Task) (sched : List Slot)
    → last_end tasks (starts (map (mirror_slot inst) sched)) ≡ last_end (map (mirror_task inst) tasks) (starts sched)
turned_end inst [] sched = refl
turned_end inst (t ∷ ts) [] = refl
turned_end inst (t ∷ ts) (s ∷ ss) = ap (λ n. max (s.start + t.ticks) n) (turned_end inst ts ss)

pub seen_end : (inst : InstanceView) (sched : List Slot) (way : Direction)
    → ends inst (seen_schedule inst sched way) ≡ ends (seen inst way) sched
seen_end inst sched Up = refl
seen_end inst sched Down = turned_end inst inst.tasks sched

module _ (home : InstanceView) (first : Option (List Slot)) (done : Progress) (nodes : List TreeNode)
    (course : IsProgress home first done nodes) where
  pub kept_end : (end : ℕ) (k : IsKept home first done nodes end) → end ≡ ends home (seen_schedule home done.incumbent k.node.way)
  kept_end end k =
      let begins = ends_with (seen home k.node.way) k.node.decisions k.begins k.solved.least.meets in
      k.ends ∙ sym begins ∙ ap (ends (seen home k.node.way)) (sym k.is) ∙ sym (seen_end home done.incumbent k.node.way)

  end_of_best : (o : Option (List Slot)) → MatchOption o (done.incumbent_end ≡ Never) (λ s. done.incumbent_end ≡ Least (ends home s))
      → best_end home o ≡ done.incumbent_end
  end_of_best None h = sym h
  end_of_best (Some s) h = sym h

  -- the end of the best schedule as it is answered is the least end that is known
  pub best_end_is : best_end home (shown_best (length home.cranes) done.incumbent_end done.way done.incumbent) ≡ done.incumbent_end
  best_end_is = end_of_best _ (best_shown home first done nodes course (λ s. done.incumbent_end ≡ Least (ends home s))
      (λ end e k. e ∙ ap Least (kept_end end k)))

  -- and no task of it ends at a tick of more digits than a start has
  pub best_soon : (best : Option (List Slot)) → best_end home best ≡ done.incumbent_end → IfSome best (λ sched. ends home sched ≤ most_start)
  best_soon None is = tt
  best_soon (Some sched) is = (course.best (ends home sched) (sym is)).soon
