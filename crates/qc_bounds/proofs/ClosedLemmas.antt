-- Which leaf closes a node, and that nothing else does.
use Rattle.std.proofs.Common.{◌≡◌, ℕ, ◌<◌, ◌≤◌, nat_le, ◌&&◌, true, not, ◌⊎◌, inl, inr, List, [], ◌∷◌, None, Some, sym, ap, subst, ◌∙◌, arith}
use Rattle.std.proofs.lemmas.Bool.{and_from, cond-true, false≢true, le-leb, and_parts}
use Rattle.qc_num.specs.Bounds.{IsAtMost}
use Rattle.qc_num.specs.declared.bound.Bound.{Bound}
use Rattle.qc_num.specs.declared.bound.Bound.TheVariants.{Least, Never}
use Rattle.qc_close.specs.Model.{Decision, Assign, Order, MOST_START, IsClosable, IsWorkBound, IsWorkLate, out_of_reach, no_starts, complete, ends_late, work_late, InstanceView, is_out_of_reach, work_over, HasStarts, IsComplete, IsInReach, IsNodeEnd, last_end, is_in_reach, reaches}
use Rattle.qc_model.proofs.Bounded.{last_end_le}
use Rattle.qc_model.proofs.NodeLemmas.{ends_by}
use Rattle.qc_starts.specs.Seen.{IsWhy}
use Rattle.qc_bounds.specs.declared.leaves.LeafKind.TheVariants.{Chain, Work}
use Rattle.qc_bounds.specs.Closed.{IsClosedBy, IsSpentBy}
use Rattle.qc_bounds.specs.Work.{IsWorkShown}

-- a node has one end
end_le : (inst : InstanceView) (ds : List Decision) (end other : ℕ) → IsNodeEnd inst ds end → IsNodeEnd inst ds other
    → end ≤ other
end_le inst ds end other a b =
    let le = last_end_le inst.tasks a.starts (last_end inst.tasks b.starts) (λ k low _.
    omega (arith, a.least.least b.starts b.least.meets k low, ends_by inst.tasks b.starts k b.least.meets.all_tasks low)) in
    omega (arith, a.ends, b.ends, le)

pub one_end : (inst : InstanceView) (ds : List Decision) (end other : ℕ) → IsNodeEnd inst ds end
    → IsNodeEnd inst ds other → end ≡ other
one_end inst ds end other a b = omega (arith, end_le inst ds end other a b, end_le inst ds other end b a)

pub never_out_of_reach : (inst : InstanceView) (ds : List Decision) → IsInReach inst ds → is_out_of_reach inst ds ≡ true → ⊥
never_out_of_reach inst [] reach out = false≢true out
never_out_of_reach inst (Assign j k ∷ ds) reach out = false≢true (sym (ap not (and_parts (reaches inst j k) (is_in_reach inst ds) reach).0) ∙ out)
never_out_of_reach inst (Order i j ∷ ds) reach out = false≢true out

-- what is late is late with a later end
pub later : (u : Bound) (end more : ℕ) → end ≤ more → IsAtMost u (Least end) → IsAtMost u (Least more)
later (Least n) end more le late = omega arith
later Never end more le late = late

module _ (inst : InstanceView) (ds : List Decision) where
  pub chain_closes : (u : Bound) (tasks : List ℕ) (end : ℕ) → IsWhy inst ds tasks → IsNodeEnd inst ds end
      → IsComplete inst ds ⊎ IsAtMost u (Least end) → IsClosedBy inst ds u Chain tasks
  chain_closes u tasks end why is (inl all) = (why, inl all)
  chain_closes u tasks end why is (inr late) =
      (why, inr (subst (λ (n : ℕ). IsAtMost u (Least n)) (one_end inst ds end why.end is why.ends) late))

  -- a node in reach that is neither complete nor late in either way isn't closable
  pub never_closable : (u : Bound) (end : ℕ) → IsInReach inst ds → HasStarts inst ds → (¬ IsComplete inst ds)
      → IsNodeEnd inst ds end → (¬ IsAtMost u (Least end)) → (¬ IsWorkLate inst ds u) → IsClosable inst ds u → ⊥
  never_closable u end reach starts more is early short (out_of_reach out) = never_out_of_reach inst ds reach out
  never_closable u end reach starts more is early short (no_starts none) = none starts
  never_closable u end reach starts more is early short (complete all) = more all
  never_closable u end reach starts more is early short (ends_late late) =
      early (later u late.end end (end_le inst ds late.end end late.is is) late.late)
  never_closable u end reach starts more is early short (work_late late) = short late

  -- its work shows u
  pub work_closes : (u : Bound) (tasks : List ℕ) (end : ℕ) → HasStarts inst ds → (¬ IsComplete inst ds) → tasks ≡ []
      → IsWorkShown inst ds u end → IsClosedBy inst ds u (Work end) tasks
  work_closes u tasks end starts more empty w = (
    record { starts = starts; undecided = more; shows = w.shows; soon = w.soon; empty = empty },
    w.is,
  )

  pub chain_spends : (tasks : List ℕ) (end bound : ℕ) → IsWhy inst ds tasks → IsNodeEnd inst ds end
      → IsWorkBound inst ds bound → IsComplete inst ds ⊎ (bound ≤ end) → IsSpentBy inst ds Chain tasks
  chain_spends tasks end bound why is shown (inl all) = (why, inl all)
  chain_spends tasks end bound why is shown (inr low) =
      (why, inr (bound, shown, omega (arith, one_end inst ds end why.end is why.ends)))

  pub work_spends : (tasks : List ℕ) (end bound : ℕ) → HasStarts inst ds → (¬ IsComplete inst ds) → IsNodeEnd inst ds end
      → IsWorkBound inst ds bound → bound ≤ MOST_START → end < bound → tasks ≡ [] → IsSpentBy inst ds (Work bound) tasks
  work_spends tasks end bound starts more is shown soon late empty = (
    record {
      starts = starts;
      undecided = more;
      shows = cond-true (nat_le 1 bound && work_over inst ds bound) (Some (Least bound)) None
          (and_from (nat_le 1 bound) (work_over inst ds bound) (le-leb 1 bound (omega (arith, late))) (shown.holds (omega (arith, late))));
      soon = soon;
      empty = empty;
    },
    shown,
    (end, is, late),
  )
